use Rattle.dpx_reception.proofs.DueStays as laws
use Rattle.dpx_reception.proofs.laws.due_stays.Goals as goal

pub returns-clause-stays : goal.returns-clause-stays
returns-clause-stays c = laws.due_stays

pub returns-clause-parts : goal.returns-clause-parts
returns-clause-parts c = laws.parts_are_fronts
