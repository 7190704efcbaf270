use Rattle.dpx_align.proofs.Completing.{sets_are_one, completes_once, sets_come_first}
use Rattle.dpx_align.proofs.SetsStay.{sets_stay}
use Rattle.dpx_align.proofs.laws.sets_come_before_the_fault.Goals as goal

pub returns-clause-set : goal.returns-clause-set
returns-clause-set c = sets_are_one

pub returns-clause-stays : goal.returns-clause-stays
returns-clause-stays c = sets_stay

pub returns-clause-clock : goal.returns-clause-clock
returns-clause-clock c = completes_once

pub returns-clause-before : goal.returns-clause-before
returns-clause-before c = sets_come_first
