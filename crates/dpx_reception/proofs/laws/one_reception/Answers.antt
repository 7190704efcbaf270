use Rattle.dpx_reception.proofs.OneReception as laws
use Rattle.dpx_reception.proofs.laws.one_reception.Goals as goal

pub returns : goal.returns
returns c = laws.one_reception
