use Rattle.dpx_reception.proofs.OneLock as laws
use Rattle.dpx_reception.proofs.laws.one_lock.Goals as goal

pub returns : goal.returns
returns c = laws.one_lock
