use Rattle.dpx_timing.proofs.Holds.{schedule}
use Rattle.dpx_timing.proofs.laws.plans_hold.Goals as goal

pub returns : goal.returns
returns c = schedule
