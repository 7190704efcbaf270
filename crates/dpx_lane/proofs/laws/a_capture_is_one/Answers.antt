use Rattle.dpx_lane.proofs.WholeRows.{capture_once}
use Rattle.dpx_lane.proofs.laws.a_capture_is_one.Goals as goal

pub returns : goal.returns
returns c p pixels one other h k = capture_once p pixels one other h k
