use Rattle.dpx_complete.proofs.FallIsWhole.{fall_is_whole}
use Rattle.dpx_complete.proofs.laws.fall_is_whole.Goals as goal

pub returns : goal.returns
returns c = fall_is_whole
