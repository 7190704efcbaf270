use Rattle.std.proofs.Common.{sym}
use Rattle.dpx_base.specs.Key.{since_reset}
use Rattle.dpx_lane.proofs.KeyBytes.{seed}
use Rattle.dpx_lane.proofs.scrambler.Scrambler.new.Goals as goal

pub returns : goal.returns
unfolding since_reset
returns c = sym seed
