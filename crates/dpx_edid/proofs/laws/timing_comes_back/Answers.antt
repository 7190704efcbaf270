use Rattle.dpx_edid.proofs.TimingBack.{timing_back}
use Rattle.dpx_edid.proofs.laws.timing_comes_back.Goals as goal

pub returns : goal.returns
returns c = timing_back
