use Rattle.dpx_edid.proofs.Caused.{fetch_caused}
use Rattle.dpx_edid.proofs.laws.is_caused.Goals as goal

pub returns : goal.returns
returns c = fetch_caused
