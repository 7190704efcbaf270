use Rattle.dpx_edid.proofs.Decided.{fetch_decided}
use Rattle.dpx_edid.proofs.laws.one_fetch.Goals as goal

pub returns : goal.returns
returns c = fetch_decided
