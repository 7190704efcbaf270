use Rattle.dpx_edid.proofs.Suffices.{fetch_suffices}
use Rattle.dpx_edid.proofs.laws.some_fetch.Goals as goal

pub returns : goal.returns
returns c = fetch_suffices
