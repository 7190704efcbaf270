use Rattle.dpx_aux.proofs.Parts.{then_ok}
use Rattle.dpx_edid.specs.Fetch.{FetchOutcome}
use Rattle.dpx_edid.proofs.fetch.fetch.Goals as goal

pub returns-clause-fetches : goal.returns-clause-fetches
unfolding FetchOutcome
returns-clause-fetches g c = then_ok c.in_ok-transact.ensures.transacts c.read_block.ensures.reads
