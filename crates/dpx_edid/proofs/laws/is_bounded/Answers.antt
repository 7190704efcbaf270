use Rattle.dpx_edid.proofs.Bounded.{fetch_few, fetch_asks_few}
use Rattle.dpx_edid.proofs.laws.is_bounded.Goals as goal

pub returns-clause-asks : goal.returns-clause-asks
returns-clause-asks c = fetch_asks_few

pub returns-clause-entries : goal.returns-clause-entries
returns-clause-entries c = fetch_few
