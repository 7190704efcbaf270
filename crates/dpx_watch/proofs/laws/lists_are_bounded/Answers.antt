use Rattle.dpx_watch.proofs.Bounded.{list_asked, list_length}
use Rattle.dpx_watch.proofs.laws.lists_are_bounded.Goals as goal

pub returns-clause-asks : goal.returns-clause-asks
returns-clause-asks c = list_asked c.args.top

pub returns-clause-entries : goal.returns-clause-entries
returns-clause-entries c = list_length c.args.top
