use Rattle.dpx_watch.proofs.Bounded.{step_asked, step_length}
use Rattle.dpx_watch.proofs.laws.is_bounded.Goals as goal

pub returns-clause-asks : goal.returns-clause-asks
returns-clause-asks c = step_asked c.args.top c.args.state c.args.event

pub returns-clause-entries : goal.returns-clause-entries
returns-clause-entries c = step_length c.args.top c.args.state c.args.event
