use Rattle.dpx_watch.proofs.LastStatus.{step_read}
use Rattle.dpx_watch.proofs.laws.is_read_last.Goals as goal

pub returns : goal.returns
returns c = step_read c.args.top c.args.state c.args.event
