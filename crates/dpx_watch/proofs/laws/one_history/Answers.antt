use Rattle.dpx_watch.proofs.Answered.{step_decided}
use Rattle.dpx_watch.proofs.laws.one_history.Goals as goal

pub returns : goal.returns
returns c = step_decided c.args.top c.args.state c.args.event
