use Rattle.dpx_watch.proofs.Answered.{step_suffices}
use Rattle.dpx_watch.proofs.laws.some_history.Goals as goal

pub returns : goal.returns
returns c = step_suffices c.args.top c.args.state c.args.event
