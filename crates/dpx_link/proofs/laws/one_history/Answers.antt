use Rattle.dpx_link.proofs.Decided.{training_decided}
use Rattle.dpx_link.proofs.laws.one_history.Goals as goal

pub returns : goal.returns
returns c = training_decided c.args.top
