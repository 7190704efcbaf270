use Rattle.dpx_link.proofs.Suffices.{training_suffices}
use Rattle.dpx_link.proofs.laws.some_history.Goals as goal

pub returns : goal.returns
returns c = training_suffices c.args.top
