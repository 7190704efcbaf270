use Rattle.dpx_link.proofs.TrainedIsDone.{training_good}
use Rattle.dpx_link.proofs.laws.trained_is_good.Goals as goal

pub returns : goal.returns
returns c = training_good c.args.top
