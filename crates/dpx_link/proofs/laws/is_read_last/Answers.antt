use Rattle.dpx_link.proofs.LastStatus.{training_read}
use Rattle.dpx_link.proofs.laws.is_read_last.Goals as goal

pub returns : goal.returns
returns c = training_read c.args.top
