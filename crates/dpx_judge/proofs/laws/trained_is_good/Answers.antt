use Rattle.dpx_judge.proofs.Transcripts.{trained_good}
use Rattle.dpx_judge.proofs.laws.trained_is_good.Goals as goal

pub returns : goal.returns
returns c = trained_good c.args.top
