use Rattle.dpx_judge.proofs.Transcripts.{ends_once}
use Rattle.dpx_judge.proofs.laws.one_ending.Goals as goal

pub returns : goal.returns
returns c = ends_once c.args.top
