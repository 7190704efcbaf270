use Rattle.dpx_judge.proofs.Transcripts.{verdicts_same}
use Rattle.dpx_judge.proofs.laws.one_verdict.Goals as goal

pub returns : goal.returns
returns c = verdicts_same c.args.top
