use Rattle.std.proofs.Common.{refl}
use Rattle.dpx_judge.proofs.Judgings.{stands_first}
use Rattle.dpx_judge.proofs.judge.Judge.new.Goals as goal

pub returns : goal.returns
returns c = stands_first c.args.top _ _ refl refl refl refl
