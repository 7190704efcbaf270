use Rattle.std.proofs.Common.{take}
use Rattle.dpx_judge.specs.Judge.{IsJudgedSoFar}
use Rattle.dpx_judge.proofs.verdict.judge_all.Given as goal

abbrev pub invariant-loop-place : goal.invariant-loop-place
invariant-loop-place l = IsJudgedSoFar l.fn.top (take l.place l.entries) l.verdict l.judge
