use Rattle.std.proofs.Common.{subst}
use Rattle.dpx_align.specs.Aligner.{IsFaultOf}
use Rattle.dpx_align.proofs.aligner.Aligner.step.Goals as goal

pub returns-in-Some-bad-clause-answer : goal.returns-in-Some-bad-clause-answer
returns-in-Some-bad-clause-answer c words plain w =
    (subst (λ bad. IsFaultOf words bad) c.in-Some-bad.is w.fault, c.in_default.ensures.next plain w.taken)

pub returns-in-None-clause-answer : goal.returns-in-None-clause-answer
returns-in-None-clause-answer c words plain w =
    (subst (λ bad. IsFaultOf words bad) c.in-None.is w.fault, c.in_default.ensures.next plain w.taken)
