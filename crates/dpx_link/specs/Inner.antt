-- The types that training passes on inside, by names that the laws of crates above can use.
use Rattle.std.specs.Prelude.{Result}
use Rattle.dpx_aux.specs.declared.transaction.AuxEnd.{AuxEnd}
use Rattle.dpx_link.specs.declared.attempt.AttemptEnd.{AttemptEnd}
use Rattle.dpx_link.specs.declared.fallback.Next.{Next}
use Rattle.dpx_link.specs.declared.train_end.Verdict.{Verdict}

-- how an attempt ended, and the step behind it
abbrev pub EndOfAttempt : Type 0
EndOfAttempt = AttemptEnd

abbrev pub StepBehind : Type 0
StepBehind = Next

-- what an attempt gives, and what a training gives
abbrev pub AttemptGives : Type 0
AttemptGives = Result AttemptEnd AuxEnd

abbrev pub TrainingGives : Type 0
TrainingGives = Result Verdict AuxEnd
