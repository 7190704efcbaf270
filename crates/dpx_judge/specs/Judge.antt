-- What a judge stands for, and what it answers.
use Rattle.std.specs.Prelude.{◌≡◌, List, ◌++◌, Some, None}
use Rattle.dpx_base.specs.declared.aux_port.Entry.{Entry}
use Rattle.dpx_base.specs.declared.link.Link.{Link}
use Rattle.dpx_link.specs.Training.{TrainOutcome}
use Rattle.dpx_judge.specs.declared.judge.Judge.{Judge}
use Rattle.dpx_judge.specs.declared.judge.JudgeStep.{JudgeStep}
use Rattle.dpx_judge.specs.declared.judge.JudgeStep.TheVariants.{More, Ended, Differs}
use Rattle.dpx_judge.specs.declared.turn.Turn.{Turn}
use Rattle.dpx_judge.specs.declared.verdict.Ending.{Ending}
use Rattle.dpx_judge.specs.declared.verdict.Verdict.{Verdict}
use Rattle.dpx_judge.specs.declared.verdict.Verdict.TheVariants as verdict
use Rattle.dpx_judge.specs.Remainder.{Same, Rest}
use Rattle.dpx_judge.specs.Transcript.{IsWhole, IsFront, IsShort}

-- The judge reads trainings of this configuration, and has taken these entries: what it stands at is what is left of
-- a training behind them.
pub record StandsFor (top : Link) (entries : List Entry) (judge : Judge) : Type 0 where
  pub of_top : judge.top ≡ top
  pub turn : Turn
  pub stands : judge.turn ≡ Some turn
  pub remains : Same (λ given rest. TrainOutcome top given (entries ++ rest)) (Rest top turn.step turn.in_vain)

-- the entries have ended or differed
abbrev pub IsOver : Judge → Type 0
IsOver judge = judge.turn ≡ None

-- a front of a training's history, and not the whole of one; the judge goes on
pub record GoesOn (top : Link) (entries : List Entry) (now : Judge) : Type 0 where
  pub short : IsShort top entries
  pub stands : StandsFor top entries now

-- the whole history of a training
pub record HasEnded (top : Link) (entries : List Entry) (ending : Ending) (now : Judge) : Type 0 where
  pub whole : IsWhole top ending entries
  pub over : IsOver now

-- a front of no training's history
pub record HasDiffered (top : Link) (entries : List Entry) (now : Judge) : Type 0 where
  pub none : IsFront top entries → ⊥
  pub over : IsOver now

-- what a judge says of all the entries that it has taken
abbrev pub IsJudged : Link → List Entry → JudgeStep → Judge → Type 0
IsJudged top entries More now = GoesOn top entries now
IsJudged top entries (Ended ending) now = HasEnded top entries ending now
IsJudged top entries Differs now = HasDiffered top entries now

-- the same by the verdict so far
abbrev pub IsJudgedSoFar : Link → List Entry → Verdict → Judge → Type 0
IsJudgedSoFar top entries (verdict.Yes ending) now = HasEnded top entries ending now
IsJudgedSoFar top entries verdict.Short now = GoesOn top entries now
IsJudgedSoFar top entries (verdict.Differs place) now = ⊥
