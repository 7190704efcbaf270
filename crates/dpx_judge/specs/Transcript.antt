-- Whether a recorded list of entries is the history of a training: this project's own.
use Rattle.std.specs.Prelude.{◌≡◌, ℕ, ◌+◌, ◌<◌, ◌≤◌, List, ◌++◌, length, take, Result, Ok, Err}
use Rattle.dpx_base.specs.declared.aux_port.Entry.{Entry}
use Rattle.dpx_base.specs.declared.link.Link.{Link}
use Rattle.dpx_aux.specs.declared.transaction.AuxEnd.{AuxEnd}
use Rattle.dpx_dpcd.specs.declared.status.Status6.{Status6}
use Rattle.dpx_dpcd.specs.Status.{AllLanesDone}
use Rattle.dpx_phase.specs.LastStatus.{IsLastRead}
use Rattle.dpx_link.specs.declared.train_end.TrainEnd.{TrainEnd}
use Rattle.dpx_link.specs.declared.train_end.TrainEnd.TheVariants as train
use Rattle.dpx_link.specs.declared.train_end.Verdict.{Verdict as Outcome}
use Rattle.dpx_link.specs.declared.train_end.Verdict.TheVariants as outcome
use Rattle.dpx_link.specs.Training.{Training}
use Rattle.dpx_judge.specs.declared.verdict.Ending.{Ending}
use Rattle.dpx_judge.specs.declared.verdict.Ending.TheVariants.{Trained, NotTrained, CapsRefused, AuxEnded}
use Rattle.dpx_judge.specs.declared.verdict.Verdict.{Verdict}
use Rattle.dpx_judge.specs.declared.verdict.Verdict.TheVariants.{Yes, Short, Differs}

-- what an end of a training is to a judge
abbrev pub ending_of : TrainEnd → Ending
ending_of (train.Trained link drive last requests) = Trained link
ending_of (train.NotTrained last requests) = NotTrained
ending_of (train.CapsRefused why requests) = CapsRefused
ending_of (train.AuxEnded why requests) = AuxEnded

-- the same of a training's outcome
abbrev pub ending_at : Result Outcome AuxEnd → Ending
ending_at (Ok (outcome.Trained link drive last)) = Trained link
ending_at (Ok (outcome.NotTrained last)) = NotTrained
ending_at (Ok (outcome.CapsRefused why)) = CapsRefused
ending_at (Err why) = AuxEnded

-- the entries are the whole history of a training of the top configuration, which ended so
pub record IsWhole (top : Link) (ending : Ending) (entries : List Entry) : Type 0 where
  pub end : TrainEnd
  pub training : Training top end entries
  pub ends : ending ≡ ending_of end

-- the entries are a front of the history of a training, or the whole of it
pub record IsFront (top : Link) (entries : List Entry) : Type 0 where
  pub rest : List Entry
  pub ending : Ending
  pub whole : IsWhole top ending (entries ++ rest)

-- a front of such a history, and not the whole of one
pub record IsShort (top : Link) (entries : List Entry) : Type 0 where
  pub front : IsFront top entries
  pub unended : (ending : Ending) → IsWhole top ending entries → ⊥

-- the entries up to this place and with it are no front of such a history; those before it are, however few
pub record DiffersAt (top : Link) (entries : List Entry) (place : ℕ) : Type 0 where
  pub within : place < length entries
  pub before : (count : ℕ) → count ≤ place → IsFront top (take count entries)
  pub here : IsFront top (take (place + 1) entries) → ⊥

-- the verdict on a list of entries
abbrev pub IsVerdict : Link → List Entry → Verdict → Type 0
IsVerdict top entries (Yes ending) = IsWhole top ending entries
IsVerdict top entries Short = IsShort top entries
IsVerdict top entries (Differs place) = DiffersAt top entries place

-- the last status in the entries shows every lane of the link done
pub record ShowsGood (link : Link) (entries : List Entry) : Type 0 where
  pub last : Status6
  pub read : IsLastRead last entries
  pub good : AllLanesDone link.lanes last
