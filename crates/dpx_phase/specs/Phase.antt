-- What a training phase asks: VESA DisplayPort 1.4a, link training, in outline.
use Rattle.std.specs.Prelude.{◌≡◌, ℕ, ◌+◌, ◌-◌, List, [], ◌∷◌, ◌++◌, length, Option, Some, None, Result, Ok, Err, ⊤}
use Rattle.dpx_base.specs.declared.aux_port.Entry.{Entry}
use Rattle.dpx_base.specs.declared.lanes.Lanes.{Lanes}
use Rattle.dpx_aux.specs.declared.transaction.AuxEnd.{AuxEnd}
use Rattle.dpx_aux.specs.Conversation.{Ends, Waits, ◌>>=◌}
use Rattle.dpx_dpcd.specs.declared.pattern.Pattern.{Pattern}
use Rattle.dpx_dpcd.specs.declared.status.Status6.{Status6}
use Rattle.dpx_dpcd.specs.Pattern.{pattern_register}
use Rattle.dpx_dpcd.specs.RegisterMap.{training_pattern_set, training_lane0_set}
use Rattle.dpx_dpcd.specs.Registers.{ReadsStatus, Writes}
use Rattle.dpx_dpcd.specs.Status.{status_level}
use Rattle.dpx_phase.specs.declared.phase_end.PhaseEnd.{PhaseEnd}
use Rattle.dpx_phase.specs.declared.phase_end.PhaseEnd.TheVariants.{Aux}
use Rattle.dpx_phase.specs.Drives.{used}
use Rattle.dpx_phase.specs.Endings.{EndsNothing}

-- What tells the phases apart: the lanes in use, the microseconds before each read, and where the statuses end it.
pub record Phase : Type 0 where
  pub lanes : Lanes
  pub pause : ℕ
  pub ending : List Status6 → ℕ → Option PhaseEnd

-- after a wait of so many microseconds the status is read
abbrev pub ReadsLater : ℕ → Result Status6 AuxEnd → List Entry → Type 0
ReadsLater pause = do
  waited ← Waits pause
  ReadsStatus

-- a drive is written
abbrev pub Adjusts : Lanes → List ℕ → Result ⊤ AuxEnd → List Entry → Type 0
Adjusts lanes drive = Writes training_lane0_set (used lanes drive)

-- a status that ends nothing: it is read, and its drive is written
abbrev pub Round : Phase → Result Status6 AuxEnd → List Entry → Type 0
Round phase = do
  status ← ReadsLater phase.pause
  written ← Adjusts phase.lanes (status_level phase.lanes status.bytes)
  Ends (Ok status)

-- two lists of entries, one behind the other
pub record Joins (first next : List Entry → Type 0) (history : List Entry) : Type 0 where
  pub front : List Entry
  pub back : List Entry
  pub joined : history ≡ front ++ back
  pub begins : first front
  pub goes_on : next back

-- a round for each of these statuses, every transaction acknowledged
abbrev pub Rounds : Phase → List Status6 → List Entry → Type 0
Rounds phase [] = λ history. history ≡ []
Rounds phase (status ∷ statuses) = Joins (Round phase (Ok status)) (Rounds phase statuses)

-- how many transactions so many reads of a status make, with a write behind each but the last
abbrev pub rounds_transactions : ℕ → ℕ
rounds_transactions reads = reads + (reads - 1)

-- the same with the start write
abbrev pub phase_transactions : ℕ → ℕ
phase_transactions reads = 1 + rounds_transactions reads

-- this is tried, and fails
pub record Fails {A B E : Type 0} (part : Result A E → List Entry → Type 0) (given : Result B E)
    (history : List Entry) : Type 0 where
  pub why : E
  pub same : given ≡ Err why
  pub failed : part (Err why) history

-- the phase ends here; or nothing ends it, and the write of the next drive fails
abbrev pub Concludes : Phase → Status6 → Option PhaseEnd → Result PhaseEnd AuxEnd → List Entry → Type 0
Concludes phase status (Some end) = Ends (Ok end)
Concludes phase status None = Fails (Adjusts phase.lanes (status_level phase.lanes status.bytes))

-- the last round, behind these statuses
abbrev pub LastRound : Phase → List Status6 → Result PhaseEnd AuxEnd → List Entry → Type 0
LastRound phase statuses = do
  status ← ReadsLater phase.pause
  Concludes phase status (phase.ending (statuses ++ status ∷ []) (length statuses + 1))

-- the rounds whose statuses end nothing, and the last round
pub record Follows (phase : Phase) (given : Result PhaseEnd AuxEnd) (history : List Entry) : Type 0 where
  pub statuses : List Status6
  pub unended : EndsNothing phase.ending statuses
  pub before : List Entry
  pub last : List Entry
  pub joined : history ≡ before ++ last
  pub rounds : Rounds phase statuses before
  pub ends : LastRound phase statuses given last

-- a failed transaction is an end of its own
abbrev pub as_end : Result PhaseEnd AuxEnd → PhaseEnd
as_end (Ok end) = end
as_end (Err why) = Aux why

-- a pattern and a drive are written
abbrev pub Starts : Lanes → Pattern → List ℕ → Result ⊤ AuxEnd → List Entry → Type 0
Starts lanes chosen drive = Writes training_pattern_set (pattern_register chosen ∷ used lanes drive)

-- the start write, and what follows
abbrev pub Runs : Phase → Pattern → List ℕ → Result PhaseEnd AuxEnd → List Entry → Type 0
Runs phase chosen drive = do
  started ← Starts phase.lanes chosen drive
  Follows phase

-- the whole phase
pub record Takes (phase : Phase) (chosen : Pattern) (drive : List ℕ) (given : PhaseEnd) (history : List Entry)
    : Type 0 where
  pub result : Result PhaseEnd AuxEnd
  pub same : given ≡ as_end result
  pub done : Runs phase chosen drive result history
