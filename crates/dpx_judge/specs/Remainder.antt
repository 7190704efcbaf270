-- What is left of a training where it stands: the relation between the entries still to come and its outcome, made of
-- the parts of its definition. This project's own.
use Rattle.std.specs.Prelude.{◌≡◌, ℕ, zero, suc, ◌+◌, ◌-◌, ◌<◌, Bool, true, false, nat_le, nat_lt, List, [], ◌∷◌, ◌++◌}
use Rattle.std.specs.Prelude.{length, Option, Some, None, Result, Ok, Err, ⊤}
use Rattle.std.specs.List.{AllByRecursion}
use Rattle.dpx_base.specs.declared.aux_port.Answer.{Answer}
use Rattle.dpx_base.specs.declared.aux_port.Entry.{Entry}
use Rattle.dpx_base.specs.declared.lanes.Lanes.{Lanes}
use Rattle.dpx_base.specs.declared.link.Link.{Link}
use Rattle.dpx_aux.specs.declared.asking.Heard.{Heard}
use Rattle.dpx_aux.specs.declared.asking.Heard.TheVariants.{End, InVain}
use Rattle.dpx_aux.specs.declared.asking.LastAnswer.{LastAnswer}
use Rattle.dpx_aux.specs.declared.request.Request.{Request}
use Rattle.dpx_aux.specs.declared.transaction.AuxEnd.{AuxEnd}
use Rattle.dpx_aux.specs.Asking.{IsInVain, EndsAs, asked_with, asks_at_most}
use Rattle.dpx_aux.specs.Conversation.{Ends, Waits, Choice, Never, ◌>>=◌}
use Rattle.dpx_aux.specs.Request.{address_of, answered_length, encode_request}
use Rattle.dpx_aux.specs.Transaction.{heard_from, spent}
use Rattle.dpx_dpcd.specs.declared.status.Drive.{Drive}
use Rattle.dpx_dpcd.specs.declared.status.Status6.{Status6}
use Rattle.dpx_dpcd.specs.Caps.{has_extended, caps_read, caps_start}
use Rattle.dpx_dpcd.specs.RegisterMap.{dp13_dpcd_rev, downspread_ctrl, training_pattern_set}
use Rattle.dpx_dpcd.specs.Registers.{ReadsBlock, ReadsStatus, Writes}
use Rattle.dpx_dpcd.specs.Status.{status_level}
use Rattle.dpx_phase.specs.declared.phase_end.PhaseEnd.{PhaseEnd}
use Rattle.dpx_phase.specs.declared.recovery.Level.{Level}
use Rattle.dpx_phase.specs.Endings.{recovery_end, equalisation_end}
use Rattle.dpx_phase.specs.Equalisation.{pause_of}
use Rattle.dpx_phase.specs.Phase.{Adjusts, ReadsLater}
use Rattle.dpx_link.specs.declared.attempt.AttemptEnd.{AttemptEnd}
use Rattle.dpx_link.specs.declared.train_end.Verdict.{Verdict}
use Rattle.dpx_link.specs.Attempt.{AfterRecovery, PhasesInTurn, equalised}
use Rattle.dpx_link.specs.Fallback.{next_of}
use Rattle.dpx_link.specs.Inner.{TrainingGives}
use Rattle.dpx_link.specs.Training.{AfterAttempt, Attempts, Capable, attempts_at_most}
use Rattle.dpx_judge.specs.declared.awaited.Awaited.{Awaited}
use Rattle.dpx_judge.specs.declared.awaited.Awaited.TheVariants as awaited
use Rattle.dpx_judge.specs.declared.behind.Behind.{Behind}
use Rattle.dpx_judge.specs.declared.behind.Behind.TheVariants.{Go, Stop}
use Rattle.dpx_judge.specs.declared.step.Act.{Act}
use Rattle.dpx_judge.specs.declared.step.Act.TheVariants as act
use Rattle.dpx_judge.specs.declared.step.Attempt.{Attempt}
use Rattle.dpx_judge.specs.declared.step.Step.{Step}
use Rattle.dpx_judge.specs.declared.step.Step.TheVariants.{BaseBlock, ExtendedField, Power, Configuration, Coding}
use Rattle.dpx_judge.specs.declared.step.Step.TheVariants.{Recovery, Equalisation, Close}
use Rattle.dpx_judge.specs.declared.taking.Taken.{Taken}
use Rattle.dpx_judge.specs.declared.taking.Taken.TheVariants as taken
use Rattle.dpx_judge.specs.Machine.{awaits, next_drive, next_level}

-- two parts give the same with the same histories
pub record Same {R : Type 0} (part other : R → List Entry → Type 0) : Type 0 where
  pub to : (given : R) (history : List Entry) → part given history → other given history
  pub from : (given : R) (history : List Entry) → other given history → part given history

-- these bytes were asked so often before, in vain, and are asked on
pub record AsksOn {E : Type 0} (bytes : List ℕ) (heard_from : Answer → Heard E) (spent : LastAnswer → E)
    (before : ℕ) (given : Result (List ℕ) E) (history : List Entry) : Type 0 where
  pub tried : List Answer
  pub last : Answer
  pub few : before + length tried < asks_at_most
  pub in_vain : AllByRecursion (λ answer. IsInVain (heard_from answer)) tried
  pub asked : history ≡ asked_with bytes (tried ++ last ∷ [])
  pub ends : EndsAs spent (before + length tried + 1) (heard_from last) given

-- the wait; or the request, asked so often in vain before
abbrev pub Awaits : Awaited → ℕ → Result (List ℕ) AuxEnd → List Entry → Type 0
Awaits (awaited.Wait micros) in_vain = Waits micros >>= λ waited. Ends (Ok [])
Awaits (awaited.Ask request) in_vain =
    AsksOn (encode_request request) (heard_from request) (spent (address_of request)) in_vain

-- the closing write
abbrev pub Closes : Verdict → TrainingGives → List Entry → Type 0
Closes verdict = Writes training_pattern_set (0x00 ∷ []) >>= λ closed. Ends (Ok verdict)

-- behind an attempt
abbrev pub Leads : Attempt → AttemptEnd → TrainingGives → List Entry → Type 0
Leads attempt end =
    AfterAttempt (Attempts attempts_at_most attempt.caps attempt.first) (next_of attempt.first attempt.link end) >>= Closes

-- behind the two phases of an attempt
abbrev pub BehindRecovery : Attempt → PhaseEnd → TrainingGives → List Entry → Type 0
BehindRecovery attempt end = AfterRecovery attempt.caps attempt.link end >>= Leads attempt

abbrev pub BehindEqualisation : Attempt → PhaseEnd → TrainingGives → List Entry → Type 0
BehindEqualisation attempt end = Ends (equalised end) >>= Leads attempt

-- behind a status: the phase ends here, or the drive that it asks for is written and the rest follows
abbrev pub AfterStatus : Lanes → Status6 → Option PhaseEnd → (Result PhaseEnd AuxEnd → List Entry → Type 0)
    → Result PhaseEnd AuxEnd → List Entry → Type 0
AfterStatus lanes status (Some end) rest = Ends (Ok end)
AfterStatus lanes status None rest = Adjusts lanes (status_level lanes status.bytes) >>= λ written. rest

-- A phase with so many reads left. Whether it ends at a status is known from what the statuses before it led to.
unfoldable pub Onward : {L : Type 0} → Lanes → ℕ → (ℕ → L → Status6 → Option PhaseEnd) → (L → Status6 → L) → ℕ → L
    → Result PhaseEnd AuxEnd → List Entry → Type 0
Onward lanes pause ends next zero level = Never
Onward lanes pause ends next (suc left) level =
    ReadsLater pause >>= λ status.
    AfterStatus lanes status (ends left level status) (Onward lanes pause ends next left (next level status))

-- how clock recovery ends at a status, with so many reads left behind it
abbrev pub recovery_ending : Lanes → ℕ → Level → Status6 → Option PhaseEnd
recovery_ending lanes left level status =
    recovery_end lanes (nat_le 5 level.alike) (10 - left) level.drive.registers status

abbrev pub RecoversOn : Lanes → ℕ → Level → Result PhaseEnd AuxEnd → List Entry → Type 0
RecoversOn lanes left level = Onward lanes 100 (recovery_ending lanes) (next_level lanes) left level

-- how equalisation does
abbrev pub equalisation_ending : Lanes → ℕ → Drive → Status6 → Option PhaseEnd
equalisation_ending lanes left drive status = equalisation_end lanes (5 - left) drive.registers status

abbrev pub EqualisesOn : Lanes → ℕ → ℕ → Drive → Result PhaseEnd AuxEnd → List Entry → Type 0
EqualisesOn lanes pause left drive = Onward lanes pause (equalisation_ending lanes) (next_drive lanes) left drive

-- behind the status of this number in clock recovery
abbrev pub RecoveryTurn : Attempt → Level → ℕ → Status6 → TrainingGives → List Entry → Type 0
RecoveryTurn attempt level number status =
    AfterStatus attempt.link.lanes status (recovery_ending attempt.link.lanes (10 - number) level status)
    (RecoversOn attempt.link.lanes (10 - number) (next_level attempt.link.lanes level status)) >>= BehindRecovery attempt

abbrev pub RecoveryGoesOn : Attempt → Act → Level → ℕ → List ℕ → TrainingGives → List Entry → Type 0
RecoveryGoesOn attempt act.Start level number bytes =
    RecoversOn attempt.link.lanes (11 - number) level >>= BehindRecovery attempt
RecoveryGoesOn attempt act.Wait level number bytes = ReadsStatus >>= RecoveryTurn attempt level number
RecoveryGoesOn attempt act.Read level number bytes = RecoveryTurn attempt level number (record { bytes = bytes })
RecoveryGoesOn attempt act.Adjust level number bytes =
    RecoversOn attempt.link.lanes (11 - number) level >>= BehindRecovery attempt

-- and in equalisation
abbrev pub EqualisationTurn : Attempt → Drive → ℕ → Status6 → TrainingGives → List Entry → Type 0
EqualisationTurn attempt drive number status =
    AfterStatus attempt.link.lanes status (equalisation_ending attempt.link.lanes (5 - number) drive status)
    (EqualisesOn attempt.link.lanes (pause_of attempt.caps.interval) (5 - number)
    (next_drive attempt.link.lanes drive status)) >>= BehindEqualisation attempt

abbrev pub EqualisationGoesOn : Attempt → Act → Drive → ℕ → List ℕ → TrainingGives → List Entry → Type 0
EqualisationGoesOn attempt act.Start drive number bytes =
    EqualisesOn attempt.link.lanes (pause_of attempt.caps.interval) (6 - number) drive >>= BehindEqualisation attempt
EqualisationGoesOn attempt act.Wait drive number bytes = ReadsStatus >>= EqualisationTurn attempt drive number
EqualisationGoesOn attempt act.Read drive number bytes =
    EqualisationTurn attempt drive number (record { bytes = bytes })
EqualisationGoesOn attempt act.Adjust drive number bytes =
    EqualisesOn attempt.link.lanes (pause_of attempt.caps.interval) (6 - number) drive >>= BehindEqualisation attempt

-- what is left of a training of the top configuration behind a step that brought these bytes
abbrev pub After : Link → Step → List ℕ → TrainingGives → List Entry → Type 0
After top BaseBlock bytes =
    Choice (has_extended bytes) (ReadsBlock dp13_dpcd_rev) (Ends (Ok bytes)) >>= λ block. Capable top (caps_read block)
After top ExtendedField bytes = Capable top (caps_read bytes)
After top (Power caps) bytes =
    Attempts attempts_at_most caps (caps_start caps top) (caps_start caps top) >>= Closes
After top (Configuration attempt) bytes =
    Writes downspread_ctrl (0x00 ∷ 0x01 ∷ []) >>= λ coded. PhasesInTurn attempt.caps attempt.link >>= Leads attempt
After top (Coding attempt) bytes = PhasesInTurn attempt.caps attempt.link >>= Leads attempt
After top (Recovery attempt act level number) bytes = RecoveryGoesOn attempt act level number bytes
After top (Equalisation attempt act drive number) bytes = EqualisationGoesOn attempt act drive number bytes
After top (Close verdict) bytes = Ends (Ok verdict)

-- what is left where the training stands at a step, whose request was asked so often in vain
abbrev pub Rest : Link → Step → ℕ → TrainingGives → List Entry → Type 0
Rest top step in_vain = Awaits (awaits step) in_vain >>= After top step

-- the same behind an entry
abbrev pub Left : Link → Step → ℕ → Entry → TrainingGives → List Entry → Type 0
Left top step in_vain entry given rest = Rest top step in_vain given (entry ∷ rest)

-- behind an ask in vain, by whether another one is left
abbrev pub AsksAgain : Link → Step → ℕ → AuxEnd → Bool → TrainingGives → List Entry → Type 0
AsksAgain top step in_vain why true = Rest top step (in_vain + 1)
AsksAgain top step in_vain why false = Ends (Err why)

-- behind what was heard
abbrev pub Heeds : Link → Step → ℕ → Request → Heard AuxEnd → TrainingGives → List Entry → Type 0
Heeds top step in_vain request (End (Ok bytes)) = After top step bytes
Heeds top step in_vain request (End (Err why)) = Ends (Err why)
Heeds top step in_vain request (InVain last) =
    AsksAgain top step in_vain (spent (address_of request) last) (nat_lt (in_vain + 1) asks_at_most)

-- what was heard of an acknowledged request brings all that it asked for
abbrev pub BringsEnough : Request → Heard AuxEnd → Type 0
BringsEnough request (End (Ok bytes)) = length bytes ≡ answered_length request
BringsEnough request (End (Err why)) = ⊤
BringsEnough request (InVain last) = ⊤

-- behind a step
abbrev pub LeftBehind : Link → Behind → TrainingGives → List Entry → Type 0
LeftBehind top (Go step) = Rest top step 0
LeftBehind top (Stop outcome) = Ends outcome

-- what was taken leaves this part
abbrev pub Leaves : Link → (TrainingGives → List Entry → Type 0) → Taken → Type 0
Leaves top part (taken.More turn) = Same part (Rest top turn.step turn.in_vain)
Leaves top part (taken.Stop outcome) = Same part (Ends outcome)
Leaves top part taken.Differs = (given : TrainingGives) (rest : List Entry) → part given rest → ⊥
