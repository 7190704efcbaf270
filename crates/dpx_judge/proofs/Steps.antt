-- What is left behind a step is what is left where the training stands then.
use Rattle.std.proofs.Common.{◌≡◌, ℕ, suc, ◌+◌, ◌-◌, ◌≤◌, Bool, true, false, nat_le, if◌then◌else◌, List, [], ◌∷◌, refl}
use Rattle.std.proofs.Common.{subst, sym, arith, Option, Some, None, Result, Ok, Err}
use Rattle.std.specs.Prelude.{⊤}
use Rattle.dpx_base.specs.declared.aux_port.Entry.{Entry}
use Rattle.dpx_base.specs.declared.link.Link.{Link}
use Rattle.dpx_aux.specs.declared.request.Request.{Request}
use Rattle.dpx_aux.specs.declared.request.Request.TheVariants.{Read, Write}
use Rattle.dpx_aux.specs.declared.transaction.AuxEnd.{AuxEnd}
use Rattle.dpx_aux.specs.Conversation.{Choice, Ends, Waits, ◌>>=◌}
use Rattle.dpx_aux.specs.Transaction.{Transaction}
use Rattle.dpx_dpcd.specs.declared.caps.Caps.{Caps}
use Rattle.dpx_dpcd.specs.declared.caps.CapsBad.{CapsBad}
use Rattle.dpx_dpcd.specs.declared.pattern.Pattern.{Pattern}
use Rattle.dpx_dpcd.specs.declared.pattern.Pattern.TheVariants.{Tps1}
use Rattle.dpx_dpcd.specs.declared.status.Drive.{Drive}
use Rattle.dpx_dpcd.specs.declared.status.Status6.{Status6}
use Rattle.dpx_dpcd.specs.Caps.{has_extended, caps_read, caps_start}
use Rattle.dpx_dpcd.specs.Pattern.{pattern_register}
use Rattle.dpx_dpcd.specs.RegisterMap.{dpcd_rev, dp13_dpcd_rev, lane0_1_status, training_pattern_set}
use Rattle.dpx_dpcd.specs.Registers.{ReadsBlock, ReadsStatus, Writes}
use Rattle.dpx_phase.specs.declared.phase_end.PhaseEnd.{PhaseEnd}
use Rattle.dpx_phase.specs.declared.phase_end.PhaseEnd.TheVariants.{Done, Failed, Lost, Aux}
use Rattle.dpx_phase.specs.declared.recovery.Level.{Level}
use Rattle.dpx_phase.specs.Drives.{no_drive, used}
use Rattle.dpx_phase.specs.Endings.{recovery_end, equalisation_end}
use Rattle.dpx_phase.specs.Equalisation.{pause_of}
use Rattle.dpx_phase.specs.Phase.{Phase, Follows, ReadsLater, Runs}
use Rattle.dpx_phase.specs.Recovery.{recovery}
use Rattle.dpx_link.specs.declared.attempt.AttemptEnd.{AttemptEnd}
use Rattle.dpx_link.specs.declared.attempt.AttemptEnd.TheVariants.{Unrecovered}
use Rattle.dpx_link.specs.declared.fallback.Next.{Next}
use Rattle.dpx_link.specs.declared.fallback.Next.TheVariants as next
use Rattle.dpx_link.specs.Attempt.{AfterRecovery, Attempt, Configures, PhasesInTurn, equalised}
use Rattle.dpx_link.specs.Fallback.{next_of}
use Rattle.dpx_link.specs.Inner.{AttemptGives}
use Rattle.dpx_link.specs.Training.{AfterAttempt, Attempts, Capabilities, Capable, TrainOutcome, TrainsWith, attempts_at_most}
use Rattle.dpx_judge.specs.declared.awaited.Awaited.TheVariants.{Ask}
use Rattle.dpx_judge.specs.declared.awaited.Awaited.TheVariants as awaited
use Rattle.dpx_judge.specs.declared.behind.Behind.TheVariants.{Go}
use Rattle.dpx_judge.specs.declared.step.Act.{Act}
use Rattle.dpx_judge.specs.declared.step.Act.TheVariants as act
use Rattle.dpx_judge.specs.declared.step.Attempt.{Attempt as Tried}
use Rattle.dpx_judge.specs.declared.step.Step.{Step}
use Rattle.dpx_judge.specs.declared.step.Step.TheVariants.{BaseBlock, ExtendedField, Power, Configuration, Coding}
use Rattle.dpx_judge.specs.declared.step.Step.TheVariants.{Recovery, Equalisation, Close}
use Rattle.dpx_judge.specs.Machine.{IsSound, attempted, behind_attempt, behind_equalisation}
use Rattle.dpx_judge.specs.Machine.{behind_equalisation_status, behind_recovery, behind_recovery_status, capable, led_to}
use Rattle.dpx_judge.specs.Machine.{equalisation_found, first_level, next_drive, next_level, recovered, recovery_found}
use Rattle.dpx_judge.specs.Machine.{what_follows}
use Rattle.dpx_judge.specs.Remainder.{After, AfterStatus, Awaits, BehindEqualisation, BehindRecovery, Closes}
use Rattle.dpx_judge.specs.Remainder.{EqualisationGoesOn, EqualisationTurn, EqualisesOn, Leads, LeftBehind, Onward}
use Rattle.dpx_judge.specs.Remainder.{RecoversOn, RecoveryGoesOn, RecoveryTurn, Rest, Same}
use Rattle.dpx_judge.proofs.Attempts.{attempt_first}
use Rattle.dpx_judge.proofs.Hearing.{asks_anew}
use Rattle.dpx_judge.proofs.Phases.{equalises_as, phases_same}
use Rattle.dpx_judge.proofs.Rounds.{equalises_same, recovers_same}
use Rattle.dpx_judge.proofs.Same.{choose_no, choose_yes, ends_then, fails_then, regroup, same, same_through, then_first}
use Rattle.dpx_judge.proofs.Same.{same_back, then_next, then_same}

-- a transaction that was not asked yet
transaction_same : (request : Request) → Same (Transaction request) (Awaits (Ask request) 0)
unfolding Transaction
transaction_same request = asks_anew _ _ _

-- a write, and what follows
writes_next : {B : Type 0} (address : ℕ) (bytes : List ℕ) (f : ⊤ → Result B AuxEnd → List Entry → Type 0)
    → Same (Writes address bytes >>= f) (Awaits (Ask (Write address bytes)) 0 >>= λ brought. f tt)
writes_next address bytes f =
    same_through (regroup (Transaction (Write address bytes)) (λ nothing. Ends (Ok tt)) f)
    (then_same (transaction_same _) (λ brought. ends_then tt f))

-- a read of sixteen registers
reads_next : {B : Type 0} (address : ℕ) (f : List ℕ → Result B AuxEnd → List Entry → Type 0)
    → Same (ReadsBlock address >>= f) (Awaits (Ask (Read address 16)) 0 >>= f)
reads_next address f =
    same_through (regroup (Transaction (Read address 16)) (λ bytes. Ends (Ok bytes)) f)
    (then_same (transaction_same _) (λ bytes. ends_then bytes f))

-- a read of the status
pub status_next : {B : Type 0} (f : Status6 → Result B AuxEnd → List Entry → Type 0)
    → Same (ReadsStatus >>= f) (Awaits (Ask (Read lane0_1_status 6)) 0 >>= λ bytes. f (record { bytes = bytes }))
status_next f =
    same_through (regroup (Transaction (Read lane0_1_status 6)) (λ bytes. Ends (Ok (record { bytes = bytes }))) f)
    (then_same (transaction_same _) (λ bytes. ends_then (record { bytes = bytes }) f))

-- a wait
pub wait_next : {B : Type 0} (micros : ℕ) (f : List ℕ → Result B AuxEnd → List Entry → Type 0)
    → Same (Awaits (awaited.Wait micros) 0 >>= f) (Waits micros >>= λ waited. f [])
wait_next micros f =
    same_through (regroup (Waits micros) (λ waited. Ends (Ok [])) f) (then_next (Waits micros) (λ waited. ends_then [] f))

-- a wait, and a read of the status behind it
later_next : {B : Type 0} (pause : ℕ) (f : Status6 → Result B AuxEnd → List Entry → Type 0)
    → Same (ReadsLater pause >>= f) (Awaits (awaited.Wait pause) 0 >>= λ brought. ReadsStatus >>= f)
later_next pause f =
    same_through (regroup (Waits pause) (λ waited. ReadsStatus) f)
    (same_back (wait_next pause (λ brought. ReadsStatus >>= f)))

-- a phase, and what follows
runs_next : {B : Type 0} (phase : Phase) (chosen : Pattern) (drive : List ℕ)
    (f : PhaseEnd → Result B AuxEnd → List Entry → Type 0)
    → Same (Runs phase chosen drive >>= f)
    (Awaits (Ask (Write training_pattern_set (pattern_register chosen ∷ used phase.lanes drive))) 0
    >>= λ brought. Follows phase >>= f)
runs_next phase chosen drive f =
    same_through (regroup _ (λ started. Follows phase) f) (writes_next _ _ (λ started. Follows phase >>= f))

-- the attempts from a configuration on, and the closing write
attempts_left : (top : Link) (attempt : Tried)
    → Same (Attempts attempts_at_most attempt.caps attempt.first attempt.link >>= Closes)
    (Rest top (Configuration attempt) 0)
unfolding Attempt Configures
attempts_left top attempt =
    same_through (then_first Closes (attempt_first attempt.caps attempt.first attempt.link))
    (same_through (regroup (Attempt attempt.caps attempt.link) _ Closes)
    (same_through (regroup (Configures attempt.link) (λ configured. PhasesInTurn attempt.caps attempt.link) (Leads attempt))
    (same_through (regroup _ _ (λ configured. PhasesInTurn attempt.caps attempt.link >>= Leads attempt))
    (writes_next _ _ _))))

-- behind an attempt
led : (top : Link) (attempt : Tried) (behind : Next)
    → Same (AfterAttempt (Attempts attempts_at_most attempt.caps attempt.first) behind >>= Closes)
    (LeftBehind top (led_to attempt behind))
led top attempt (next.Try link) =
    attempts_left top (record { caps = attempt.caps; first = attempt.first; link = link })
led top attempt (next.Stop verdict) = same_through (ends_then verdict Closes) (writes_next _ _ _)

leads_left : (top : Link) (attempt : Tried) (end : AttemptEnd)
    → Same (Leads attempt end) (LeftBehind top (behind_attempt attempt end))
leads_left top attempt end = led top attempt (next_of attempt.first attempt.link end)

-- behind equalisation
attempted_left : (top : Link) (attempt : Tried) (end : AttemptGives)
    → Same (Ends end >>= Leads attempt) (LeftBehind top (attempted attempt end))
attempted_left top attempt (Ok end) = same_through (ends_then end (Leads attempt)) (leads_left top attempt end)
attempted_left top attempt (Err why) = fails_then why (Leads attempt)

-- behind clock recovery
recovered_left : (top : Link) (attempt : Tried) (end : PhaseEnd)
    → Same (BehindRecovery attempt end) (LeftBehind top (recovered attempt end))
recovered_left top attempt (Done drive last) =
    same_through (then_first (Leads attempt) (equalises_as attempt.caps attempt.link drive))
    (same_through (regroup _ (λ end. Ends (equalised end)) (Leads attempt))
    (same_through (runs_next _ _ _ (BehindEqualisation attempt))
    (then_next _ (λ brought. then_first (BehindEqualisation attempt)
    (equalises_same attempt.link.lanes drive (pause_of attempt.caps.interval))))))
recovered_left top attempt (Failed last cause) =
    same_through (ends_then (Unrecovered last) (Leads attempt)) (leads_left top attempt (Unrecovered last))
recovered_left top attempt (Lost last) =
    same_through (ends_then (Unrecovered last) (Leads attempt)) (leads_left top attempt (Unrecovered last))
recovered_left top attempt (Aux why) = fails_then why (Leads attempt)

-- the start of clock recovery
recovery_starts : (top : Link) (attempt : Tried)
    → Same (PhasesInTurn attempt.caps attempt.link >>= Leads attempt)
    (Rest top (Recovery attempt act.Start first_level 1) 0)
recovery_starts top attempt =
    same_through (then_first (Leads attempt) (phases_same attempt.caps attempt.link))
    (same_through (regroup _ (AfterRecovery attempt.caps attempt.link) (Leads attempt))
    (same_through (runs_next (recovery attempt.link.lanes) Tps1 no_drive (BehindRecovery attempt))
    (then_next _ (λ brought. then_first (BehindRecovery attempt) (recovers_same attempt.link.lanes)))))

-- before a read of clock recovery
recovery_waits : (top : Link) (attempt : Tried) (level : Level) (number : ℕ) → number ≤ 10
    → Same (RecoversOn attempt.link.lanes (11 - number) level >>= BehindRecovery attempt)
    (Rest top (Recovery attempt act.Wait level number) 0)
unfolding Onward
recovery_waits top attempt level number few =
    let left : suc (10 - number) ≡ 11 - number = omega arith in
    subst (λ (n : ℕ). Same (RecoversOn attempt.link.lanes n level >>= BehindRecovery attempt)
    (Rest top (Recovery attempt act.Wait level number) 0)) left
    (same_through (regroup (ReadsLater 100) _ (BehindRecovery attempt))
    (later_next 100 (RecoveryTurn attempt level number)))

-- behind a status of clock recovery
recovery_turns : (top : Link) (attempt : Tried) (level : Level) (number : ℕ) (status : Status6) (found : Option PhaseEnd)
    → number ≤ 10
    → Same (AfterStatus attempt.link.lanes status found
    (RecoversOn attempt.link.lanes (10 - number) (next_level attempt.link.lanes level status)) >>= BehindRecovery attempt)
    (LeftBehind top (recovery_found attempt level number status found))
recovery_turns top attempt level number status (Some end) few =
    same_through (ends_then end (BehindRecovery attempt)) (recovered_left top attempt end)
recovery_turns top attempt level number status None few =
    let now = next_level attempt.link.lanes level status in
    let left : 11 - (number + 1) ≡ 10 - number = omega arith in
    subst (λ (n : ℕ). Same (AfterStatus attempt.link.lanes status None (RecoversOn attempt.link.lanes n now)
    >>= BehindRecovery attempt) (Rest top (Recovery attempt act.Adjust now (number + 1)) 0)) left
    (same_through (regroup _ (λ written. RecoversOn attempt.link.lanes (11 - (number + 1)) now) (BehindRecovery attempt))
    (writes_next _ _ _))

recovery_turn : (top : Link) (attempt : Tried) (level : Level) (number : ℕ) (status : Status6) → number ≤ 10
    → Same (RecoveryTurn attempt level number status)
    (LeftBehind top (behind_recovery_status attempt level number status))
recovery_turn top attempt level number status few =
    let n : number ≡ 10 - (10 - number) = omega arith in
    subst (λ (n : ℕ). Same (RecoveryTurn attempt level number status) (LeftBehind top
    (recovery_found attempt level number status
    (recovery_end attempt.link.lanes (nat_le 5 level.alike) n level.drive.registers status)))) (sym n)
    (recovery_turns top attempt level number status _ few)

recovery_left : (top : Link) (attempt : Tried) (act : Act) (level : Level) (number : ℕ) (bytes : List ℕ) → number ≤ 10
    → Same (RecoveryGoesOn attempt act level number bytes)
    (LeftBehind top (behind_recovery attempt act level number bytes))
recovery_left top attempt act.Start level number bytes few = recovery_waits top attempt level number few
recovery_left top attempt act.Wait level number bytes few = status_next (RecoveryTurn attempt level number)
recovery_left top attempt act.Read level number bytes few =
    recovery_turn top attempt level number (record { bytes = bytes }) few
recovery_left top attempt act.Adjust level number bytes few = recovery_waits top attempt level number few

-- before a read of equalisation
equalisation_waits : (top : Link) (attempt : Tried) (drive : Drive) (number : ℕ) → number ≤ 5
    → Same (EqualisesOn attempt.link.lanes (pause_of attempt.caps.interval) (6 - number) drive
    >>= BehindEqualisation attempt) (Rest top (Equalisation attempt act.Wait drive number) 0)
unfolding Onward
equalisation_waits top attempt drive number few =
    let left : suc (5 - number) ≡ 6 - number = omega arith in
    subst (λ (n : ℕ). Same (EqualisesOn attempt.link.lanes (pause_of attempt.caps.interval) n drive
    >>= BehindEqualisation attempt) (Rest top (Equalisation attempt act.Wait drive number) 0)) left
    (same_through (regroup (ReadsLater (pause_of attempt.caps.interval)) _ (BehindEqualisation attempt))
    (later_next (pause_of attempt.caps.interval) (EqualisationTurn attempt drive number)))

-- behind a status of equalisation
equalisation_turns : (top : Link) (attempt : Tried) (drive : Drive) (number : ℕ) (status : Status6)
    (found : Option PhaseEnd) → number ≤ 5
    → Same (AfterStatus attempt.link.lanes status found
    (EqualisesOn attempt.link.lanes (pause_of attempt.caps.interval) (5 - number)
    (next_drive attempt.link.lanes drive status)) >>= BehindEqualisation attempt)
    (LeftBehind top (equalisation_found attempt drive number status found))
equalisation_turns top attempt drive number status (Some end) few =
    same_through (ends_then end (BehindEqualisation attempt)) (attempted_left top attempt (equalised end))
equalisation_turns top attempt drive number status None few =
    let now = next_drive attempt.link.lanes drive status in
    let left : 6 - (number + 1) ≡ 5 - number = omega arith in
    subst (λ (n : ℕ). Same (AfterStatus attempt.link.lanes status None
    (EqualisesOn attempt.link.lanes (pause_of attempt.caps.interval) n now)
    >>= BehindEqualisation attempt) (Rest top (Equalisation attempt act.Adjust now (number + 1)) 0)) left
    (same_through (regroup _ (λ written. EqualisesOn attempt.link.lanes (pause_of attempt.caps.interval)
    (6 - (number + 1)) now) (BehindEqualisation attempt)) (writes_next _ _ _))

equalisation_turn : (top : Link) (attempt : Tried) (drive : Drive) (number : ℕ) (status : Status6) → number ≤ 5
    → Same (EqualisationTurn attempt drive number status)
    (LeftBehind top (behind_equalisation_status attempt drive number status))
equalisation_turn top attempt drive number status few =
    let n : number ≡ 5 - (5 - number) = omega arith in
    subst (λ (n : ℕ). Same (EqualisationTurn attempt drive number status) (LeftBehind top
    (equalisation_found attempt drive number status
    (equalisation_end attempt.link.lanes n drive.registers status)))) (sym n)
    (equalisation_turns top attempt drive number status _ few)

equalisation_left : (top : Link) (attempt : Tried) (act : Act) (drive : Drive) (number : ℕ) (bytes : List ℕ)
    → number ≤ 5
    → Same (EqualisationGoesOn attempt act drive number bytes)
    (LeftBehind top (behind_equalisation attempt act drive number bytes))
equalisation_left top attempt act.Start drive number bytes few = equalisation_waits top attempt drive number few
equalisation_left top attempt act.Wait drive number bytes few = status_next (EqualisationTurn attempt drive number)
equalisation_left top attempt act.Read drive number bytes few =
    equalisation_turn top attempt drive number (record { bytes = bytes }) few
equalisation_left top attempt act.Adjust drive number bytes few = equalisation_waits top attempt drive number few

-- behind the capabilities
capable_left : (top : Link) (caps : Result Caps CapsBad) → Same (Capable top caps) (LeftBehind top (capable caps))
unfolding TrainsWith
capable_left top (Ok caps) = writes_next _ _ _
capable_left top (Err why) = same _

block_left : (top : Link) (block : List ℕ) (extended : Bool) → has_extended block ≡ extended
    → Same (Choice (has_extended block) (ReadsBlock dp13_dpcd_rev) (Ends (Ok block))
    >>= λ block. Capable top (caps_read block))
    (LeftBehind top (if extended then Go ExtendedField else capable (caps_read block)))
block_left top block true e =
    same_through (then_first (λ block. Capable top (caps_read block)) (choose_yes _ e)) (reads_next _ _)
block_left top block false e =
    same_through (then_first (λ block. Capable top (caps_read block)) (choose_no _ e))
    (same_through (ends_then block (λ block. Capable top (caps_read block))) (capable_left top (caps_read block)))

pub follows_left : (top : Link) (step : Step) (bytes : List ℕ) → IsSound step
    → Same (After top step bytes) (LeftBehind top (what_follows top step bytes))
follows_left top BaseBlock bytes sound = block_left top bytes _ refl
follows_left top ExtendedField bytes sound = capable_left top (caps_read bytes)
follows_left top (Power caps) bytes sound =
    attempts_left top (record { caps = caps; first = caps_start caps top; link = caps_start caps top })
follows_left top (Configuration attempt) bytes sound = writes_next _ _ _
follows_left top (Coding attempt) bytes sound = recovery_starts top attempt
follows_left top (Recovery attempt act level number) bytes sound =
    recovery_left top attempt act level number bytes sound.0
follows_left top (Equalisation attempt act drive number) bytes sound =
    equalisation_left top attempt act drive number bytes sound.0
follows_left top (Close verdict) bytes sound = same _

-- the whole training is left at its start
pub starts_left : (top : Link) → Same (TrainOutcome top) (Rest top BaseBlock 0)
unfolding TrainOutcome Capabilities
starts_left top =
    same_through (regroup (ReadsBlock dpcd_rev) _ (λ block. Capable top (caps_read block))) (reads_next _ _)
