-- The attempts of a training go along the fallback path where a modelled sink answers.
use Rattle.std.proofs.Common.{◌≡◌, ℕ, suc, zero, ◌≤◌, Bool, true, false, ◌&&◌, if◌then◌else◌, List, refl, sym, subst}
use Rattle.std.proofs.Common.{Option, Some, None, Result, Ok, Err, MatchResult}
use Rattle.std.specs.Prelude.{⊤}
use Rattle.dpx_base.specs.declared.aux_port.Entry.{Entry}
use Rattle.dpx_base.specs.declared.link.Link.{Link}
use Rattle.dpx_aux.specs.Conversation.{Never}
use Rattle.dpx_aux.specs.declared.transaction.AuxEnd.{AuxEnd}
use Rattle.dpx_dpcd.specs.declared.caps.Caps.{Caps}
use Rattle.dpx_dpcd.specs.declared.status.Drive.{Drive}
use Rattle.dpx_dpcd.specs.declared.status.Status6.{Status6}
use Rattle.dpx_dpcd.specs.Cell.{CellFacts}
use Rattle.dpx_dpcd.specs.RegFile.{SinkFacts}
use Rattle.dpx_phase.specs.declared.phase_end.PhaseEnd.{PhaseEnd}
use Rattle.dpx_phase.specs.declared.phase_end.PhaseEnd.TheVariants.{Done, Failed, Lost, Aux}
use Rattle.dpx_link.specs.Attempt.{Attempt, equalised}
use Rattle.dpx_link.specs.Fallback.{next_of, fall_back, after_failed_recovery, after_failed_equalisation}
use Rattle.dpx_link.specs.Inner.{AttemptGives, EndOfAttempt, StepBehind, TrainingGives}
use Rattle.dpx_link.specs.Training.{Attempts, AfterAttempt, end_of}
use Rattle.dpx_complete.specs.Complete.{EndsAtFall}
use Rattle.dpx_complete.specs.Drive.{IsAskedFor}
use Rattle.dpx_complete.specs.Fall.{all_recover, all_equalise, along, fall_from}
use Rattle.dpx_complete.proofs.AttemptsAnswered.{EndsSo, HasCells, attempt_meets}
use Rattle.dpx_complete.proofs.DriveAskedFor.{IsRight, right_asked_for}
use Rattle.dpx_complete.proofs.PhaseEnds.{IsDone}
use Rattle.dpx_complete.proofs.PartsAnswered.{Anything, Meets, Gives, meets_more, meets_ends, meets_then}

-- the training comes to this configuration, or to none, whatever it counts of requests
abbrev pub FallsTo : List CellFacts → Option Link → TrainingGives → (ℕ → ℕ) → Type 0
FallsTo channel found given registers = (requests : ℕ) → EndsAtFall channel found (end_of requests given)

-- a step of the path, by whether the lanes recover and equalise
abbrev pub stepped : (recovers equalises : Bool) (link : Link) (recovered unrecovered : Option Link) → Option Link
stepped true true link recovered unrecovered = Some link
stepped true false link recovered unrecovered = recovered
stepped false equalises link recovered unrecovered = unrecovered

one_step : (recovers equalises : Bool) (link : Link) (more : Option Link → Option Link) (a b : Option Link)
    → (if recovers && equalises then Some link else more (if recovers then a else b))
    ≡ stepped recovers equalises link (more a) (more b)
one_step true true link more a b = refl
one_step true false link more a b = refl
one_step false equalises link more a b = refl

pub falls_on : (left : ℕ) (channel : List CellFacts) (first link : Link)
    → fall_from (suc left) channel first link
    ≡ stepped (all_recover channel link) (all_equalise channel link) link
    (along (fall_from left channel first) (after_failed_equalisation link))
    (along (fall_from left channel first) (after_failed_recovery first link))
unfolding fall_from
falls_on left channel first link =
    one_step (all_recover channel link) (all_equalise channel link) link (along (fall_from left channel first))
    (after_failed_equalisation link) (after_failed_recovery first link)

gives_of : {A E : Type 0} (Is : Result A E → Type 0) → ((why : E) → Is (Err why) → ⊥)
    → (given : Result A E) (registers : ℕ → ℕ) → Is given → Gives (λ value registers. Is (Ok value)) given registers
gives_of Is never (Ok value) registers is = is
gives_of Is never (Err why) registers is = never why is

-- a part whose results are such, and never an error
pub meets_gives : {A E : Type 0} {sink : SinkFacts} {defers : ℕ} {part : Result A E → List Entry → Type 0}
    (Before : (ℕ → ℕ) → Type 0) (Is : Result A E → Type 0) → ((why : E) → Is (Err why) → ⊥)
    → Meets sink defers part Before (λ given registers. Is given)
    → Meets sink defers part Before (Gives (λ value registers. Is (Ok value)))
meets_gives Before Is never m =
    meets_more Before Before (λ given registers. Is given) (Gives (λ value registers. Is (Ok value))) m
    (λ registers b. b) (gives_of Is never)

-- a fact about what is given, known before
pub meets_given : {R : Type 0} {sink : SinkFacts} {defers : ℕ} {part : R → List Entry → Type 0}
    (Before : (ℕ → ℕ) → Type 0) (After : R → (ℕ → ℕ) → Type 0)
    → ((registers : ℕ → ℕ) → Before registers → Meets sink defers part Anything After)
    → Meets sink defers part Before After
meets_given Before After m = record {
  meets =
      λ registers state given history s b p a. (m registers b).meets registers state given history s tt p a;
}

no_error : (channel : List CellFacts) (link : Link) (recovers equalises : Bool) (x : PhaseEnd) (why : AuxEnd)
    → EndsSo channel link recovers equalises x → Err why ≡ equalised x → ⊥
no_error channel link true true (Done drive last) why e same = cc
no_error channel link true true (Failed last cause) why e same = cc
no_error channel link true true (Lost last) why e same = cc
no_error channel link true true (Aux w) why e same = let f = e.2 in cc
no_error channel link true false (Done drive last) why e same = cc
no_error channel link true false (Failed last cause) why e same = cc
no_error channel link true false (Lost last) why e same = cc
no_error channel link true false (Aux w) why e same = let f = e.2 in cc
no_error channel link false equalises (Done drive last) why e same = cc
no_error channel link false equalises (Failed last cause) why e same = cc
no_error channel link false equalises (Lost last) why e same = cc
no_error channel link false equalises (Aux w) why e same = let f = e.1 in cc

never_meets : {R : Type 0} {sink : SinkFacts} {defers : ℕ} (Before : (ℕ → ℕ) → Type 0) (After : R → (ℕ → ℕ) → Type 0)
    → Meets sink defers Never Before After
never_meets Before After = record { meets = λ registers state given history s b p a. absurd p.never }

-- the drive of an attempt that is done is the one asked for
asked_for : (channel : List CellFacts) (link : Link) (drive : Drive) (last : Status6)
    → IsDone (IsRight channel link) (Done drive last) → IsAskedFor channel link drive.registers
asked_for channel link drive last e =
    let done = e.2 in
    let same : e.0 ≡ drive = cc in
    subst (λ (d : Drive). IsAskedFor channel link d.registers) same (right_asked_for channel link e.0.registers e.3)

module _ (sink : SinkFacts) (defers : ℕ) (caps : Caps) (first : Link) where
  -- the attempts from this configuration on come to the end of its path
  abbrev AttemptsFall : ℕ → Link → Type 0
  AttemptsFall left link =
      Meets sink defers (Attempts left caps first link) Anything
      (FallsTo sink.channel (fall_from left sink.channel first link))

  -- what follows an attempt comes to this configuration
  abbrev NextFalls : ℕ → StepBehind → Option Link → Type 0
  NextFalls left next found =
      Meets sink defers (AfterAttempt (Attempts left caps first) next) Anything (FallsTo sink.channel found)

  -- what follows a failed attempt
  lower_meets : (left : ℕ) (last : Status6) (next : Option Link) → ((link : Link) → AttemptsFall left link)
      → NextFalls left (fall_back last next) (along (fall_from left sink.channel first) next)
  lower_meets left last None more = meets_ends _ _ _ (λ registers b requests. tt)
  lower_meets left last (Some link) more = more link

  -- the path behind a configuration, by whether its lanes recover and equalise
  abbrev path_behind : ℕ → Link → Bool → Bool → Option Link
  path_behind left link recovers equalises =
      stepped recovers equalises link (along (fall_from left sink.channel first) (after_failed_equalisation link))
      (along (fall_from left sink.channel first) (after_failed_recovery first link))

  -- what follows an attempt that ended so
  next_meets : (left : ℕ) (link : Link) (recovers equalises : Bool) (x : PhaseEnd)
      → EndsSo sink.channel link recovers equalises x → ((lower : Link) → AttemptsFall left lower)
      → MatchResult (equalised x)
      (λ end. NextFalls left (next_of first link end) (path_behind left link recovers equalises)) (λ why. ⊤)
  next_meets left link true true (Done drive last) e more =
      meets_ends _ _ _ (λ registers b requests. (refl, asked_for sink.channel link drive last e))
  next_meets left link true true (Failed last cause) e more = absurd (let f = e.2 in cc)
  next_meets left link true true (Lost last) e more = absurd (let f = e.2 in cc)
  next_meets left link true true (Aux why) e more = tt
  next_meets left link true false (Done drive last) e more = absurd (let f = e.2 in cc)
  next_meets left link true false (Failed last cause) e more =
      lower_meets left last (after_failed_equalisation link) more
  next_meets left link true false (Lost last) e more = absurd (let f = e.2 in cc)
  next_meets left link true false (Aux why) e more = tt
  next_meets left link false equalises (Done drive last) e more = absurd (let f = e.1 in cc)
  next_meets left link false equalises (Failed last cause) e more = absurd (let f = e.1 in cc)
  next_meets left link false equalises (Lost last) e more =
      lower_meets left last (after_failed_recovery first link) more
  next_meets left link false equalises (Aux why) e more = tt

  -- the attempts end at the end of the path
  pub attempts_meet : defers ≤ 7 → HasCells sink.channel → (left : ℕ) (link : Link) → AttemptsFall left link
  unfolding Attempts
  attempts_meet few cells zero link = never_meets _ _
  attempts_meet few cells (suc left) link =
      let r = all_recover sink.channel link in
      let e = all_equalise sink.channel link in
      let Ended : AttemptGives → Type 0 =
      λ given. (x : PhaseEnd) × (given ≡ equalised x) × EndsSo sink.channel link r e x in
      let attempt : Meets sink defers (Attempt caps link) Anything (Gives (λ end registers. Ended (Ok end))) =
      meets_gives Anything Ended (λ why h. no_error sink.channel link r e h.0 why h.2 h.1)
      (attempt_meets caps link few (cells link.rate)) in
      let next : (end : EndOfAttempt) → Ended (Ok end)
      → NextFalls left (next_of first link end) (fall_from (suc left) sink.channel first link) = λ end h.
      subst (NextFalls left (next_of first link end)) (sym (falls_on left sink.channel first link))
      (subst (λ given. MatchResult given
      (λ end. NextFalls left (next_of first link end) (path_behind left link r e)) (λ why. ⊤))
      (sym h.1) (next_meets left link r e h.0 h.2 (attempts_meet few cells left))) in
      meets_then Anything (λ end registers. Ended (Ok end)) _ attempt
      (λ end. meets_given _ _ (λ registers h. next end h))
