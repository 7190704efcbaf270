-- How many waits, and so how many entries, a training has at most.
use Rattle.std.proofs.Common.{◌≡◌, ℕ, suc, zero, ◌+◌, ◌*◌, ◌<◌, ◌≤◌, Bool, true, false, List, [], ◌∷◌, ◌++◌, length}
use Rattle.std.proofs.Common.{refl}
use Rattle.std.proofs.Common.{ap, arith, Option, Some, None, Result, Ok, Err, MatchResult}
use Rattle.dpx_base.specs.declared.aux_port.Answer.{Answer}
use Rattle.dpx_base.specs.declared.aux_port.Entry.{Entry}
use Rattle.dpx_base.specs.declared.link.Link.{Link}
use Rattle.dpx_base.specs.Asks.{waits}
use Rattle.dpx_base.proofs.Waits.{waits-append, length-entries}
use Rattle.dpx_aux.specs.declared.request.Request.{Request}
use Rattle.dpx_aux.specs.declared.transaction.AuxEnd.{AuxEnd}
use Rattle.dpx_aux.specs.Conversation.{Ends, Waits, ◌>>=◌, Choice, HistoriesAre}
use Rattle.dpx_aux.specs.Asking.{asked_with}
use Rattle.dpx_aux.specs.Request.{encode_request}
use Rattle.dpx_aux.specs.Transaction.{Transaction}
use Rattle.dpx_dpcd.specs.declared.caps.Caps.{Caps}
use Rattle.dpx_dpcd.specs.declared.caps.CapsBad.{CapsBad}
use Rattle.dpx_dpcd.specs.declared.pattern.Pattern.{Pattern}
use Rattle.dpx_dpcd.specs.declared.status.Drive.{Drive}
use Rattle.dpx_dpcd.specs.declared.status.Status6.{Status6}
use Rattle.dpx_dpcd.specs.Caps.{has_extended, caps_read, caps_start}
use Rattle.dpx_dpcd.specs.Registers.{ReadsBlock, Writes}
use Rattle.dpx_phase.specs.declared.phase_end.PhaseEnd.{PhaseEnd}
use Rattle.dpx_phase.specs.declared.phase_end.PhaseEnd.TheVariants.{Done, Failed, Lost, Aux}
use Rattle.dpx_phase.specs.Equalisation.{Equalisation}
use Rattle.dpx_phase.specs.Phase.{Phase, ReadsLater, Round, Rounds, Concludes, Follows, Takes}
use Rattle.dpx_phase.specs.Recovery.{Recovery}
use Rattle.dpx_phase.proofs.FirstEnd.{tenth_ends, fifth_ends}
use Rattle.dpx_link.specs.declared.fallback.Next.{Next}
use Rattle.dpx_link.specs.declared.fallback.Next.TheVariants.{Try, Stop}
use Rattle.dpx_link.specs.declared.train_end.Verdict.{Verdict}
use Rattle.dpx_link.specs.Attempt.{Attempt, Configures, AfterRecovery, Equalises}
use Rattle.dpx_link.specs.Fallback.{next_of}
use Rattle.dpx_link.specs.Training.{Capabilities, Capable, Attempts, AfterAttempt, TrainsWith, TrainOutcome}
use Rattle.dpx_link.specs.Training.{Training, attempts_at_most, training_entries}
use Rattle.dpx_link.proofs.Bounded.{training_asked}

-- histories of this part have at most so many waits
abbrev WaitsAtMost : {R : Type 0} → ℕ → (R → List Entry → Type 0) → Type 0
WaitsAtMost most part = HistoriesAre part (λ history. waits history ≤ most)

waits_joined : (m n : ℕ) (whole xs ys : List Entry) → whole ≡ xs ++ ys → waits xs ≤ m → waits ys ≤ n
    → waits whole ≤ m + n
waits_joined m n whole xs ys e a b = omega (arith, ap waits e, waits-append xs ys, a, b)

no_entries : (n : ℕ) (xs : List Entry) → xs ≡ [] → waits xs ≤ n
no_entries n xs e = omega (arith, ap waits e)

ends_waits : {R : Type 0} (n : ℕ) (value : R) → WaitsAtMost n (Ends value)
ends_waits n value given history e = no_entries n history e.nothing

wait_waits : {E : Type 0} (micros : ℕ) → WaitsAtMost 1 (Waits {E = E} micros)
wait_waits micros given history w = omega (arith, ap waits w.waited)

asked_waits : (bytes : List ℕ) (answers : List Answer) → waits (asked_with bytes answers) ≡ 0
asked_waits bytes [] = refl
asked_waits bytes (x ∷ xs) = asked_waits bytes xs

transaction_waits : (request : Request) → WaitsAtMost 0 (Transaction request)
unfolding Transaction
transaction_waits request given history t =
    omega (arith, ap waits t.asked, asked_waits (encode_request request) (t.tried ++ t.last ∷ []))

next_waits : {A B E : Type 0} (n : ℕ) (next : A → Result B E → List Entry → Type 0)
    → ((value : A) → WaitsAtMost n (next value)) → (middle : Result A E) (given : Result B E) (back : List Entry)
    → MatchResult middle (λ value. next value given back) (λ error. (given ≡ Err error) × (back ≡ []))
    → waits back ≤ n
next_waits n next d (Ok value) given back on = d value given back on
next_waits n next d (Err error) given back on = no_entries n back on.1

then_waits : {A B E : Type 0} (m n : ℕ) (first : Result A E → List Entry → Type 0)
    (next : A → Result B E → List Entry → Type 0) → WaitsAtMost m first
    → ((value : A) → WaitsAtMost n (next value)) → WaitsAtMost (m + n) (first >>= next)
then_waits m n first next f d given history t =
    waits_joined m n history t.front t.back t.joined (f t.middle t.front t.begins)
    (next_waits n next d t.middle given t.back t.goes_on)

choice_waits : {R : Type 0} (n : ℕ) (test : Bool) (chosen other : R → List Entry → Type 0) → WaitsAtMost n chosen
    → WaitsAtMost n other → WaitsAtMost n (Choice test chosen other)
choice_waits n true chosen other y f given history c = y given history (c.if_true refl)
choice_waits n false chosen other y f given history c = f given history (c.if_false refl)

writes_waits : (address : ℕ) (bytes : List ℕ) → WaitsAtMost 0 (Writes address bytes)
writes_waits address bytes = then_waits 0 0 _ _ (transaction_waits _) (λ nothing. ends_waits 0 _)

block_waits : (address : ℕ) → WaitsAtMost 0 (ReadsBlock address)
block_waits address = then_waits 0 0 _ _ (transaction_waits _) (λ bytes. ends_waits 0 _)

reads_waits : (pause : ℕ) → WaitsAtMost 1 (ReadsLater pause)
reads_waits pause =
    then_waits 1 0 _ _ (wait_waits pause) (λ waited. then_waits 0 0 _ _ (transaction_waits _) (λ bytes. ends_waits 0 _))

round_waits : (phase : Phase) → WaitsAtMost 1 (Round phase)
round_waits phase =
    then_waits 1 0 _ _ (reads_waits phase.pause) (λ status.
    then_waits 0 0 _ _ (writes_waits _ _) (λ written. ends_waits 0 _))

rounds_waits : (phase : Phase) (statuses : List Status6) (history : List Entry) → Rounds phase statuses history
    → waits history ≤ length statuses
rounds_waits phase [] history r = no_entries 0 history r
rounds_waits phase (status ∷ statuses) history r =
    let here = round_waits phase (Ok status) r.front r.begins in
    let rest = rounds_waits phase statuses r.back r.goes_on in
    omega (arith, waits_joined 1 (length statuses) history r.front r.back r.joined here rest)

concludes_waits : (phase : Phase) (status : Status6) (found : Option PhaseEnd)
    → WaitsAtMost 0 (Concludes phase status found)
concludes_waits phase status (Some end) given history c = no_entries 0 history c.nothing
concludes_waits phase status None given history c = writes_waits _ _ (Err c.why) history c.failed

-- a phase that the status of this number always ends
follows_waits : (phase : Phase) (limit : ℕ) → ((all : List Status6) → phase.ending all limit ≡ None → ⊥) → 1 ≤ limit
    → WaitsAtMost limit (Follows phase)
follows_waits phase limit always some given history f =
    let room : length f.statuses < limit =
    (let d : limit ≤ length f.statuses → ⊥ = λ within. always f.statuses (f.unended limit some within) in
    omega arith) in
    let last : waits f.last ≤ 1 = then_waits 1 0 _ _ (reads_waits phase.pause) (λ status.
    concludes_waits phase status _) given f.last f.ends in
    omega (
      arith,
      waits_joined (length f.statuses) 1 history f.before f.last f.joined
          (rounds_waits phase f.statuses f.before f.rounds) last,
      room,
    )

takes_waits : (phase : Phase) (chosen : Pattern) (drive : List ℕ) (limit : ℕ)
    → ((all : List Status6) → phase.ending all limit ≡ None → ⊥) → 1 ≤ limit
    → WaitsAtMost limit (Takes phase chosen drive)
takes_waits phase chosen drive limit always some given history t =
    omega (
      arith,
      then_waits 0 limit _ _ (writes_waits _ _) (λ started. follows_waits phase limit always some)
          t.result history t.done,
    )

recovery_waits : (link : Link) → WaitsAtMost 10 (Recovery link)
unfolding Recovery
recovery_waits link = takes_waits _ _ _ 10 (tenth_ends link.lanes) (omega arith)

equalises_waits : (caps : Caps) (link : Link) (drive : Drive) → WaitsAtMost 5 (Equalises caps link drive)
unfolding Equalisation
equalises_waits caps link drive given history e =
    takes_waits _ _ _ 5 (fifth_ends link.lanes drive.registers) (omega arith) e.end history e.phase

after_waits : (caps : Caps) (link : Link) (end : PhaseEnd) → WaitsAtMost 5 (AfterRecovery caps link end)
after_waits caps link (Done drive last) = equalises_waits caps link drive
after_waits caps link (Failed last cause) = ends_waits 5 _
after_waits caps link (Lost last) = ends_waits 5 _
after_waits caps link (Aux why) = ends_waits 5 _

attempt_waits : (caps : Caps) (link : Link) → WaitsAtMost 15 (Attempt caps link)
unfolding Attempt Configures
attempt_waits caps link =
    then_waits 0 15 _ _ (then_waits 0 0 _ _ (writes_waits _ _) (λ configured. writes_waits _ _))
    (λ configured given history p.
    waits_joined 10 5 history p.front p.back p.joined (recovery_waits link p.end p.front p.recovery)
    (after_waits caps link p.end given p.back p.goes_on))

after_attempt_waits : (n : ℕ) (more : Link → Result Verdict AuxEnd → List Entry → Type 0)
    → ((link : Link) → WaitsAtMost n (more link)) → (next : Next) → WaitsAtMost n (AfterAttempt more next)
after_attempt_waits n more d (Try link) = d link
after_attempt_waits n more d (Stop verdict) = ends_waits n _

attempts_waits : (left most : ℕ) (caps : Caps) (first link : Link) → most ≡ left * 15
    → WaitsAtMost most (Attempts left caps first link)
unfolding Attempts
attempts_waits zero most caps first link e given history n = absurd n.never
attempts_waits (suc left) most caps first link e given history t =
    omega (
      arith,
      then_waits 15 (left * 15) _ _ (attempt_waits caps link) (λ end.
          after_attempt_waits (left * 15) (Attempts left caps first) (λ lower.
          attempts_waits left (left * 15) caps first lower refl) (next_of first link end)) given history t,
    )

trains_with_waits : (caps : Caps) (first : Link) → WaitsAtMost 180 (TrainsWith caps first)
unfolding TrainsWith
trains_with_waits caps first =
    then_waits 0 180 _ _ (writes_waits _ _) (λ powered.
    then_waits 180 0 _ _ (attempts_waits attempts_at_most 180 caps first first (omega arith)) (λ verdict.
    then_waits 0 0 _ _ (writes_waits _ _) (λ closed. ends_waits 0 _)))

capable_waits : (top : Link) (caps : Result Caps CapsBad) → WaitsAtMost 180 (Capable top caps)
capable_waits top (Err why) = ends_waits 180 _
capable_waits top (Ok caps) = trains_with_waits caps (caps_start caps top)

outcome_waits : (top : Link) → WaitsAtMost 180 (TrainOutcome top)
unfolding TrainOutcome Capabilities
outcome_waits top =
    then_waits 0 180 _ _ (then_waits 0 0 _ _ (block_waits _) (λ block.
    choice_waits 0 (has_extended block) _ _ (block_waits _) (ends_waits 0 _)))
    (λ block. capable_waits top (caps_read block))

pub training_length : (top : Link) → HistoriesAre (Training top) (λ history. length history ≤ training_entries)
training_length top end history t =
    omega (
      arith,
      length-entries history,
      training_asked top end history t,
      outcome_waits top t.outcome history t.trains,
    )
