-- How many transactions a training has at most.
use Rattle.std.proofs.Common.{◌≡◌, ℕ, suc, zero, ◌+◌, ◌*◌, ◌<◌, ◌≤◌, Bool, true, false, List, [], ◌∷◌, ◌++◌, length}
use Rattle.std.proofs.Common.{refl, sym, ap, ◌∙◌, subst, arith, append_assoc, length-append, Option, Some, None, Result}
use Rattle.std.proofs.Common.{Ok, Err, MatchResult}
use Rattle.std.proofs.lemmas.List.{append-nil}
use Rattle.dpx_base.specs.declared.aux_port.Answer.{Answer}
use Rattle.dpx_base.specs.declared.aux_port.Entry.{Entry}
use Rattle.dpx_base.specs.declared.aux_port.Entry.TheVariants.{Asked, Waited}
use Rattle.dpx_base.specs.declared.link.Link.{Link}
use Rattle.dpx_base.specs.Port.{asks}
use Rattle.dpx_base.proofs.Port.{asks-append}
use Rattle.dpx_aux.specs.declared.request.Request.{Request}
use Rattle.dpx_aux.specs.declared.transaction.AuxEnd.{AuxEnd}
use Rattle.dpx_aux.specs.Conversation.{Ends, Waits, ◌>>=◌, Choice, Never, HistoriesAre}
use Rattle.dpx_aux.specs.Transaction.{Transaction}
use Rattle.dpx_aux.proofs.Transacts.{transaction_asks}
use Rattle.dpx_dpcd.specs.declared.caps.Caps.{Caps}
use Rattle.dpx_dpcd.specs.declared.caps.CapsBad.{CapsBad}
use Rattle.dpx_dpcd.specs.declared.pattern.Pattern.{Pattern}
use Rattle.dpx_dpcd.specs.declared.status.Drive.{Drive}
use Rattle.dpx_dpcd.specs.declared.status.Status6.{Status6}
use Rattle.dpx_dpcd.specs.Caps.{has_extended, caps_read, caps_start}
use Rattle.dpx_dpcd.specs.Registers.{ReadsBlock, Writes}
use Rattle.dpx_phase.specs.declared.phase_end.PhaseEnd.{PhaseEnd}
use Rattle.dpx_phase.specs.declared.phase_end.PhaseEnd.TheVariants.{Done, Failed, Lost, Aux}
use Rattle.dpx_phase.specs.Equalisation.{Equalisation}
use Rattle.dpx_phase.specs.Phase.{Phase, ReadsLater, Round, Rounds, Concludes, Follows, Takes}
use Rattle.dpx_phase.specs.Recovery.{Recovery}
use Rattle.dpx_phase.proofs.FirstEnd.{tenth_ends, fifth_ends}
use Rattle.dpx_link.specs.declared.fallback.Next.{Next}
use Rattle.dpx_link.specs.declared.fallback.Next.TheVariants.{Try, Stop}
use Rattle.dpx_link.specs.declared.train_end.Verdict.{Verdict}
use Rattle.dpx_link.specs.Attempt.{Attempt, Configures, PhasesInTurn, AfterRecovery, Equalises}
use Rattle.dpx_link.specs.Fallback.{next_of}
use Rattle.dpx_link.specs.Laws.{OnlyWaits, MadeOf, MadeOfAtMost}
use Rattle.dpx_link.specs.Training.{Capabilities, Capable, Attempts, AfterAttempt, TrainsWith, TrainOutcome}
use Rattle.dpx_link.specs.Training.{Training, attempts_at_most}

waits-append : (xs ys : List Entry) → OnlyWaits xs → OnlyWaits ys → OnlyWaits (xs ++ ys)
waits-append [] ys v w = w
waits-append (Waited micros ∷ xs) ys v w = waits-append xs ys v w
waits-append (Asked request answer ∷ xs) ys v w = absurd v

-- waits in front
waits_before : (n : ℕ) (xs ys : List Entry) → OnlyWaits xs → MadeOf n ys → MadeOf n (xs ++ ys)
unfolding MadeOf
waits_before zero xs ys v m = waits-append xs ys v m
waits_before (suc n) xs ys v m = record {
  waits = xs ++ m.waits;
  front = m.front;
  back = m.back;
  joined = ap (λ (zs : List Entry). xs ++ zs) m.joined ∙ sym (append_assoc xs m.waits (m.front ++ m.back));
  waited = waits-append xs m.waits v m.waited;
  request = m.request;
  given = m.given;
  transacts = m.transacts;
  goes_on = m.goes_on;
}

regrouped : (whole waits front back ys : List Entry) → whole ≡ waits ++ (front ++ back)
    → whole ++ ys ≡ waits ++ (front ++ (back ++ ys))
regrouped whole waits front back ys e =
    ap (λ (zs : List Entry). zs ++ ys) e ∙ (append_assoc waits (front ++ back) ys
    ∙ ap (λ (zs : List Entry). waits ++ zs) (append_assoc front back ys))

-- one history behind the other
made-append : (m n : ℕ) (xs ys : List Entry) → MadeOf m xs → MadeOf n ys → MadeOf (m + n) (xs ++ ys)
unfolding MadeOf
made-append zero n xs ys a b = subst (λ (k : ℕ). MadeOf k (xs ++ ys)) (omega arith) (waits_before n xs ys a b)
made-append (suc m) n xs ys a b =
    let whole : MadeOf (suc (m + n)) (xs ++ ys) = record {
      waits = a.waits;
      front = a.front;
      back = a.back ++ ys;
      joined = regrouped xs a.waits a.front a.back ys a.joined;
      waited = a.waited;
      request = a.request;
      given = a.given;
      transacts = a.transacts;
      goes_on = made-append m n a.back ys a.goes_on b;
    } in
    subst (λ (k : ℕ). MadeOf k (xs ++ ys)) (let e : suc (m + n) ≡ suc m + n = omega arith in e) whole

most-append : (m n : ℕ) (whole xs ys : List Entry) → whole ≡ xs ++ ys → MadeOfAtMost m xs → MadeOfAtMost n ys
    → MadeOfAtMost (m + n) whole
most-append m n whole xs ys e a b = record {
  count = a.count + b.count;
  few = omega (arith, a.few, b.few);
  made = subst (MadeOf (a.count + b.count)) (sym e) (made-append a.count b.count xs ys a.made b.made);
}

most_more : (m n : ℕ) (xs : List Entry) → m ≤ n → MadeOfAtMost m xs → MadeOfAtMost n xs
most_more m n xs few a = record { count = a.count; few = omega (arith, a.few); made = a.made }

nothing_most : (n : ℕ) (xs : List Entry) → xs ≡ [] → MadeOfAtMost n xs
unfolding MadeOf
nothing_most n xs e = record { count = 0; few = omega arith; made = subst (MadeOf 0) (sym e) tt }

ends_most : {R : Type 0} (value : R) → HistoriesAre (Ends value) (MadeOfAtMost 0)
ends_most value given history e = nothing_most 0 history e.nothing

waits_most : {E : Type 0} (micros : ℕ) → HistoriesAre (Waits {E = E} micros) (MadeOfAtMost 0)
unfolding MadeOf
waits_most micros given history w = record { count = 0; few = omega arith; made = subst (MadeOf 0) (sym w.waited) tt }

transaction_most : (request : Request) → HistoriesAre (Transaction request) (MadeOfAtMost 1)
unfolding MadeOf
transaction_most request given history t = record {
  count = 1;
  few = omega arith;
  made = record {
    waits = [];
    front = history;
    back = [];
    joined = sym (append-nil history);
    waited = tt;
    request = request;
    given = given;
    transacts = t;
    goes_on = tt;
  };
}

next_most : {A B E : Type 0} (n : ℕ) (next : A → Result B E → List Entry → Type 0)
    → ((value : A) → HistoriesAre (next value) (MadeOfAtMost n))
    → (middle : Result A E) (given : Result B E) (back : List Entry)
    → MatchResult middle (λ value. next value given back) (λ error. (given ≡ Err error) × (back ≡ []))
    → MadeOfAtMost n back
next_most n next d (Ok value) given back on = d value given back on
next_most n next d (Err error) given back on = nothing_most n back on.1

then_most : {A B E : Type 0} (m n : ℕ) (first : Result A E → List Entry → Type 0)
    (next : A → Result B E → List Entry → Type 0) → HistoriesAre first (MadeOfAtMost m)
    → ((value : A) → HistoriesAre (next value) (MadeOfAtMost n)) → HistoriesAre (first >>= next) (MadeOfAtMost (m + n))
then_most m n first next f d given history t =
    most-append m n history t.front t.back t.joined (f t.middle t.front t.begins)
    (next_most n next d t.middle given t.back t.goes_on)

choice_most : {R : Type 0} (n : ℕ) (test : Bool) (chosen other : R → List Entry → Type 0)
    → HistoriesAre chosen (MadeOfAtMost n) → HistoriesAre other (MadeOfAtMost n)
    → HistoriesAre (Choice test chosen other) (MadeOfAtMost n)
choice_most n true chosen other y f given history c = y given history (c.if_true refl)
choice_most n false chosen other y f given history c = f given history (c.if_false refl)

more_most : {R : Type 0} (m n : ℕ) (part : R → List Entry → Type 0) → m ≤ n → HistoriesAre part (MadeOfAtMost m)
    → HistoriesAre part (MadeOfAtMost n)
more_most m n part few d given history p = most_more m n history few (d given history p)

writes_most : (address : ℕ) (bytes : List ℕ) → HistoriesAre (Writes address bytes) (MadeOfAtMost 1)
writes_most address bytes = then_most 1 0 _ _ (transaction_most _) (λ nothing. ends_most _)

block_most : (address : ℕ) → HistoriesAre (ReadsBlock address) (MadeOfAtMost 1)
block_most address = then_most 1 0 _ _ (transaction_most _) (λ bytes. ends_most _)

reads_most : (pause : ℕ) → HistoriesAre (ReadsLater pause) (MadeOfAtMost 1)
reads_most pause = then_most 0 1 _ _ (waits_most pause)
    (λ waited. then_most 1 0 _ _ (transaction_most _) (λ bytes. ends_most _))

round_most : (phase : Phase) → HistoriesAre (Round phase) (MadeOfAtMost 2)
round_most phase =
    then_most 1 1 _ _ (reads_most phase.pause) (λ status. then_most 1 0 _ _ (writes_most _ _) (λ written. ends_most _))

rounds_most : (phase : Phase) (statuses : List Status6) (history : List Entry) → Rounds phase statuses history
    → MadeOfAtMost (2 * length statuses) history
rounds_most phase [] history r = nothing_most _ history r
rounds_most phase (status ∷ statuses) history r =
    most_more (2 + 2 * length statuses) _ history (omega arith)
    (most-append 2 (2 * length statuses) history r.front r.back r.joined
    (round_most phase (Ok status) r.front r.begins) (rounds_most phase statuses r.back r.goes_on))

-- A phase that the status of this number always ends has twice as many transactions but one behind its start: behind
-- that status nothing is written.
concludes_most : (phase : Phase) (status : Status6) (found : Option PhaseEnd) (before limit : ℕ)
    (given : Result PhaseEnd AuxEnd) (history : List Entry) → (before + 1 ≡ limit → found ≡ None → ⊥) → before < limit
    → Concludes phase status found given history
    → (k : ℕ) × (MadeOfAtMost k history) × (2 * before + 1 + k + 1 ≤ 2 * limit)
concludes_most phase status (Some end) before limit given history always room c =
    (0, ends_most (Ok end) given history c, omega arith)
concludes_most phase status None before limit given history always room c =
    let more : before + 1 < limit = (let d : before + 1 ≡ limit → ⊥ = λ e. always e refl in omega arith) in
    (1, writes_most _ _ (Err c.why) history c.failed, omega arith)

-- the last round, behind statuses of which so many are too few to have ended the phase for sure
last_read : (phase : Phase) (statuses : List Status6) (limit : ℕ) (middle : Result Status6 AuxEnd)
    (given : Result PhaseEnd AuxEnd) (back : List Entry) → ((all : List Status6) → phase.ending all limit ≡ None → ⊥)
    → length statuses < limit → MatchResult middle
    (λ status. Concludes phase status (phase.ending (statuses ++ status ∷ []) (length statuses + 1)) given back)
    (λ error. (given ≡ Err error) × (back ≡ []))
    → (k : ℕ) × (MadeOfAtMost k back) × (2 * length statuses + 1 + k + 1 ≤ 2 * limit)
last_read phase statuses limit (Ok status) given back always room on =
    concludes_most phase status _ (length statuses) limit given back
    (λ here none. always (statuses ++ status ∷ [])
    (subst (λ (n : ℕ). phase.ending (statuses ++ status ∷ []) n ≡ None) here none)) room on
last_read phase statuses limit (Err error) given back always room on = (0, nothing_most 0 back on.1, omega arith)

follows_most : (phase : Phase) (limit most : ℕ) → ((all : List Status6) → phase.ending all limit ≡ None → ⊥) → 1 ≤ limit
    → 2 * limit ≡ most + 1 → HistoriesAre (Follows phase) (MadeOfAtMost most)
follows_most phase limit most always some twice given history f =
    let room : length f.statuses < limit = (let d : limit ≤ length f.statuses → ⊥ =
    λ within. always f.statuses (f.unended limit some within) in omega arith) in
    let last = last_read phase f.statuses limit f.ends.middle given f.ends.back always room f.ends.goes_on in
    let ending : MadeOfAtMost (1 + last.0) f.last =
    most-append 1 last.0 f.last f.ends.front f.ends.back f.ends.joined
    (reads_most phase.pause f.ends.middle f.ends.front f.ends.begins) last.1 in
    let whole : MadeOfAtMost (2 * length f.statuses + (1 + last.0)) history =
    most-append (2 * length f.statuses) (1 + last.0) history f.before f.last f.joined
    (rounds_most phase f.statuses f.before f.rounds) ending in
    let few : 2 * length f.statuses + 1 + last.0 + 1 ≤ 2 * limit = last.2 in
    most_more _ most history (omega arith) whole

takes_most : (phase : Phase) (chosen : Pattern) (drive : List ℕ) (limit most : ℕ)
    → ((all : List Status6) → phase.ending all limit ≡ None → ⊥) → 1 ≤ limit → 2 * limit ≡ most + 1
    → HistoriesAre (Takes phase chosen drive) (MadeOfAtMost (1 + most))
takes_most phase chosen drive limit most always some twice given history t =
    then_most 1 most _ _ (writes_most _ _)
    (λ started. follows_most phase limit most always some twice) t.result history t.done

recovery_most : (link : Link) → HistoriesAre (Recovery link) (MadeOfAtMost 20)
unfolding Recovery
recovery_most link = takes_most _ _ _ 10 19 (tenth_ends link.lanes) (omega arith) (omega arith)

equalisation_most : (link : Link) (chosen : Pattern) (drive : Drive) (interval : ℕ)
    → HistoriesAre (Equalisation link chosen drive interval) (MadeOfAtMost 10)
unfolding Equalisation
equalisation_most link chosen drive interval =
    takes_most _ _ _ 5 9 (fifth_ends link.lanes drive.registers) (omega arith) (omega arith)

equalises_most : (caps : Caps) (link : Link) (drive : Drive)
    → HistoriesAre (Equalises caps link drive) (MadeOfAtMost 10)
equalises_most caps link drive given history e = equalisation_most link _ drive caps.interval e.end history e.phase

after_most : (caps : Caps) (link : Link) (end : PhaseEnd) → HistoriesAre (AfterRecovery caps link end) (MadeOfAtMost 10)
after_most caps link (Done drive last) = equalises_most caps link drive
after_most caps link (Failed last cause) = more_most 0 10 _ (omega arith) (ends_most _)
after_most caps link (Lost last) = more_most 0 10 _ (omega arith) (ends_most _)
after_most caps link (Aux why) = more_most 0 10 _ (omega arith) (ends_most _)

phases_most : (caps : Caps) (link : Link) → HistoriesAre (PhasesInTurn caps link) (MadeOfAtMost 30)
phases_most caps link given history p =
    most-append 20 10 history p.front p.back p.joined (recovery_most link p.end p.front p.recovery)
    (after_most caps link p.end given p.back p.goes_on)

configures_most : (link : Link) → HistoriesAre (Configures link) (MadeOfAtMost 2)
unfolding Configures
configures_most link = then_most 1 1 _ _ (writes_most _ _) (λ configured. writes_most _ _)

attempt_most : (caps : Caps) (link : Link) → HistoriesAre (Attempt caps link) (MadeOfAtMost 32)
unfolding Attempt
attempt_most caps link = then_most 2 30 _ _ (configures_most link) (λ configured. phases_most caps link)

after_attempt_most : (n : ℕ) (more : Link → Result Verdict AuxEnd → List Entry → Type 0)
    → ((link : Link) → HistoriesAre (more link) (MadeOfAtMost n)) → (next : Next)
    → HistoriesAre (AfterAttempt more next) (MadeOfAtMost n)
after_attempt_most n more d (Try link) = d link
after_attempt_most n more d (Stop verdict) = more_most 0 n _ (omega arith) (ends_most _)

never_most : {R : Type 0} → HistoriesAre (Never {R = R}) (MadeOfAtMost 0)
never_most given history n = absurd n.never

attempts_most : (left most : ℕ) (caps : Caps) (first link : Link) → most ≡ left * 32
    → HistoriesAre (Attempts left caps first link) (MadeOfAtMost most)
unfolding Attempts
attempts_most zero most caps first link e = more_most 0 most _ (omega arith) never_most
attempts_most (suc left) most caps first link e =
    more_most (32 + left * 32) most _ (omega arith)
    (then_most 32 (left * 32) _ _ (attempt_most caps link)
    (λ end. after_attempt_most (left * 32) (Attempts left caps first)
    (λ lower. attempts_most left (left * 32) caps first lower refl) (next_of first link end)))

trains_with_most : (caps : Caps) (first : Link) → HistoriesAre (TrainsWith caps first) (MadeOfAtMost 386)
unfolding TrainsWith
trains_with_most caps first =
    then_most 1 385 _ _ (writes_most _ _) (λ powered. then_most 384 1 _ _
    (attempts_most attempts_at_most 384 caps first first (omega arith))
    (λ verdict. then_most 1 0 _ _ (writes_most _ _) (λ closed. ends_most _)))

capable_most : (top : Link) (caps : Result Caps CapsBad) → HistoriesAre (Capable top caps) (MadeOfAtMost 386)
capable_most top (Err why) = more_most 0 386 _ (omega arith) (ends_most _)
capable_most top (Ok caps) = trains_with_most caps (caps_start caps top)

capabilities_most : HistoriesAre Capabilities (MadeOfAtMost 2)
unfolding Capabilities
capabilities_most =
    then_most 1 1 _ _ (block_most _) (λ block. choice_most 1 (has_extended block) _ _ (block_most _)
    (more_most 0 1 _ (omega arith) (ends_most _)))

trains_most : (top : Link) → HistoriesAre (TrainOutcome top) (MadeOfAtMost 388)
unfolding TrainOutcome
trains_most top = then_most 2 386 _ _ capabilities_most (λ block. capable_most top (caps_read block))

pub training_most : (top : Link) → HistoriesAre (Training top) (MadeOfAtMost 388)
training_most top end history t = trains_most top t.outcome history t.trains

asks-waits : (xs : List Entry) → OnlyWaits xs → asks xs ≡ 0
asks-waits [] w = refl
asks-waits (Waited micros ∷ xs) w = asks-waits xs w
asks-waits (Asked request answer ∷ xs) w = absurd w

made_asks : (n : ℕ) (history : List Entry) → MadeOf n history → asks history ≤ 8 * n
unfolding MadeOf
made_asks zero history m = omega (arith, asks-waits history m)
made_asks (suc n) history m =
    omega (
      arith,
      ap asks m.joined,
      asks-append m.waits (m.front ++ m.back),
      asks-append m.front m.back,
      asks-waits m.waits m.waited,
      transaction_asks m.request m.given m.front m.transacts,
      made_asks n m.back m.goes_on,
    )

pub training_asked : (top : Link) → HistoriesAre (Training top) (λ history. asks history ≤ 3104)
training_asked top end history t =
    let m = training_most top end history t in
    omega (arith, m.few, made_asks m.count history m.made)
