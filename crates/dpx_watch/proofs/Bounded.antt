-- How many asks, and how many entries, a step has at most.
use Rattle.std.proofs.Common.{◌≡◌, ℕ, ◌+◌, ◌*◌, ◌≤◌, Bool, true, false, List, [], ◌∷◌, ◌++◌, length, refl, ap, arith}
use Rattle.std.proofs.Common.{length-append, Result, Ok, Err, MatchResult}
use Rattle.dpx_base.specs.declared.aux_port.Answer.{Answer}
use Rattle.dpx_base.specs.declared.aux_port.Entry.{Entry}
use Rattle.dpx_base.specs.declared.aux_port.Entry.TheVariants.{Asked, Waited}
use Rattle.dpx_base.specs.declared.link.Link.{Link}
use Rattle.dpx_base.specs.declared.port_event.PortEvent.{PortEvent}
use Rattle.dpx_base.specs.declared.port_event.PortEvent.TheVariants.{Plug, Interrupt, Loss, Resume}
use Rattle.dpx_base.specs.Port.{asks}
use Rattle.dpx_base.proofs.Port.{asks-append}
use Rattle.dpx_aux.specs.declared.request.Request.{Request}
use Rattle.dpx_aux.specs.Conversation.{Ends, ◌>>=◌, Choice, HistoriesAre}
use Rattle.dpx_aux.specs.Asking.{asked_with, asks_at_most}
use Rattle.dpx_aux.specs.Request.{encode_request}
use Rattle.dpx_aux.specs.Transaction.{Transaction}
use Rattle.dpx_dpcd.specs.Registers.{ReadsStatus, Writes}
use Rattle.dpx_link.specs.Training.{Training, training_asks, training_entries}
use Rattle.dpx_link.proofs.Bounded.{training_asked}
use Rattle.dpx_link.proofs.Waits.{training_length}
use Rattle.dpx_watch.specs.declared.state.WatchState.{WatchState}
use Rattle.dpx_watch.specs.declared.state.WatchState.TheVariants.{Down, Up}
use Rattle.dpx_watch.specs.Laws.{Taken, Watches, history_of}
use Rattle.dpx_watch.specs.State.{state_after}
use Rattle.dpx_watch.specs.Step.{Trains, Checks, Resumes, OnEvent, WatchStep, step_asks, step_entries}

-- A measure of lists of entries that adds up, and counts an entry at most once; of a training it is at most so much.
record Measure : Type 0 where
  pub of : List Entry → ℕ
  pub most : ℕ
  pub none : of [] ≡ 0
  pub one : (entry : Entry) → of (entry ∷ []) ≤ 1
  pub joined : (xs ys : List Entry) → of (xs ++ ys) ≡ of xs + of ys
  pub trained : (top : Link) → HistoriesAre (Training top) (λ history. of history ≤ most)

one_ask : (entry : Entry) → asks (entry ∷ []) ≤ 1
one_ask (Asked request answer) = omega arith
one_ask (Waited micros) = omega arith

by_asks : Measure
by_asks = record {
  of = asks;
  most = training_asks;
  none = refl;
  one = one_ask;
  joined = asks-append;
  trained = training_asked;
}

by_length : Measure
by_length = record {
  of = length;
  most = training_entries;
  none = refl;
  one = λ entry. omega arith;
  joined = length-append;
  trained = training_length;
}

module _ (m : Measure) where
  abbrev AtMost : {R : Type 0} → ℕ → (R → List Entry → Type 0) → Type 0
  AtMost n part = HistoriesAre part (λ history. m.of history ≤ n)

  nothing_few : (n : ℕ) (history : List Entry) → history ≡ [] → m.of history ≤ n
  nothing_few n history e = omega (arith, ap m.of e, m.none)

  ends_few : {R : Type 0} (n : ℕ) (value : R) → AtMost n (Ends value)
  ends_few n value given history e = nothing_few n history e.nothing

  asked_few : (bytes : List ℕ) (answers : List Answer) → m.of (asked_with bytes answers) ≤ length answers
  asked_few bytes [] = omega (arith, m.none)
  asked_few bytes (answer ∷ answers) =
      let entry = Asked bytes answer in
      omega (arith, m.joined (entry ∷ []) (asked_with bytes answers), m.one entry, asked_few bytes answers)

  transaction_few : (request : Request) → AtMost asks_at_most (Transaction request)
  unfolding Transaction
  transaction_few request given history t =
      omega (
        arith,
        ap m.of t.asked,
        asked_few (encode_request request) (t.tried ++ t.last ∷ []),
        length-append t.tried (t.last ∷ []),
        t.few,
      )

  next_few : {A B E : Type 0} (n : ℕ) (next : A → Result B E → List Entry → Type 0)
      → ((value : A) → AtMost n (next value)) → (middle : Result A E) (given : Result B E) (back : List Entry)
      → MatchResult middle (λ value. next value given back) (λ error. (given ≡ Err error) × (back ≡ []))
      → m.of back ≤ n
  next_few n next d (Ok value) given back on = d value given back on
  next_few n next d (Err error) given back on = nothing_few n back on.1

  then_few : {A B E : Type 0} (n k : ℕ) (first : Result A E → List Entry → Type 0)
      (next : A → Result B E → List Entry → Type 0) → AtMost n first → ((value : A) → AtMost k (next value))
      → AtMost (n + k) (first >>= next)
  then_few n k first next f d given history t =
      omega (
        arith,
        ap m.of t.joined,
        m.joined t.front t.back,
        f t.middle t.front t.begins,
        next_few k next d t.middle given t.back t.goes_on,
      )

  choice_few : {R : Type 0} (n : ℕ) (test : Bool) (chosen other : R → List Entry → Type 0) → AtMost n chosen
      → AtMost n other → AtMost n (Choice test chosen other)
  choice_few n true chosen other y f given history c = y given history (c.if_true refl)
  choice_few n false chosen other y f given history c = f given history (c.if_false refl)

  more_few : {R : Type 0} (n k : ℕ) (part : R → List Entry → Type 0) → n ≤ k → AtMost n part → AtMost k part
  more_few n k part less d given history p = omega (arith, d given history p)

  trains_few : (top : Link) → AtMost m.most (Trains top)
  trains_few top given history t = m.trained top t.end history t.training

  status_few : AtMost asks_at_most ReadsStatus
  status_few = then_few asks_at_most 0 _ _ (transaction_few _) (λ bytes. ends_few 0 _)

  writes_few : (address : ℕ) (bytes : List ℕ) → AtMost asks_at_most (Writes address bytes)
  writes_few address bytes = then_few asks_at_most 0 _ _ (transaction_few _) (λ nothing. ends_few 0 _)

  checks_few : (top link : Link) → AtMost (asks_at_most + m.most) (Checks top link)
  unfolding Checks
  checks_few top link =
      then_few asks_at_most m.most _ _ status_few
      (λ last. choice_few m.most _ _ _ (ends_few m.most _) (trains_few top))

  resumes_few : (top link : Link) → AtMost (asks_at_most + asks_at_most + m.most) (Resumes top link)
  unfolding Resumes
  resumes_few top link =
      more_few (asks_at_most + (asks_at_most + m.most)) (asks_at_most + asks_at_most + m.most) _ (omega arith)
      (then_few asks_at_most (asks_at_most + m.most) _ _ (writes_few _ _) (λ powered. checks_few top link))

  event_few : (top : Link) (state : WatchState) (event : PortEvent)
      → AtMost (asks_at_most + asks_at_most + m.most) (OnEvent top state event)
  event_few top state Plug = more_few m.most (asks_at_most + asks_at_most + m.most) _ (omega arith) (trains_few top)
  event_few top Down Interrupt = ends_few (asks_at_most + asks_at_most + m.most) _
  event_few top (Up link last) Interrupt =
      more_few (asks_at_most + m.most) (asks_at_most + asks_at_most + m.most) _ (omega arith) (checks_few top link)
  event_few top state Loss = ends_few (asks_at_most + asks_at_most + m.most) _
  event_few top Down Resume =
      more_few m.most (asks_at_most + asks_at_most + m.most) _ (omega arith) (trains_few top)
  event_few top (Up link last) Resume = resumes_few top link

  step_few : (top : Link) (state : WatchState) (event : PortEvent)
      → AtMost (asks_at_most + asks_at_most + m.most) (WatchStep top state event)
  step_few top state event outcome history w = event_few top state event w.given history w.done

pub step_asked : (top : Link) (state : WatchState) (event : PortEvent)
    → HistoriesAre (WatchStep top state event) (λ history. asks history ≤ step_asks)
unfolding by_asks
step_asked = step_few by_asks

pub step_length : (top : Link) (state : WatchState) (event : PortEvent)
    → HistoriesAre (WatchStep top state event) (λ history. length history ≤ step_entries)
unfolding by_length
step_length = step_few by_length

-- events one behind the other
module _ (m : Measure) (most : ℕ) (few : (top : Link) (state : WatchState) (event : PortEvent)
    → HistoriesAre (WatchStep top state event) (λ history. m.of history ≤ most)) where
  list_few : (top : Link) (state now : WatchState) (taken : List Taken) → Watches top state taken now
      → m.of (history_of taken) ≤ length taken * most
  list_few top state now [] w = omega (arith, m.none)
  list_few top state now (t ∷ ts) w =
      let here : m.of t.history ≤ most = few top state t.event t.outcome t.history w.0 in
      let rest = list_few top (state_after state t.outcome) now ts w.1 in
      omega (arith, m.joined t.history (history_of ts), here, rest)

pub list_asked : (top : Link) (taken : List Taken) (now : WatchState) → Watches top Down taken now
    → asks (history_of taken) ≤ length taken * step_asks
unfolding by_asks
list_asked top taken now w = list_few by_asks step_asks step_asked top Down now taken w

pub list_length : (top : Link) (taken : List Taken) (now : WatchState) → Watches top Down taken now
    → length (history_of taken) ≤ length taken * step_entries
unfolding by_length
list_length top taken now w = list_few by_length step_entries step_length top Down now taken w
