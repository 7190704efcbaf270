-- What parts of a conversation give and leave where a modelled sink answers.
use Rattle.std.proofs.Common.{◌≡◌, ℕ, ◌+◌, ◌*◌, ◌%◌, ◌<◌, ◌≤◌, ◌^◌, Bool, true, false, nat_lt, ◌==◌, inl, inr}
use Rattle.std.proofs.Common.{if◌then◌else◌, List, [], ◌∷◌, ◌++◌, length, refl, sym, ap, ◌∙◌, subst, arith, Result, Ok}
use Rattle.std.proofs.Common.{Err}
use Rattle.std.specs.Prelude.{⊤}
use Rattle.std.specs.List.{AllByRecursion}
use Rattle.std.proofs.lemmas.List.FromFn.{length-map-range_with_len}
use Rattle.std.proofs.lemmas.Bool.{cases_eq}
use Rattle.std.proofs.lemmas.Nat.{mod-mul-add}
use Rattle.std.proofs.lemmas.Grind.{common_steps}
use Rattle.dpx_base.specs.declared.aux_port.Answer.{Answer}
use Rattle.dpx_base.specs.declared.aux_port.Answer.TheVariants.{Bytes}
use Rattle.dpx_base.specs.declared.aux_port.Entry.{Entry}
use Rattle.dpx_base.specs.declared.aux_port.Entry.TheVariants.{Asked, Waited}
use Rattle.dpx_base.specs.Port.{answers_in}
use Rattle.dpx_aux.specs.declared.request.AuxBad.{AuxBad}
use Rattle.dpx_aux.specs.declared.request.Request.{Request}
use Rattle.dpx_aux.specs.declared.request.Request.TheVariants.{Read, Write}
use Rattle.dpx_aux.specs.declared.transaction.AuxEnd.{AuxEnd}
use Rattle.dpx_aux.specs.declared.transaction.AuxEnd.TheVariants.{Spent}
use Rattle.dpx_aux.specs.declared.asking.LastAnswer.TheVariants.{Defer}
use Rattle.dpx_aux.specs.declared.reply.Reply.TheVariants.{Ack, Malformed}
use Rattle.dpx_aux.specs.Request.{IsValid, encode_request, read_request, address_of, answered_length}
use Rattle.dpx_aux.specs.Asking.{IsInVain, EndsAs, asked_with}
use Rattle.dpx_aux.specs.Transaction.{heard_from, meaning, spent}
use Rattle.dpx_dpcd.specs.LoadPort.{requests_in}
use Rattle.dpx_dpcd.specs.RegFile.{SinkFacts, brought, registers_after}
use Rattle.dpx_dpcd.specs.SinkPlan.{SinkState, new_sink, is_deferred, sink_answer, after_request, sink_answers}

-- the state of a sink after these entries
abbrev pub state_after : ℕ → SinkState → List Entry → SinkState
state_after defers state [] = state
state_after defers state (Asked bytes answer ∷ entries) =
    state_after defers (after_request defers state (read_request bytes)) entries
state_after defers state (Waited micros ∷ entries) = state_after defers state entries

-- a sink that stood so gave the answers in these entries
abbrev pub Answers : SinkFacts → ℕ → SinkState → List Entry → Type 0
Answers sink defers state [] = ⊤
Answers sink defers state (Asked bytes answer ∷ entries) =
    (answer ≡ sink_answer sink defers state (read_request bytes))
    × Answers sink defers (after_request defers state (read_request bytes)) entries
Answers sink defers state (Waited micros ∷ entries) = Answers sink defers state entries

pub answers_planned : (sink : SinkFacts) (defers : ℕ) (state : SinkState) (history : List Entry)
    → answers_in history ≡ sink_answers sink defers state (requests_in history) → Answers sink defers state history
answers_planned sink defers state [] e = tt
answers_planned sink defers state (Asked bytes answer ∷ entries) e =
    (cc, answers_planned sink defers (after_request defers state (read_request bytes)) entries (cc))
answers_planned sink defers state (Waited micros ∷ entries) e = answers_planned sink defers state entries e

pub answers-front : (sink : SinkFacts) (defers : ℕ) (state : SinkState) (xs ys : List Entry)
    → Answers sink defers state (xs ++ ys) → Answers sink defers state xs
answers-front sink defers state [] ys a = tt
answers-front sink defers state (Asked bytes answer ∷ xs) ys a =
    (a.0, answers-front sink defers (after_request defers state (read_request bytes)) xs ys a.1)
answers-front sink defers state (Waited micros ∷ xs) ys a = answers-front sink defers state xs ys a

pub answers-back : (sink : SinkFacts) (defers : ℕ) (state : SinkState) (xs ys : List Entry)
    → Answers sink defers state (xs ++ ys) → Answers sink defers (state_after defers state xs) ys
answers-back sink defers state [] ys a = a
answers-back sink defers state (Asked bytes answer ∷ xs) ys a =
    answers-back sink defers (after_request defers state (read_request bytes)) xs ys a.1
answers-back sink defers state (Waited micros ∷ xs) ys a = answers-back sink defers state xs ys a

pub state_after-append : (defers : ℕ) (state : SinkState) (xs ys : List Entry)
    → state_after defers state (xs ++ ys) ≡ state_after defers (state_after defers state xs) ys
state_after-append defers state [] ys = refl
state_after-append defers state (Asked bytes answer ∷ xs) ys =
    state_after-append defers (after_request defers state (read_request bytes)) xs ys
state_after-append defers state (Waited micros ∷ xs) ys = state_after-append defers state xs ys

-- so many requests of one rhythm were deferred, and these are the registers
pub record Stands (defers place : ℕ) (registers : ℕ → ℕ) (state : SinkState) : Type 0 where
  pub turns : ℕ
  pub counted : state.requests ≡ turns * (defers + 1) + place
  pub holds : state.registers ≡ registers

-- a sink that was not asked yet stands at the start of a rhythm
pub new_stands : (defers : ℕ) → Stands defers 0 (λ address. 0) new_sink
new_stands defers = record { turns = 0; counted = omega arith; holds = refl }

deferred_at : (defers place : ℕ) (registers : ℕ → ℕ) (state : SinkState) → Stands defers place registers state
    → place ≤ defers → is_deferred defers state.requests ≡ nat_lt place defers
deferred_at defers place registers state s few =
    ap (λ n. nat_lt (n % (defers + 1)) defers) s.counted
    ∙ ap (λ n. nat_lt n defers) (mod-mul-add s.turns (defers + 1) place (omega arith))

-- a deferred request is answered 20, and only counted
pub deferred : (sink : SinkFacts) (defers place : ℕ) (registers : ℕ → ℕ) (state : SinkState) (request : Request)
    → Stands defers place registers state → place < defers
    → (sink_answer sink defers state (Ok request) ≡ Bytes (0x20 ∷ []))
    × Stands defers (place + 1) registers (after_request defers state (Ok request))
unfolding sink_answer after_request
deferred sink defers place registers state request s few =
    let test : is_deferred defers state.requests ≡ true =
    deferred_at defers place registers state s (omega arith) ∙ grind (arith, common_steps) in
    rw test (refl, record { turns = s.turns; counted = omega (arith, s.counted); holds = s.holds })

-- the last of a rhythm is answered 00 and what was asked for, and changes the registers
acknowledged : (sink : SinkFacts) (defers : ℕ) (registers : ℕ → ℕ) (state : SinkState) (request : Request)
    → Stands defers defers registers state → (sink_answer sink defers state (Ok request)
    ≡ Bytes (0x00 ∷ brought sink registers request))
    × Stands defers 0 (registers_after request registers) (after_request defers state (Ok request))
unfolding sink_answer after_request
acknowledged sink defers registers state request s =
    let test : is_deferred defers state.requests ≡ false =
    deferred_at defers defers registers state s (omega arith) ∙ grind (arith, common_steps) in
    rw test (
      ap (λ f. Bytes (0x00 ∷ brought sink f request)) s.holds,
      record {
        turns = s.turns + 1;
        counted = grind (arith, s.counted);
        holds =
            ap (registers_after request) s.holds;
      },
    )

-- an acknowledgement with what was asked for is no answer in vain
not_in_vain : (request : Request) (payload : List ℕ) → length payload ≡ answered_length request
    → IsInVain (heard_from request (Bytes (0x00 ∷ payload))) → ⊥
not_in_vain request payload e v =
    let test : (length payload == answered_length request) ≡ true = grind (arith, common_steps) in
    subst (λ (b : Bool). IsInVain (meaning (address_of request) (if b then Ack payload else Malformed))) test v

-- it ends the transaction
ends_ok : (request : Request) (payload : List ℕ) (asked : ℕ) (given : Result (List ℕ) AuxEnd)
    → length payload ≡ answered_length request
    → EndsAs (spent (address_of request)) asked (heard_from request (Bytes (0x00 ∷ payload))) given → given ≡ Ok payload
ends_ok request payload asked given e ends =
    let test : (length payload == answered_length request) ≡ true = grind (arith, common_steps) in
    subst (λ (b : Bool). EndsAs (spent (address_of request)) asked
    (meaning (address_of request) (if b then Ack payload else Malformed)) given) test ends

length-brought : (sink : SinkFacts) (registers : ℕ → ℕ) (request : Request)
    → length (brought sink registers request) ≡ answered_length request
length-brought sink registers (Read address count) = length-map-range_with_len _ address count
length-brought sink registers (Write address bytes) = refl

-- the bytes of a valid request are read as that request
pub request_read : (request : Request) → IsValid request → read_request (encode_request request) ≡ Ok request
request_read (Read address count) v =
    let some : 1 ≤ count = v.some in
    let few : count ≤ 16 = v.few in
    let within : address + count ≤ 2 ^ 20 = v.within in
    grind (arith, common_steps)
request_read (Write address bytes) v =
    let some : 1 ≤ length bytes = v.some in
    let few : length bytes ≤ 16 = v.few in
    let within : address + length bytes ≤ 2 ^ 20 = v.within in
    grind (arith, common_steps)

-- an ask that was answered by a sink that stands so: 20 within a rhythm, at its end 00 and what was asked for
data HeardInRhythm (sink : SinkFacts) (defers place : ℕ) (registers : ℕ → ℕ) (state : SinkState) (request : Request)
    (answer : Answer) : Type 0 where
  in_rhythm : place < defers → answer ≡ Bytes (0x20 ∷ [])
      → Stands defers (place + 1) registers (after_request defers state (Ok request))
      → HeardInRhythm sink defers place registers state request answer
  at_its_end : answer ≡ Bytes (0x00 ∷ brought sink registers request)
      → Stands defers 0 (registers_after request registers) (after_request defers state (Ok request))
      → HeardInRhythm sink defers place registers state request answer

hears : (sink : SinkFacts) (defers place : ℕ) (registers : ℕ → ℕ) (state : SinkState) (request : Request)
    (answer : Answer) → Stands defers place registers state → place ≤ defers
    → answer ≡ sink_answer sink defers state (Ok request) → HeardInRhythm sink defers place registers state request answer
hears sink defers place registers state request answer s within e =
    elim (cases_eq place defers) [
      | inl same ↦
          let here = acknowledged sink defers registers state request
          (subst (λ (n : ℕ). Stands defers n registers state) same s) in
          at_its_end (e ∙ here.0) here.1
      | inr other ↦
          let few : place < defers = omega arith in
          let here = deferred sink defers place registers state request s few in
          in_rhythm few (e ∙ here.0) here.1
    ]

-- what a transaction that was acknowledged gives, and where it leaves the sink
abbrev Acknowledged : SinkFacts → ℕ → (ℕ → ℕ) → Request → Result (List ℕ) AuxEnd → SinkState → Type 0
Acknowledged sink defers registers request given now =
    (given ≡ Ok (brought sink registers request)) × Stands defers 0 (registers_after request registers) now

last_ask : (sink : SinkFacts) (defers place asked : ℕ) (registers : ℕ → ℕ) (state : SinkState) (request : Request)
    (last : Answer) (given : Result (List ℕ) AuxEnd) → defers ≤ 7 → asked ≡ place + 1
    → EndsAs (spent (address_of request)) asked (heard_from request last) given
    → HeardInRhythm sink defers place registers state request last
    → Acknowledged sink defers registers request given (after_request defers state (Ok request))
last_ask sink defers place asked registers state request last given few counted ends (in_rhythm room e s) =
    let early : (asked ≡ 8) × (given ≡ Err (Spent (address_of request) Defer)) =
    subst (λ (a : Answer). EndsAs (spent (address_of request)) asked (heard_from request a) given) e ends in
    let eight : asked ≡ 8 = early.0 in
    absurd (omega arith)
last_ask sink defers place asked registers state request last given few counted ends (at_its_end e s) = (
  ends_ok request _ asked given (length-brought sink registers request)
      (subst (λ (a : Answer). EndsAs (spent (address_of request)) asked (heard_from request a) given) e ends),
  s,
)

more_asks : (sink : SinkFacts) (defers : ℕ) (registers : ℕ → ℕ) (request : Request) (last : Answer)
    (given : Result (List ℕ) AuxEnd) → defers ≤ 7 → (tried : List Answer) (place : ℕ) (state : SinkState) (x : Answer)
    → ((next : SinkState) → Stands defers (place + 1) registers next → place + 1 ≤ defers
    → Answers sink defers next (asked_with (encode_request request) (tried ++ last ∷ []))
    → Acknowledged sink defers registers request given
    (state_after defers next (asked_with (encode_request request) (tried ++ last ∷ [])))) → IsInVain (heard_from request x)
    → Answers sink defers (after_request defers state (Ok request)) (asked_with (encode_request request) (tried ++ last ∷ []))
    → HeardInRhythm sink defers place registers state request x
    → Acknowledged sink defers registers request given
    (state_after defers (after_request defers state (Ok request)) (asked_with (encode_request request) (tried ++ last ∷ [])))
more_asks sink defers registers request last given few tried place state x rest v answers (in_rhythm room e s) =
    rest (after_request defers state (Ok request)) s (omega arith) answers
more_asks sink defers registers request last given few tried place state x rest v answers (at_its_end e s) =
    absurd (not_in_vain request _ (length-brought sink registers request)
    (subst (λ (a : Answer). IsInVain (heard_from request a)) e v))

-- A transaction of a sink that defers at most seven times: it is acknowledged, at the end of the rhythm.
pub transacts : (sink : SinkFacts) (defers : ℕ) (registers : ℕ → ℕ) (request : Request) (last : Answer)
    (given : Result (List ℕ) AuxEnd) → defers ≤ 7 → read_request (encode_request request) ≡ Ok request
    → (tried : List Answer) (place : ℕ) (state : SinkState) → Stands defers place registers state → place ≤ defers
    → AllByRecursion (λ answer. IsInVain (heard_from request answer)) tried
    → EndsAs (spent (address_of request)) (place + length tried + 1) (heard_from request last) given
    → Answers sink defers state (asked_with (encode_request request) (tried ++ last ∷ []))
    → Acknowledged sink defers registers request given
    (state_after defers state (asked_with (encode_request request) (tried ++ last ∷ [])))
transacts sink defers registers request last given few reads [] place state s within vain ends answers =
    let heard = hears sink defers place registers state request last s within
    (answers.0 ∙ ap (sink_answer sink defers state) reads) in
    subst (λ (r : Result Request AuxBad). Acknowledged sink defers registers request given
    (after_request defers state r)) (sym reads)
    (last_ask sink defers place _ registers state request last given few (omega arith) ends heard)
transacts sink defers registers request last given few reads (x ∷ xs) place state s within vain ends answers =
    let heard = hears sink defers place registers state request x s within
    (answers.0 ∙ ap (sink_answer sink defers state) reads) in
    let counted : place + length (x ∷ xs) + 1 ≡ place + 1 + length xs + 1 = omega arith in
    let later = subst (λ (n : ℕ). EndsAs (spent (address_of request)) n (heard_from request last) given) counted ends in
    let behind = subst (λ (r : Result Request AuxBad). Answers sink defers (after_request defers state r)
    (asked_with (encode_request request) (xs ++ last ∷ []))) reads answers.1 in
    subst (λ (r : Result Request AuxBad). Acknowledged sink defers registers request given
    (state_after defers (after_request defers state r) (asked_with (encode_request request) (xs ++ last ∷ [])))) (sym reads)
    (more_asks sink defers registers request last given few xs place state x
    (λ next t room a. transacts sink defers registers request last given few reads xs
    (place + 1) next t room vain.1 later a) vain.0 behind heard)
