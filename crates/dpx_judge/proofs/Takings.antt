-- One entry, from where a training stands.
use Rattle.std.proofs.Common.{◌≡◌, ℕ, ◌+◌, ◌<◌, ◌≤◌, Bool, true, false, nat_lt, List, [], ◌∷◌, sym, ap, ◌∙◌}
use Rattle.std.proofs.Common.{subst, arith, eqb, Decides, Ok, Err}
use Rattle.std.proofs.lemmas.Bool.Decides.{Decides-eqb, nat_tests}
use Rattle.std.proofs.lemmas.Slice.Eq.{slice_eq-Decides}
use Rattle.std.specs.Cmp.Lexicographic.{pointwise}
use Rattle.dpx_base.specs.declared.aux_port.Answer.{Answer}
use Rattle.dpx_base.specs.declared.aux_port.Entry.{Entry}
use Rattle.dpx_base.specs.declared.aux_port.Entry.TheVariants.{Asked, Waited}
use Rattle.dpx_base.specs.declared.link.Link.{Link}
use Rattle.dpx_aux.specs.declared.asking.Heard.{Heard}
use Rattle.dpx_aux.specs.declared.asking.Heard.TheVariants.{End, InVain}
use Rattle.dpx_aux.specs.declared.asking.LastAnswer.{LastAnswer}
use Rattle.dpx_aux.specs.declared.request.Request.{Request}
use Rattle.dpx_aux.specs.declared.transaction.AuxEnd.{AuxEnd}
use Rattle.dpx_aux.specs.Asking.{asks_at_most}
use Rattle.dpx_aux.specs.Conversation.{Ends, ◌>>=◌}
use Rattle.dpx_aux.specs.Request.{address_of, encode_request}
use Rattle.dpx_aux.specs.Transaction.{heard_from, spent}
use Rattle.dpx_link.specs.Inner.{TrainingGives}
use Rattle.dpx_judge.specs.declared.awaited.Awaited.{Awaited}
use Rattle.dpx_judge.specs.declared.awaited.Awaited.TheVariants.{Ask, Wait}
use Rattle.dpx_judge.specs.declared.behind.Behind.{Behind}
use Rattle.dpx_judge.specs.declared.step.Step.{Step}
use Rattle.dpx_judge.specs.declared.taking.Taken.{Taken}
use Rattle.dpx_judge.specs.declared.taking.Taken.TheVariants.{Differs, More, Stop}
use Rattle.dpx_judge.specs.Machine.{IsSound, awaits, what_follows}
use Rattle.dpx_judge.specs.Remainder.{After, AsksAgain, Awaits, Heeds, Leaves, Left, LeftBehind, Rest, Same}
use Rattle.dpx_judge.proofs.Hearing.{AskedAgain, HeardOn, asked_on, asks_first, waited_on, waits_first}
use Rattle.dpx_judge.proofs.Same.{same, same_through}
use Rattle.dpx_judge.proofs.Steps.{follows_left, wait_next}

-- one part for another
pub leaves_through : (top : Link) {part other : TrainingGives → List Entry → Type 0} (taken : Taken) → Same part other
    → Leaves top other taken → Leaves top part taken
leaves_through top (More turn) s l = same_through s l
leaves_through top (Stop outcome) s l = same_through s l
leaves_through top Differs s l = λ given rest p. l given rest (s.to given rest p)

-- the wait that was due
wait_same : (awaited : Awaited) (in_vain micros : ℕ) (f : List ℕ → TrainingGives → List Entry → Type 0)
    → awaited ≡ Wait micros
    → Same (λ given rest. (Awaits awaited in_vain >>= f) given (Waited micros ∷ rest)) (f [])
wait_same awaited in_vain micros f e =
    subst (λ (a : Awaited). Same (λ given rest. (Awaits a in_vain >>= f) given (Waited micros ∷ rest)) (f [])) (sym e)
    (same_through (record {
      to = λ given rest t. (wait_next micros f).to given (Waited micros ∷ rest) t;
      from = λ given rest t. (wait_next micros f).from given (Waited micros ∷ rest) t;
    }) (waited_on (λ waited. f []) micros))

pub waited_left : (top : Link) (step : Step) (in_vain micros : ℕ) → awaits step ≡ Wait micros → IsSound step
    → Same (Left top step in_vain (Waited micros)) (LeftBehind top (what_follows top step []))
waited_left top step in_vain micros e sound =
    same_through (wait_same (awaits step) in_vain micros (After top step) e) (follows_left top step [] sound)

-- an entry that is no such wait
pub not_waited : (top : Link) (step : Step) (in_vain micros : ℕ) (entry : Entry) → awaits step ≡ Wait micros
    → (entry ≡ Waited micros → ⊥) → (given : TrainingGives) (rest : List Entry) → Left top step in_vain entry given rest
    → ⊥
not_waited top step in_vain micros entry e other given rest t =
    let t' = subst (λ (a : Awaited). (Awaits a in_vain >>= After top step) given (entry ∷ rest)) e t in
    let first = waits_first given (entry ∷ rest) ((wait_next micros (After top step)).to given (entry ∷ rest) t') in
    let whole = first.1 in
    other (cc)

-- what was heard, in the words of the step
again_same : (top : Link) (step : Step) (in_vain : ℕ) (request : Request) (why : AuxEnd) (again : Bool)
    → awaits step ≡ Ask request
    → Same (AskedAgain (encode_request request) (heard_from request) (spent (address_of request)) in_vain
    (After top step) why again) (AsksAgain top step in_vain why again)
again_same top step in_vain request why true e =
    subst (λ (a : Awaited). Same (Awaits (Ask request) (in_vain + 1) >>= After top step)
    (Awaits a (in_vain + 1) >>= After top step)) (sym e) (same _)
again_same top step in_vain request why false e = same _

heeds_same : (top : Link) (step : Step) (in_vain : ℕ) (request : Request) (heard : Heard AuxEnd)
    → awaits step ≡ Ask request
    → Same (HeardOn (encode_request request) (heard_from request) (spent (address_of request)) in_vain
    (After top step) heard) (Heeds top step in_vain request heard)
heeds_same top step in_vain request (End (Ok bytes)) e = same _
heeds_same top step in_vain request (End (Err why)) e = same _
heeds_same top step in_vain request (InVain last) e = again_same top step in_vain request _ _ e

-- the ask that was due
ask_same : (awaited : Awaited) (in_vain : ℕ) (request : Request) (answer : Answer)
    (f : List ℕ → TrainingGives → List Entry → Type 0) → awaited ≡ Ask request → in_vain < asks_at_most
    → Same (λ given rest. (Awaits awaited in_vain >>= f) given (Asked (encode_request request) answer ∷ rest))
    (HeardOn (encode_request request) (heard_from request) (spent (address_of request)) in_vain f
    (heard_from request answer))
ask_same awaited in_vain request answer f e few =
    subst (λ (a : Awaited). Same (λ given rest. (Awaits a in_vain >>= f) given
    (Asked (encode_request request) answer ∷ rest))
    (HeardOn (encode_request request) (heard_from request) (spent (address_of request)) in_vain f
    (heard_from request answer))) (sym e) (asked_on _ _ _ in_vain f answer few)

pub asked_left : (top : Link) (step : Step) (in_vain : ℕ) (request : Request) (answer : Answer)
    → awaits step ≡ Ask request → in_vain < asks_at_most
    → Same (Left top step in_vain (Asked (encode_request request) answer))
    (Heeds top step in_vain request (heard_from request answer))
asked_left top step in_vain request answer e few =
    same_through (ask_same (awaits step) in_vain request answer (After top step) e few)
    (heeds_same top step in_vain request (heard_from request answer) e)

-- an entry that is no such ask
pub not_asked : (top : Link) (step : Step) (in_vain : ℕ) (request : Request) (entry : Entry)
    → awaits step ≡ Ask request → ((answer : Answer) → entry ≡ Asked (encode_request request) answer → ⊥)
    → (given : TrainingGives) (rest : List Entry) → Left top step in_vain entry given rest → ⊥
not_asked top step in_vain request entry e other given rest t =
    let t' = subst (λ (a : Awaited). (Awaits a in_vain >>= After top step) given (entry ∷ rest)) e t in
    let first = asks_first given (entry ∷ rest) t' in
    let whole = first.2 in
    other first.0 (cc)

-- a wait was taken
pub took_wait : (top : Link) (step : Step) (in_vain micros : ℕ) (entry : Entry) (behind : Behind) (taken : Taken)
    → awaits step ≡ Wait micros → IsSound step → entry ≡ Waited micros → behind ≡ what_follows top step []
    → Leaves top (LeftBehind top behind) taken → Leaves top (Left top step in_vain entry) taken
took_wait top step in_vain micros entry behind taken e sound is follows l =
    subst (λ (x : Entry). Leaves top (Left top step in_vain x) taken) (sym is)
    (leaves_through top taken (waited_left top step in_vain micros e sound)
    (subst (λ (b : Behind). Leaves top (LeftBehind top b) taken) follows l))

-- what a test of two lists of bytes says of what they are
pub compares : (left right bytes encoded wanted : List ℕ) (r : Bool) → r ≡ pointwise eqb left right → left ≡ bytes
    → right ≡ encoded → encoded ≡ wanted → Decides r (bytes ≡ wanted)
compares left right bytes encoded wanted r test l e w =
    let both = slice_eq-Decides Decides-eqb left right r test in
    (λ t. sym l ∙ both.0 t ∙ e ∙ w, λ same. both.1 (l ∙ same ∙ sym w ∙ sym e))

pub asked_bytes : {entry : Entry} {bytes other : List ℕ} {answer wrong : Answer} → entry ≡ Asked bytes answer
    → entry ≡ Asked other wrong → bytes ≡ other
asked_bytes is e = cc

-- an ask was taken
pub took_ask : (top : Link) (step : Step) (in_vain : ℕ) (request : Request) (entry : Entry) (bytes : List ℕ)
    (answer : Answer) (heard : Heard AuxEnd) (taken : Taken) → awaits step ≡ Ask request → in_vain < asks_at_most
    → entry ≡ Asked bytes answer → bytes ≡ encode_request request → heard ≡ heard_from request answer
    → Leaves top (Heeds top step in_vain request heard) taken → Leaves top (Left top step in_vain entry) taken
took_ask top step in_vain request entry bytes answer heard taken e few is alike hears l =
    let whole : entry ≡ Asked (encode_request request) answer = cc in
    subst (λ (x : Entry). Leaves top (Left top step in_vain x) taken) (sym whole)
    (leaves_through top taken (asked_left top step in_vain request answer e few)
    (subst (λ (h : Heard AuxEnd). Leaves top (Heeds top step in_vain request h) taken) hears l))

-- what was heard: an acknowledgement
pub took_bytes : (top : Link) (step : Step) (in_vain : ℕ) (request : Request) (heard : Heard AuxEnd)
    (bytes brought : List ℕ) (behind : Behind) (taken : Taken) → IsSound step → heard ≡ End (Ok bytes)
    → brought ≡ bytes → behind ≡ what_follows top step brought
    → Leaves top (LeftBehind top behind) taken → Leaves top (Heeds top step in_vain request heard) taken
took_bytes top step in_vain request heard bytes brought behind taken sound is brings follows l =
    let same : behind ≡ what_follows top step bytes = follows ∙ ap (what_follows top step) brings in
    subst (λ (h : Heard AuxEnd). Leaves top (Heeds top step in_vain request h) taken) (sym is)
    (leaves_through top taken (follows_left top step bytes sound)
    (subst (λ (b : Behind). Leaves top (LeftBehind top b) taken) same l))

-- a refusal
pub took_refusal : (top : Link) (step : Step) (in_vain : ℕ) (request : Request) (heard : Heard AuxEnd) (why : AuxEnd)
    → heard ≡ End (Err why) → Same (Heeds top step in_vain request heard) (Ends (Err why))
took_refusal top step in_vain request heard why is =
    subst (λ (h : Heard AuxEnd). Same (Heeds top step in_vain request h) (Ends (Err why))) (sym is) (same _)

-- an answer in vain, with another ask left
pub took_again : (top : Link) (step : Step) (in_vain : ℕ) (request : Request) (heard : Heard AuxEnd) (last : LastAnswer)
    → heard ≡ InVain last → in_vain + 1 < asks_at_most
    → Same (Heeds top step in_vain request heard) (Rest top step (in_vain + 1))
took_again top step in_vain request heard last is few =
    let again : true ≡ nat_lt (in_vain + 1) asks_at_most = grind (arith, nat_tests) in
    subst (λ (h : Heard AuxEnd). Same (Heeds top step in_vain request h) (Rest top step (in_vain + 1))) (sym is)
    (subst (λ (b : Bool). Same (AsksAgain top step in_vain (spent (address_of request) last) b)
    (Rest top step (in_vain + 1))) again (same _))

-- and as the last one
pub took_last : (top : Link) (step : Step) (in_vain : ℕ) (request : Request) (heard : Heard AuxEnd) (last : LastAnswer)
    (why : AuxEnd) → heard ≡ InVain last → asks_at_most ≤ in_vain + 1 → why ≡ spent (address_of request) last
    → Same (Heeds top step in_vain request heard) (Ends (Err why))
took_last top step in_vain request heard last why is many e =
    let again : false ≡ nat_lt (in_vain + 1) asks_at_most = grind (arith, nat_tests) in
    subst (λ (h : Heard AuxEnd). Same (Heeds top step in_vain request h) (Ends (Err why))) (sym is)
    (subst (λ (b : Bool). Same (AsksAgain top step in_vain (spent (address_of request) last) b) (Ends (Err why))) again
    (subst (λ (w : AuxEnd). Same (Ends {R = TrainingGives} (Err w)) (Ends (Err why))) e (same _)))
