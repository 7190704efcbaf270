-- What is left of a part that begins with a wait or a request, behind one entry.
use Rattle.std.proofs.Common.{◌≡◌, ℕ, ◌+◌, ◌<◌, Bool, true, false, nat_lt, List, [], ◌∷◌, ◌++◌, length, refl, sym, ap, ◌∙◌}
use Rattle.std.proofs.Common.{subst, arith, Result, Ok, Err, MatchResult}
use Rattle.std.proofs.lemmas.Bool.Decides.{nat_tests}
use Rattle.std.specs.Prelude.{⊤}
use Rattle.std.specs.List.{AllByRecursion}
use Rattle.dpx_base.specs.declared.aux_port.Answer.{Answer}
use Rattle.dpx_base.specs.declared.aux_port.Entry.{Entry}
use Rattle.dpx_base.specs.declared.aux_port.Entry.TheVariants.{Asked, Waited}
use Rattle.dpx_aux.specs.declared.asking.Heard.{Heard}
use Rattle.dpx_aux.specs.declared.asking.Heard.TheVariants.{End, InVain}
use Rattle.dpx_aux.specs.declared.asking.LastAnswer.{LastAnswer}
use Rattle.dpx_aux.specs.Asking.{AsksInTurn, IsInVain, EndsAs, asked_with, asks_at_most}
use Rattle.dpx_aux.specs.Conversation.{Ends, Waits, ◌>>=◌}
use Rattle.dpx_judge.specs.Remainder.{Same, AsksOn}

-- a request that was not asked yet
pub asks_anew : {E : Type 0} (bytes : List ℕ) (heard_from : Answer → Heard E) (spent : LastAnswer → E)
    → Same (AsksInTurn bytes heard_from spent) (AsksOn bytes heard_from spent 0)
asks_anew bytes heard_from spent = record {
  to = λ given history a. record {
    tried = a.tried;
    last = a.last;
    few = omega (arith, a.few);
    in_vain = a.in_vain;
    asked = a.asked;
    ends = subst (λ (n : ℕ). EndsAs spent n (heard_from a.last) given) (omega arith) a.ends;
  };
  from = λ given history a. record {
    tried = a.tried;
    last = a.last;
    few = omega (arith, a.few);
    in_vain = a.in_vain;
    asked = a.asked;
    ends = subst (λ (n : ℕ). EndsAs spent n (heard_from a.last) given) (omega arith) a.ends;
  };
}

-- behind an ask in vain, by whether another one is left
abbrev pub AskedAgain : {E B : Type 0} → List ℕ → (Answer → Heard E) → (LastAnswer → E) → ℕ
    → (List ℕ → Result B E → List Entry → Type 0) → E → Bool → Result B E → List Entry → Type 0
AskedAgain bytes heard_from spent before next why true = AsksOn bytes heard_from spent (before + 1) >>= next
AskedAgain bytes heard_from spent before next why false = Ends (Err why)

-- behind what was heard
abbrev pub HeardOn : {E B : Type 0} → List ℕ → (Answer → Heard E) → (LastAnswer → E) → ℕ
    → (List ℕ → Result B E → List Entry → Type 0) → Heard E → Result B E → List Entry → Type 0
HeardOn bytes heard_from spent before next (End (Ok brought)) = next brought
HeardOn bytes heard_from spent before next (End (Err why)) = Ends (Err why)
HeardOn bytes heard_from spent before next (InVain last) =
    AskedAgain bytes heard_from spent before next (spent last) (nat_lt (before + 1) asks_at_most)

-- what follows a part that gave this
abbrev GoesOn : {B E : Type 0} → (List ℕ → Result B E → List Entry → Type 0) → Result (List ℕ) E → Result B E
    → List Entry → Type 0
GoesOn next middle given back =
    MatchResult middle (λ value. next value given back) (λ error. (given ≡ Err error) × (back ≡ []))

not_again : (n : ℕ) → n ≡ asks_at_most → nat_lt n asks_at_most ≡ false
not_again n e = ap (λ m. nat_lt m asks_at_most) e

-- the answer is the last one
heard_last : {E B : Type 0} (bytes : List ℕ) (heard_from : Answer → Heard E) (spent : LastAnswer → E) (before : ℕ)
    (next : List ℕ → Result B E → List Entry → Type 0) (heard : Heard E) (middle : Result (List ℕ) E)
    (given : Result B E) (back : List Entry) → EndsAs spent (before + 1) heard middle → GoesOn next middle given back
    → HeardOn bytes heard_from spent before next heard given back
heard_last bytes heard_from spent before next (End (Ok brought)) middle given back ends on =
    subst (λ (m : Result (List ℕ) _). GoesOn next m given back) ends on
heard_last bytes heard_from spent before next (End (Err why)) middle given back ends on =
    let on' = subst (λ (m : Result (List ℕ) _). GoesOn next m given back) ends on in
    record { same = on'.0; nothing = on'.1 }
heard_last bytes heard_from spent before next (InVain last) middle given back ends on =
    let on' = subst (λ (m : Result (List ℕ) _). GoesOn next m given back) ends.1 on in
    subst (λ (b : Bool). AskedAgain bytes heard_from spent before next (spent last) b given back)
    (sym (not_again (before + 1) ends.0)) (record { same = on'.0; nothing = on'.1 })

-- more answers follow
heard_more : {E B : Type 0} (bytes : List ℕ) (heard_from : Answer → Heard E) (spent : LastAnswer → E) (before : ℕ)
    (next : List ℕ → Result B E → List Entry → Type 0) (heard : Heard E) (given : Result B E) (rest : List Entry)
    → IsInVain heard → before + 1 < asks_at_most → (AsksOn bytes heard_from spent (before + 1) >>= next) given rest
    → HeardOn bytes heard_from spent before next heard given rest
heard_more bytes heard_from spent before next (End end) given rest v few t = absurd v
heard_more bytes heard_from spent before next (InVain last) given rest v few t =
    let again : nat_lt (before + 1) asks_at_most ≡ true = grind (arith, nat_tests) in
    subst (λ (b : Bool). AskedAgain bytes heard_from spent before next (spent last) b given rest) (sym again) t

-- the ask in front, by the answers behind it
heard_to : {E B : Type 0} (bytes : List ℕ) (heard_from : Answer → Heard E) (spent : LastAnswer → E) (before : ℕ)
    (next : List ℕ → Result B E → List Entry → Type 0) (answer last : Answer) (tried : List Answer)
    (middle : Result (List ℕ) E) (given : Result B E) (rest front back : List Entry)
    → Asked bytes answer ∷ rest ≡ front ++ back → front ≡ asked_with bytes (tried ++ last ∷ [])
    → before + length tried < asks_at_most → AllByRecursion (λ answer. IsInVain (heard_from answer)) tried
    → EndsAs spent (before + length tried + 1) (heard_from last) middle → GoesOn next middle given back
    → HeardOn bytes heard_from spent before next (heard_from answer) given rest
heard_to bytes heard_from spent before next answer last [] middle given rest front back joined asked few v ends on =
    let whole : Asked bytes answer ∷ rest ≡ Asked bytes last ∷ back = joined ∙ ap (λ xs. xs ++ back) asked in
    let a : last ≡ answer = cc in
    let r : back ≡ rest = cc in
    subst (λ (xs : List Entry). HeardOn bytes heard_from spent before next (heard_from answer) given xs) r
    (subst (λ (x : Answer). HeardOn bytes heard_from spent before next (heard_from x) given back) a
    (heard_last bytes heard_from spent before next (heard_from last) middle given back
    (subst (λ (n : ℕ). EndsAs spent n (heard_from last) middle) (omega arith) ends) on))
heard_to bytes heard_from spent before next answer last (x ∷ xs) middle given rest front back joined asked few v ends on
    =
    let whole : Asked bytes answer ∷ rest ≡ Asked bytes x ∷ (asked_with bytes (xs ++ last ∷ []) ++ back) =
    joined ∙ ap (λ es. es ++ back) asked in
    let a : x ≡ answer = cc in
    let r : rest ≡ asked_with bytes (xs ++ last ∷ []) ++ back = cc in
    heard_more bytes heard_from spent before next (heard_from answer) given rest
    (subst (λ (y : Answer). IsInVain (heard_from y)) a v.0) (omega arith) (record {
      middle = middle;
      front = asked_with bytes (xs ++ last ∷ []);
      back = back;
      joined = r;
      begins = record {
        tried = xs;
        last = last;
        few = omega arith;
        in_vain = v.1;
        asked = refl;
        ends = subst (λ (n : ℕ). EndsAs spent n (heard_from last) middle) (omega arith) ends;
      };
      goes_on = on;
    })

-- an ask with nothing of its transaction behind it
last_ask : {E B : Type 0} (bytes : List ℕ) (heard_from : Answer → Heard E) (spent : LastAnswer → E) (before : ℕ)
    (next : List ℕ → Result B E → List Entry → Type 0) (answer : Answer) (middle : Result (List ℕ) E)
    (given : Result B E) (rest : List Entry) → before < asks_at_most
    → EndsAs spent (before + 1) (heard_from answer) middle → GoesOn next middle given rest
    → (AsksOn bytes heard_from spent before >>= next) given (Asked bytes answer ∷ rest)
last_ask bytes heard_from spent before next answer middle given rest few ends on = record {
  middle = middle;
  front = Asked bytes answer ∷ [];
  back = rest;
  joined = refl;
  begins = record {
    tried = [];
    last = answer;
    few = omega arith;
    in_vain = tt;
    asked = refl;
    ends = subst (λ (n : ℕ). EndsAs spent n (heard_from answer) middle) (omega arith) ends;
  };
  goes_on = on;
}

-- an ask in vain, and more behind it
more_asks : {E B : Type 0} (bytes : List ℕ) (heard_from : Answer → Heard E) (spent : LastAnswer → E) (before : ℕ)
    (next : List ℕ → Result B E → List Entry → Type 0) (answer : Answer) (given : Result B E) (rest : List Entry)
    → IsInVain (heard_from answer) → (AsksOn bytes heard_from spent (before + 1) >>= next) given rest
    → (AsksOn bytes heard_from spent before >>= next) given (Asked bytes answer ∷ rest)
more_asks bytes heard_from spent before next answer given rest v t =
    let a = t.begins in
    record {
      middle = t.middle;
      front = Asked bytes answer ∷ t.front;
      back = t.back;
      joined = ap (λ es. Asked bytes answer ∷ es) t.joined;
      begins = record {
        tried = answer ∷ a.tried;
        last = a.last;
        few = omega (arith, a.few);
        in_vain = (v, a.in_vain);
        asked = ap (λ es. Asked bytes answer ∷ es) a.asked;
        ends = subst (λ (n : ℕ). EndsAs spent n (heard_from a.last) t.middle) (omega arith) a.ends;
      };
      goes_on = t.goes_on;
    }

asked_again : {E B : Type 0} (bytes : List ℕ) (heard_from : Answer → Heard E) (spent : LastAnswer → E) (before : ℕ)
    (next : List ℕ → Result B E → List Entry → Type 0) (answer : Answer) (last : LastAnswer) (given : Result B E)
    (rest : List Entry) (again : Bool) → before < asks_at_most → InVain last ≡ heard_from answer
    → nat_lt (before + 1) asks_at_most ≡ again
    → AskedAgain bytes heard_from spent before next (spent last) again given rest
    → (AsksOn bytes heard_from spent before >>= next) given (Asked bytes answer ∷ rest)
asked_again bytes heard_from spent before next answer last given rest true few e test h =
    more_asks bytes heard_from spent before next answer given rest (subst IsInVain e tt) h
asked_again bytes heard_from spent before next answer last given rest false few e test h =
    let all : before + 1 ≡ asks_at_most = grind (arith, nat_tests) in
    last_ask bytes heard_from spent before next answer (Err (spent last)) given rest few
    (subst (λ (h : Heard _). EndsAs spent (before + 1) h (Err (spent last))) e (all, refl)) (h.same, h.nothing)

heard_back : {E B : Type 0} (bytes : List ℕ) (heard_from : Answer → Heard E) (spent : LastAnswer → E) (before : ℕ)
    (next : List ℕ → Result B E → List Entry → Type 0) (answer : Answer) (heard : Heard E) (given : Result B E)
    (rest : List Entry) → before < asks_at_most → heard ≡ heard_from answer
    → HeardOn bytes heard_from spent before next heard given rest
    → (AsksOn bytes heard_from spent before >>= next) given (Asked bytes answer ∷ rest)
heard_back bytes heard_from spent before next answer (End (Ok brought)) given rest few e h =
    last_ask bytes heard_from spent before next answer (Ok brought) given rest few
    (subst (λ (x : Heard _). EndsAs spent (before + 1) x (Ok brought)) e refl) h
heard_back bytes heard_from spent before next answer (End (Err why)) given rest few e h =
    last_ask bytes heard_from spent before next answer (Err why) given rest few
    (subst (λ (x : Heard _). EndsAs spent (before + 1) x (Err why)) e refl) (h.same, h.nothing)
heard_back bytes heard_from spent before next answer (InVain last) given rest few e h =
    asked_again bytes heard_from spent before next answer last given rest _ few e refl h

-- behind an ask of the bytes
pub asked_on : {E B : Type 0} (bytes : List ℕ) (heard_from : Answer → Heard E) (spent : LastAnswer → E) (before : ℕ)
    (next : List ℕ → Result B E → List Entry → Type 0) (answer : Answer) → before < asks_at_most
    → Same (λ given rest. (AsksOn bytes heard_from spent before >>= next) given (Asked bytes answer ∷ rest))
    (HeardOn bytes heard_from spent before next (heard_from answer))
asked_on bytes heard_from spent before next answer few = record {
  to = λ given rest t.
      let a = t.begins in
      heard_to bytes heard_from spent before next answer a.last a.tried t.middle given rest t.front t.back t.joined
      a.asked a.few a.in_vain a.ends t.goes_on;
  from = λ given rest h.
      heard_back bytes heard_from spent before next answer (heard_from answer) given rest few refl h;
}

-- what a transaction begins with
first_ask : (bytes : List ℕ) (tried : List Answer) (last : Answer) (front back whole : List Entry) → whole ≡ front ++ back
    → front ≡ asked_with bytes (tried ++ last ∷ [])
    → (answer : Answer) × (rest : List Entry) × (whole ≡ Asked bytes answer ∷ rest)
first_ask bytes [] last front back whole joined asked = (last, back, joined ∙ ap (λ es. es ++ back) asked)
first_ask bytes (x ∷ xs) last front back whole joined asked =
    (x, asked_with bytes (xs ++ last ∷ []) ++ back, joined ∙ ap (λ es. es ++ back) asked)

pub asks_first : {E B : Type 0} {bytes : List ℕ} {heard_from : Answer → Heard E} {spent : LastAnswer → E} {before : ℕ}
    {next : List ℕ → Result B E → List Entry → Type 0} (given : Result B E) (history : List Entry)
    → (AsksOn bytes heard_from spent before >>= next) given history
    → (answer : Answer) × (rest : List Entry) × (history ≡ Asked bytes answer ∷ rest)
asks_first {bytes = bytes} given history t =
    first_ask bytes t.begins.tried t.begins.last t.front t.back history t.joined t.begins.asked

-- behind a wait
wait_to : {E B : Type 0} (next : ⊤ → Result B E → List Entry → Type 0) (micros other : ℕ) (middle : Result ⊤ E)
    (given : Result B E) (rest front back : List Entry) → Waited other ∷ rest ≡ front ++ back → middle ≡ Ok tt
    → front ≡ Waited micros ∷ []
    → MatchResult middle (λ value. next value given back) (λ error. (given ≡ Err error) × (back ≡ []))
    → next tt given rest
wait_to next micros other (Ok value) given rest front back joined ok waited on =
    let whole : Waited other ∷ rest ≡ Waited micros ∷ back = joined ∙ ap (λ es. es ++ back) waited in
    let r : back ≡ rest = cc in
    subst (λ (es : List Entry). next tt given es) r on
wait_to next micros other (Err error) given rest front back joined ok waited on = absurd (cc)

pub waited_on : {E B : Type 0} (next : ⊤ → Result B E → List Entry → Type 0) (micros : ℕ)
    → Same (λ given rest. (Waits {E = E} micros >>= next) given (Waited micros ∷ rest)) (next tt)
waited_on next micros = record {
  to = λ given rest t.
      wait_to next micros micros t.middle given rest t.front t.back t.joined t.begins.done t.begins.waited t.goes_on;
  from = λ given rest n. record {
    middle = Ok tt;
    front = Waited micros ∷ [];
    back = rest;
    joined = refl;
    begins = record { done = refl; waited = refl };
    goes_on = n;
  };
}

pub waits_first : {E B : Type 0} {next : ⊤ → Result B E → List Entry → Type 0} {micros : ℕ} (given : Result B E)
    (history : List Entry) → (Waits {E = E} micros >>= next) given history
    → (rest : List Entry) × (history ≡ Waited micros ∷ rest)
waits_first given history t = (t.back, t.joined ∙ ap (λ es. es ++ t.back) t.begins.waited)
