-- What the answers decide: of two histories of a part whose answers begin alike, entries and results are the same.
use Rattle.std.proofs.lemmas.List.{append_cancel_left}
use Rattle.std.proofs.Common.{◌≡◌, ℕ, ◌+◌, ◌<◌, Bool, true, false, List, [], ◌∷◌, ◌++◌, length, refl, sym, ap, ◌∙◌}
use Rattle.std.proofs.Common.{subst, arith, append_assoc, Result, Ok, Err, MatchResult}
use Rattle.std.specs.List.{AllByRecursion}
use Rattle.dpx_base.specs.declared.aux_port.Answer.{Answer}
use Rattle.dpx_base.specs.declared.aux_port.Entry.{Entry}
use Rattle.dpx_base.specs.Port.{answers_in}
use Rattle.dpx_base.proofs.Port.{answers_in-append}
use Rattle.dpx_aux.specs.declared.asking.Heard.{Heard}
use Rattle.dpx_aux.specs.declared.asking.Heard.TheVariants.{End, InVain}
use Rattle.dpx_aux.specs.declared.asking.LastAnswer.{LastAnswer}
use Rattle.dpx_aux.specs.Asking.{AsksInTurn, IsInVain, EndsAs, asks_at_most, asked_with}
use Rattle.dpx_aux.proofs.Asked.{answers_in-asked_with}
use Rattle.dpx_aux.specs.Conversation.{Ends, Waits, ◌>>=◌, Choice, Never, IsDecided}

pub ends_decided : {R : Type 0} (value : R) → IsDecided (Ends value)
ends_decided value r s xs ys later after a b e = (a.nothing ∙ sym b.nothing, a.same ∙ sym b.same)

pub waits_decided : {E : Type 0} (micros : ℕ) → IsDecided (Waits {E = E} micros)
waits_decided micros r s xs ys later after a b e = (a.waited ∙ sym b.waited, a.done ∙ sym b.done)

pub choice_decided : {R : Type 0} {yes no : R → List Entry → Type 0} (test : Bool) → IsDecided yes → IsDecided no
    → IsDecided (Choice test yes no)
choice_decided true y n r s xs ys later after a b e = y r s xs ys later after (a.if_true refl) (b.if_true refl) e
choice_decided false y n r s xs ys later after a b e = n r s xs ys later after (a.if_false refl) (b.if_false refl) e

pub never_decided : {R : Type 0} → IsDecided (Never {R = R})
never_decided r s xs ys later after a b e = absurd a.never

-- what follows a part that gave the same
next_same : {A B E : Type 0} (next : A → Result B E → List Entry → Type 0) → ((value : A) → IsDecided (next value))
    → (middle : Result A E) (r s : Result B E) (xs ys : List Entry) (later after : List Answer)
    → MatchResult middle (λ value. next value r xs) (λ error. (r ≡ Err error) × (xs ≡ []))
    → MatchResult middle (λ value. next value s ys) (λ error. (s ≡ Err error) × (ys ≡ []))
    → answers_in xs ++ later ≡ answers_in ys ++ after → (xs ≡ ys) × (r ≡ s)
next_same next d (Ok value) r s xs ys later after a b e = d value r s xs ys later after a b e
next_same next d (Err error) r s xs ys later after a b e = (a.1 ∙ sym b.1, a.0 ∙ sym b.0)

-- the answers of two histories, one behind the other
pub answers_regrouped : (xs front back : List Entry) (later : List Answer) → xs ≡ front ++ back
    → answers_in xs ++ later ≡ answers_in front ++ (answers_in back ++ later)
answers_regrouped xs front back later e =
    ap (λ zs. answers_in zs ++ later) e ∙ (ap (λ zs. zs ++ later) (answers_in-append front back)
    ∙ append_assoc (answers_in front) (answers_in back) later)

pub then_decided : {A B E : Type 0} {first : Result A E → List Entry → Type 0} {next : A → Result B E → List Entry
    → Type 0} → IsDecided first → ((value : A) → IsDecided (next value)) → IsDecided (first >>= next)
then_decided {next = next} f d r s xs ys later after a b e =
    let grouped = sym (answers_regrouped xs a.front a.back later a.joined)
    ∙ (e ∙ answers_regrouped ys b.front b.back after b.joined) in
    let same = f a.middle b.middle a.front b.front (answers_in a.back ++ later)
    (answers_in b.back ++ after) a.begins b.begins grouped in
    let rest = append_cancel_left (answers_in a.front) (answers_in a.back ++ later) (answers_in b.back ++ after)
    (grouped ∙ ap (λ zs. answers_in zs ++ (answers_in b.back ++ after)) (sym same.0)) in
    let b' = subst (λ m. MatchResult m (λ value. next value s b.back) (λ error. (s ≡ Err error) × (b.back ≡ [])))
    (sym same.1) b.goes_on in
    let ends = next_same next d a.middle r s a.back b.back later after a.goes_on b' rest in
    (a.joined ∙ (ap (λ zs. zs ++ a.back) same.0 ∙ (ap (λ zs. b.front ++ zs) ends.0 ∙ sym b.joined)), ends.1)

EndsAs-same : {E : Type 0} (spent : LastAnswer → E) (asked : ℕ) (heard : Heard E) (r s : Result (List ℕ) E)
    → EndsAs spent asked heard r → EndsAs spent asked heard s → r ≡ s
EndsAs-same spent asked (End end) r s a b = a ∙ sym b
EndsAs-same spent asked (InVain last) r s a b = a.1 ∙ sym b.1

-- an answer in vain ends it only as the last one
EndsAs-last : {E : Type 0} (spent : LastAnswer → E) (asked : ℕ) (heard : Heard E) (r : Result (List ℕ) E)
    → IsInVain heard → EndsAs spent asked heard r → asked ≡ asks_at_most
EndsAs-last spent asked (End end) r v a = absurd v
EndsAs-last spent asked (InVain last) r v a = a.0

-- behind so many answers in vain, alike in both
same_asks : {E : Type 0} (heard_from : Answer → Heard E) (spent : LastAnswer → E) (before : ℕ) (xs ys : List Answer)
    (x y : Answer) (later after : List Answer) (r s : Result (List ℕ) E)
    → before + length xs < asks_at_most → before + length ys < asks_at_most
    → AllByRecursion (λ answer. IsInVain (heard_from answer)) xs
    → AllByRecursion (λ answer. IsInVain (heard_from answer)) ys
    → EndsAs spent (before + length xs + 1) (heard_from x) r
    → EndsAs spent (before + length ys + 1) (heard_from y) s
    → (xs ++ x ∷ []) ++ later ≡ (ys ++ y ∷ []) ++ after → (xs ++ x ∷ [] ≡ ys ++ y ∷ []) × (r ≡ s)
same_asks heard_from spent before [] [] x y later after r s m n v w a b e =
    let same : x ≡ y = cc in (
      ap (λ z. z ∷ []) same,
      EndsAs-same spent (before + 0 + 1) (heard_from x) r s a
          (subst (λ z. EndsAs spent (before + 0 + 1) (heard_from z) s) (sym same) b),
    )
same_asks heard_from spent before [] (z ∷ ys) x y later after r s m n v w a b e =
    let same : x ≡ z = cc in
    absurd (omega (
      arith,
      EndsAs-last spent (before + 0 + 1) (heard_from x) r
          (subst (λ t. IsInVain (heard_from t)) (sym same) w.0) a,
    ))
same_asks heard_from spent before (z ∷ xs) [] x y later after r s m n v w a b e =
    let same : z ≡ y = cc in
    absurd (omega (
      arith,
      EndsAs-last spent (before + 0 + 1) (heard_from y) s
          (subst (λ t. IsInVain (heard_from t)) same v.0) b,
    ))
same_asks heard_from spent before (u ∷ xs) (z ∷ ys) x y later after r s m n v w a b e =
    let same : u ≡ z = cc in
    let rest : (xs ++ x ∷ []) ++ later ≡ (ys ++ y ∷ []) ++ after = cc in
    let ends = same_asks heard_from spent (before + 1) xs ys x y later after r s (omega arith) (omega arith) v.1 w.1
    (subst (λ t. EndsAs spent t (heard_from x) r) (omega arith) a)
    (subst (λ t. EndsAs spent t (heard_from y) s) (omega arith) b) rest in
    (cc ends.0, ends.1)

pub asking_decided : {E : Type 0} (bytes : List ℕ) (heard_from : Answer → Heard E) (spent : LastAnswer → E)
    → IsDecided (AsksInTurn bytes heard_from spent)
asking_decided bytes heard_from spent r s xs ys later after a b e =
    let left : answers_in xs ≡ a.tried ++ a.last ∷ [] =
    ap answers_in a.asked ∙ answers_in-asked_with bytes (a.tried ++ a.last ∷ []) in
    let right : answers_in ys ≡ b.tried ++ b.last ∷ [] =
    ap answers_in b.asked ∙ answers_in-asked_with bytes (b.tried ++ b.last ∷ []) in
    let alike : (a.tried ++ a.last ∷ []) ++ later ≡ (b.tried ++ b.last ∷ []) ++ after =
    ap (λ zs. zs ++ later) (sym left) ∙ (e ∙ ap (λ zs. zs ++ after) right) in
    let same = same_asks heard_from spent 0 a.tried b.tried a.last b.last later after r s (omega (arith, a.few))
    (omega (arith, b.few)) a.in_vain b.in_vain
    (subst (λ n. EndsAs spent n (heard_from a.last) r) (omega arith) a.ends)
    (subst (λ n. EndsAs spent n (heard_from b.last) s) (omega arith) b.ends) alike in
    (a.asked ∙ (ap (λ answers. asked_with bytes answers) same.0 ∙ sym b.asked), same.1)
