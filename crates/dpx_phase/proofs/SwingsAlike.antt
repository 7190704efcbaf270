-- The count of drives in a row with equal swings, and the last five of them.
use Rattle.std.proofs.Common.{◌≡◌, ℕ, zero, suc, ◌+◌, ◌-◌, ◌<◌, ◌≤◌, Bool, true, false, ◌&&◌, nat_le, if◌then◌else◌}
use Rattle.std.proofs.Common.{List, ◌++◌, length, refl, sym, ap, ◌∙◌, arith, add-one}
use Rattle.std.proofs.lemmas.Bool.Decides.{nat_tests}
use Rattle.dpx_base.specs.declared.lanes.Lanes.{Lanes}
use Rattle.dpx_dpcd.specs.declared.status.Status6.{Status6}
use Rattle.dpx_phase.specs.Drives.{drive_after, same_swings}
use Rattle.dpx_phase.specs.Endings.{alike_after, five_alike}
use Rattle.dpx_phase.proofs.Statuses.{drive_after-append}

-- how many drives in a row, up to the one at this place, are alike, where a test says so of each and the next
pub run : (ℕ → Bool) → ℕ → ℕ
run alike zero = 1
run alike (suc i) = if alike i then run alike i + 1 else 1

pub run-zero : (alike : ℕ → Bool) → run alike 0 ≡ 1
unfolding run
run-zero alike = refl

pub run-more : (alike : ℕ → Bool) (i : ℕ) → run alike (i + 1) ≡ (if alike i then run alike i + 1 else 1)
unfolding run
run-more alike i = rw (add-one i) refl

pub run-some : (alike : ℕ → Bool) (i : ℕ) → 1 ≤ run alike i
unfolding run
run-some alike zero = omega arith
run-some alike (suc i) = elim (alike i) as (λ b. 1 ≤
    (if b then run alike i + 1 else 1)) [ true ↦ omega arith | false ↦ omega arith ]

pub run-few : (alike : ℕ → Bool) (i : ℕ) → run alike i ≤ i + 1
unfolding run
run-few alike zero = omega arith
run-few alike (suc i) =
    let e = run-few alike i in
    elim (alike i) as (λ b. (if b then run alike i + 1 else 1) ≤ suc i + 1) [ true ↦ omega arith | false ↦ omega arith ]

pub run-same : (s t : ℕ → Bool) (i : ℕ) → ((k : ℕ) → k < i → s k ≡ t k) → run s i ≡ run t i
unfolding run
run-same s t zero same = refl
run-same s t (suc i) same =
    ap (λ b. if b then run s i + 1 else 1) (same i (omega arith))
    ∙ ap (λ n. if t i then n + 1 else 1) (run-same s t i (λ k l. same k (omega arith)))

false_behind : (x : Bool) → false ≡ (x && false)
false_behind true = refl
false_behind false = refl

four_more : (a b c d : Bool) (r : ℕ) → 1 ≤ r
    → nat_le 5 (if d then (if c then (if b then (if a then r + 1 else 1) + 1 else 1) + 1 else 1) + 1 else 1)
    ≡ (true && a && b && c && d)
four_more true true true true r some = grind (arith, nat_tests)
four_more false true true true r some = refl
four_more a false true true r some = ap (λ x. x && true && true) (false_behind a)
four_more a b false true r some = ap (λ x. x && true) (false_behind (a && b))
four_more a b c false r some = false_behind (a && b && c)

same_five : (s t a b c d e f g h : Bool) → s ≡ t → a ≡ e → b ≡ f → c ≡ g → d ≡ h
    → (s && a && b && c && d) ≡ (t && e && f && g && h)
same_five s t a b c d e f g h p q r u v = cc

run-short : (alike : ℕ → Bool) (i : ℕ) → i < 4
    → nat_le 5 (run alike i) ≡ (nat_le 5 (i + 1) && alike (i + 1 - 5) && alike (i + 1 - 4) && alike (i + 1 - 3) && alike
    (i + 1 - 2))
run-short alike i few =
    let e = run-few alike i in
    let p : nat_le 5 (run alike i) ≡ false = grind (arith, nat_tests) in
    let q : nat_le 5 (i + 1) ≡ false = grind (arith, nat_tests) in
    p ∙ ap (λ (t : Bool). t && alike (i + 1 - 5) && alike (i + 1 - 4) && alike (i + 1 - 3) && alike (i + 1 - 2)) (sym q)

run-next : (alike : ℕ → Bool) (i n : ℕ) → n ≡ i + 1 → run alike n ≡ (if alike i then run alike i + 1 else 1)
run-next alike i n e = ap (run alike) e ∙ run-more alike i

run-four : (alike : ℕ → Bool) (k : ℕ) → run alike (k + 4)
    ≡ (if alike (k + 3) then (if alike (k + 2) then
    (if alike (k + 1) then (if alike k then run alike k + 1 else 1) + 1 else 1) + 1 else 1) + 1 else 1)
run-four alike k =
    let one = run-next alike k (k + 1) refl in
    let two = run-next alike (k + 1) (k + 2) (omega arith) in
    let three = run-next alike (k + 2) (k + 3) (omega arith) in
    let four = run-next alike (k + 3) (k + 4) (omega arith) in
    cc

run-long : (alike : ℕ → Bool) (k i : ℕ) → i ≡ k + 4
    → nat_le 5 (run alike i) ≡ (nat_le 5 (i + 1) && alike (i + 1 - 5) && alike (i + 1 - 4) && alike (i + 1 - 3) && alike
    (i + 1 - 2))
run-long alike k i far =
    let steps : run alike (k + 4) ≡ (if alike (k + 3) then
    (if alike (k + 2) then (if alike (k + 1) then (if alike k then run alike k + 1 else 1) + 1 else 1) + 1
    else 1) + 1 else 1) = run-four alike k in
    ap (λ n. nat_le 5 (run alike n)) far
    ∙ ap (nat_le 5) steps
    ∙ four_more (alike k) (alike (k + 1)) (alike (k + 2)) (alike (k + 3)) (run alike k) (run-some alike k)
    ∙ same_five true (nat_le 5 (i + 1)) (alike k) (alike (k + 1)) (alike (k + 2)) (alike (k + 3)) (alike (i + 1 - 5))
    (alike (i + 1 - 4)) (alike (i + 1 - 3)) (alike (i + 1 - 2)) (grind (arith, nat_tests)) (ap alike (omega arith))
    (ap alike (omega arith)) (ap alike (omega arith)) (ap alike (omega arith))

pub run-five : (alike : ℕ → Bool) (i : ℕ) → nat_le 5 (run alike i)
    ≡ (nat_le 5 (i + 1) && alike (i + 1 - 5) && alike (i + 1 - 4) && alike (i + 1 - 3) && alike (i + 1 - 2))
run-five alike zero = run-short alike 0 (omega arith)
run-five alike (suc zero) = run-short alike 1 (omega arith)
run-five alike (suc (suc zero)) = run-short alike 2 (omega arith)
run-five alike (suc (suc (suc zero))) = run-short alike 3 (omega arith)
run-five alike (suc (suc (suc (suc k)))) = run-long alike k (suc (suc (suc (suc k)))) (omega arith)

-- more statuses behind change nothing
pub alike_after-append : (lanes : Lanes) (first : List ℕ) (xs ys : List Status6) (count : ℕ) → count + 1 ≤ length xs
    → alike_after lanes first (xs ++ ys) count ≡ alike_after lanes first xs count
alike_after-append lanes first xs ys count within =
    ap (λ (drive : List ℕ). same_swings lanes drive (drive_after lanes first (xs ++ ys) (count + 1)))
    (drive_after-append lanes first xs ys count (omega arith))
    ∙ ap (same_swings lanes (drive_after lanes first xs count))
    (drive_after-append lanes first xs ys (count + 1) within)

same_all : (test a b c d e f g h : Bool) → (test ≡ true → (a ≡ e) × (b ≡ f) × (c ≡ g) × (d ≡ h))
    → (test && a && b && c && d) ≡ (test && e && f && g && h)
same_all true a b c d e f g h same = let s = same refl in cc
same_all false a b c d e f g h same = refl

pub five_alike-append : (lanes : Lanes) (first : List ℕ) (xs ys : List Status6) (n : ℕ) → n ≤ length xs + 1
    → five_alike lanes first (xs ++ ys) n ≡ five_alike lanes first xs n
unfolding five_alike
five_alike-append lanes first xs ys n within = same_all (nat_le 5 n) _ _ _ _ _ _ _ _
    (λ five. let enough : 5 ≤ n = grind (arith, nat_tests) in (
      alike_after-append lanes first xs ys (n - 5) (omega arith),
      alike_after-append lanes first xs ys (n - 4) (omega arith),
      alike_after-append lanes first xs ys (n - 3) (omega arith),
      alike_after-append lanes first xs ys (n - 2) (omega arith),
    ))

pub five_alike-run : (lanes : Lanes) (first : List ℕ) (xs : List Status6) (i : ℕ)
    → five_alike lanes first xs (i + 1) ≡ nat_le 5 (run (alike_after lanes first xs) i)
unfolding five_alike
five_alike-run lanes first xs i = sym (run-five (alike_after lanes first xs) i)
