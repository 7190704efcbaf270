-- The tests of the search, and what they mean.
use Rattle.std.proofs.Common.{◌≡◌, ℕ, zero, suc, ◌<◌, ◌≤◌, ◌+◌, ◌⊎◌, inl, inr, Bool, true, false, cond, eqb, List, []}
use Rattle.std.proofs.Common.{◌∷◌, length, take, refl, sym, subst, arith, Option, Some, None, ⊎_elim}
use Rattle.std.proofs.lemmas.Bool.{and_parts, and_from, eqb-true, eq-eqb, false≢true, both_ways, cases_order}
use Rattle.dpx_base.specs.declared.sym.Sym.{Sym}
use Rattle.dpx_align.specs.Search.{bool_eq, sym_eq, begins_with, scan}

bool_eq-true : (a b : Bool) → bool_eq a b ≡ true → a ≡ b
bool_eq-true true b h = sym h
bool_eq-true false true h = h
bool_eq-true false false h = refl

bool_eq-same : (a : Bool) → bool_eq a a ≡ true
bool_eq-same true = refl
bool_eq-same false = refl

same_sym : (a b : Bool) (m n : ℕ) → a ≡ b → m ≡ n
    → ◌≡◌ {A = Sym} (record { control = a; byte = m }) (record { control = b; byte = n })
same_sym a b m n e f = cc

sym_eq-true : (s t : Sym) → sym_eq s t ≡ true → s ≡ t
sym_eq-true s t h =
    let p = and_parts (bool_eq s.control t.control) (eqb s.byte t.byte) h in
    same_sym s.control t.control s.byte t.byte (bool_eq-true s.control t.control p.0) (eqb-true s.byte t.byte p.1)

sym_eq-same : (s : Sym) → sym_eq s s ≡ true
sym_eq-same s = and_from (bool_eq s.control s.control) (eqb s.byte s.byte) (bool_eq-same s.control)
    (eq-eqb s.byte s.byte refl)

pub begins : (group xs : List Sym) → begins_with group xs ≡ true → take (length group) xs ≡ group
unfolding begins_with
begins [] xs h = refl
begins (g ∷ gs) [] h = absurd (false≢true h)
begins (g ∷ gs) (x ∷ xs) h =
    let p = and_parts (sym_eq g x) (begins_with gs xs) h in
    let e = sym_eq-true g x p.0 in
    let f = begins gs xs p.1 in
    cc

pub begun : (group xs : List Sym) → take (length group) xs ≡ group → begins_with group xs ≡ true
unfolding begins_with
begun [] xs h = refl
begun (g ∷ gs) [] h = cc
begun (g ∷ gs) (x ∷ xs) h =
    let e : x ≡ g = cc in
    let f : take (length gs) xs ≡ gs = cc in
    and_from (sym_eq g x) (begins_with gs xs) (subst (λ (s : Sym). sym_eq g s ≡ true) (sym e) (sym_eq-same g))
    (begun gs xs f)

pub record Scanned (n : ℕ) (test : ℕ → Bool) (a m : ℕ) : Type 0 where
  pub from : a ≤ m
  pub within : m < a + n
  pub passes : test m ≡ true
  pub first : (k : ℕ) → a ≤ k → k < m → test k ≡ false

at_or_past_by : (a k : ℕ) → (a ≡ k) ⊎ ((a < k) ⊎ (k < a)) → a ≤ k → (k ≡ a) ⊎ (a + 1 ≤ k)
at_or_past_by a k (inl e) l = inl (sym e)
at_or_past_by a k (inr (inl e)) l = inr (omega arith)
at_or_past_by a k (inr (inr e)) l = absurd (omega arith)

at_or_past : (a k : ℕ) → a ≤ k → (k ≡ a) ⊎ (a + 1 ≤ k)
at_or_past a k l = at_or_past_by a k (cases_order a k) l

scan_some_by : (n : ℕ) (test : ℕ → Bool) (a m : ℕ) (b : Bool) → test a ≡ b
    → (scan n test (a + 1) ≡ Some m → Scanned n test (a + 1) m) → cond b (Some a) (scan n test (a + 1)) ≡ Some m
    → Scanned (suc n) test a m
scan_some_by n test a m true e rest h =
    let s : a ≡ m = cc in
    record {
      from = omega arith;
      within = omega arith;
      passes = subst (λ (k : ℕ). test k ≡ true) s e;
      first =
          λ k l u. absurd (omega arith);
    }
scan_some_by n test a m false e rest h =
    let r = rest h in
    record {
      from = omega (arith, r.from);
      within = omega (arith, r.within);
      passes = r.passes;
      first = λ k l u. ⊎_elim (λ (f : k ≡ a). subst (λ (i : ℕ). test i ≡ false) (sym f) e)
          (λ (f : a + 1 ≤ k). r.first k f u) (at_or_past a k l);
    }

pub scan_some : (n : ℕ) (test : ℕ → Bool) (a m : ℕ) → scan n test a ≡ Some m → Scanned n test a m
unfolding scan
scan_some zero test a m h = cc
scan_some (suc n) test a m h = scan_some_by n test a m (test a) refl (scan_some n test (a + 1) m) h

scan_none_by : (n : ℕ) (test : ℕ → Bool) (a k : ℕ) (b : Bool) → test a ≡ b
    → (a + 1 ≤ k → scan n test (a + 1) ≡ None → test k ≡ false) → cond b (Some a) (scan n test (a + 1)) ≡ None → a ≤ k
    → test k ≡ false
scan_none_by n test a k true e rest h l = cc
scan_none_by n test a k false e rest h l =
    ⊎_elim (λ (f : k ≡ a). subst (λ (i : ℕ). test i ≡ false) (sym f) e) (λ (f : a + 1 ≤ k). rest f h) (at_or_past a k l)

pub scan_none : (n : ℕ) (test : ℕ → Bool) (a k : ℕ) → scan n test a ≡ None → a ≤ k → k < a + n → test k ≡ false
unfolding scan
scan_none zero test a k h l u = absurd (omega arith)
scan_none (suc n) test a k h l u = scan_none_by n test a k (test a) refl
    (λ f g. scan_none n test (a + 1) k g f (omega arith)) h l

found_by : (n : ℕ) (test : ℕ → Bool) (a k : ℕ) (o : Option ℕ) → scan n test a ≡ o → a ≤ k → k < a + n → test k ≡ true
    → (m : ℕ) × (scan n test a ≡ Some m)
found_by n test a k None e l u t = absurd (both_ways (test k) (scan_none n test a k e l u) t)
found_by n test a k (Some m) e l u t = (m, e)

-- where one passes, the scan finds one
pub found : (n : ℕ) (test : ℕ → Bool) (a k : ℕ) → a ≤ k → k < a + n → test k ≡ true → (m : ℕ) × (scan n test a ≡ Some m)
found n test a k l u t = found_by n test a k (scan n test a) refl l u t
