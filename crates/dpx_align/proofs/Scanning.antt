-- A scan, number by number.
use Rattle.std.proofs.Common.{◌≡◌, ℕ, suc, ◌<◌, ◌+◌, ◌-◌, Bool, true, false, cond, refl, ap, ◌∙◌, arith, Some, None}
use Rattle.dpx_align.specs.Search.{scan}

scan_suc : (n : ℕ) (test : ℕ → Bool) (a : ℕ) → scan (suc n) test a ≡ cond (test a) (Some a) (scan n test (a + 1))
unfolding scan
scan_suc n test a = refl

scan_zero : (test : ℕ → Bool) (a : ℕ) → scan 0 test a ≡ None
unfolding scan
scan_zero test a = refl

pub past : (n : ℕ) (test : ℕ → Bool) (a : ℕ) → n ≡ 0 → scan n test a ≡ None
past n test a e = ap (λ (k : ℕ). scan k test a) e ∙ scan_zero test a

pub here : (m : ℕ) (test : ℕ → Bool) (a : ℕ) → a < m → test a ≡ true → scan (m - a) test a ≡ Some a
here m test a l h =
    let e : m - a ≡ suc (m - (a + 1)) = omega arith in
    ap (λ (k : ℕ). scan k test a) e ∙ (scan_suc (m - (a + 1)) test a
    ∙ ap (λ (b : Bool). cond b (Some a) (scan (m - (a + 1)) test (a + 1))) h)

pub more : (m : ℕ) (test : ℕ → Bool) (a : ℕ) → a < m → test a ≡ false
    → scan (m - a) test a ≡ scan (m - (a + 1)) test (a + 1)
more m test a l h =
    let e : m - a ≡ suc (m - (a + 1)) = omega arith in
    ap (λ (k : ℕ). scan k test a) e ∙ (scan_suc (m - (a + 1)) test a
    ∙ ap (λ (b : Bool). cond b (Some a) (scan (m - (a + 1)) test (a + 1))) h)
