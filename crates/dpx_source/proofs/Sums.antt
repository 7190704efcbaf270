-- Sums of terms in order.
use Rattle.std.proofs.Common.{ℕ, zero, suc, ◌+◌, ◌-◌, ◌*◌, ◌<◌, ◌≤◌, ◌≡◌, ◌⊎◌, arith, inl, inr, refl}
use Rattle.std.proofs.lemmas.Bool.{cases_lt}
use Rattle.dpx_source.specs.LineSums.{total}

-- equal terms have equal sums
pub total_same : (f g : ℕ → ℕ) (m : ℕ) → ((i : ℕ) → i < m → f i ≡ g i) → total f m ≡ total g m
unfolding total
total_same f g zero h = refl
total_same f g (suc m) h = omega (arith, total_same f g m (λ i k. h i (omega arith)), h m (omega arith))

pub total_more : (f : ℕ → ℕ) (m : ℕ) → total f (suc m) ≡ total f m + f m
unfolding total
total_more f m = refl

-- a sum of many equal terms
pub total_full : (f : ℕ → ℕ) (w m : ℕ) → ((i : ℕ) → i < m → f i ≡ w) → total f m ≡ m * w
unfolding total
total_full f w zero h = omega arith
total_full f w (suc m) h = omega (arith, total_full f w m (λ i k. h i (omega arith)), h m (omega arith))

-- terms that are nothing do not count
pub total_past : (f : ℕ → ℕ) (i m : ℕ) → i ≤ m → ((k : ℕ) → i ≤ k → k < m → f k ≡ 0) → total f m ≡ total f i
unfolding total
total_past f i zero le h = let e : i ≡ 0 = omega arith in rw e
total_past f i (suc m) le h = elim (cases_lt m i) [
  | inl whole ↦ let e : i ≡ suc m = omega arith in rw e
  | inr less ↦ omega (arith, total_past f i m less (λ k a b. h k a (omega arith)), h m less (omega arith))
]

-- full terms, then a last one, then nothing
pub total_at : (f : ℕ → ℕ) (w i m : ℕ) → i < m → ((k : ℕ) → k < i → f k ≡ w) → ((k : ℕ) → i < k → k < m → f k ≡ 0)
    → total f m ≡ i * w + f i
total_at f w i m h before after =
    omega (arith, total_past f (suc i) m h (λ k a b. after k a b), total_more f i, total_full f w i before)

-- the terms of two sums in order
pub total_le : (f g : ℕ → ℕ) (m : ℕ) → ((i : ℕ) → i < m → f i ≤ g i) → total f m ≤ total g m
unfolding total
total_le f g zero h = omega arith
total_le f g (suc m) h = omega (arith, total_le f g m (λ i k. h i (omega arith)), h m (omega arith))

pub total_less : (f g : ℕ → ℕ) (m : ℕ) → ((i : ℕ) → i < m → f i ≤ g i)
    → total g m ≡ total f m + total (λ i. g i - f i) m
unfolding total
total_less f g zero h = omega arith
total_less f g (suc m) h = omega (arith, total_less f g m (λ i k. h i (omega arith)), h m (omega arith))

-- at most one term is there, and none is large
pub total_one : (f : ℕ → ℕ) (most m : ℕ) → ((i : ℕ) → f i ≤ most) → ((i k : ℕ) → i < k → (f i ≡ 0) ⊎ (f k ≡ 0))
    → total f m ≤ most
unfolding total
total_one f most zero each one = omega arith
total_one f most (suc m) each one = elim (cases_lt 0 (f m)) [
  | inl some ↦ omega (arith, total_full f 0 m (λ i h. none i h some), each m)
  | inr nothing ↦ omega (arith, total_one f most m each one)
]
  where
    none : (i : ℕ) → i < m → 0 < f m → f i ≡ 0
    none i h some = elim (one i m h) [
      | inl e ↦ e
      | inr e ↦ absurd (omega (arith, e, some))
    ]
