-- Lists of bits as numbers, the lowest first.
use Rattle.std.proofs.Common.{◌≡◌, ℕ, zero, suc, ◌<◌, ◌≤◌, ◌+◌, ◌*◌, ◌%◌, ◌^◌, List, [], ◌∷◌, length, get_or, take}
use Rattle.std.proofs.Common.{drop}
use Rattle.std.proofs.Common.{refl, ap, arith, ◌∙◌}
use Rattle.std.proofs.Math.Nat.{pow-suc, mul_comm, mul_right_comm}
use Rattle.std.specs.Int.Bits.{bit_xor, xor_zero_l, xor_zero_r, xor_block}
use Rattle.dpx_base.specs.Key.{low_first}

abbrev pub AreBits : List ℕ → Type 0
AreBits [] = Unit {0}
AreBits (b ∷ bits) = (b < 2) × AreBits bits

pub bits_drop : (k : ℕ) (xs : List ℕ) → AreBits xs → AreBits (drop k xs)
bits_drop zero xs h = h
bits_drop (suc k) [] h = tt
bits_drop (suc k) (x ∷ xs) h = bits_drop k xs h.1

pub bit_at_most : (xs : List ℕ) (k : ℕ) → AreBits xs → get_or xs k 0 < 2
bit_at_most [] k h = omega arith
bit_at_most (x ∷ xs) zero h = h.0
bit_at_most (x ∷ xs) (suc k) h = bit_at_most xs k h.1

times_two : (p b : ℕ) → p * 2 * b ≡ 2 * (p * b)
times_two p b = mul_right_comm p 2 b ∙ mul_comm (p * b) 2

-- a number is that of its first bits, below a power of two, and that power times the number of the others
pub record Split (k : ℕ) (xs : List ℕ) : Type 0 where
  pub sum : low_first xs ≡ low_first (take k xs) + 2 ^ k * low_first (drop k xs)
  pub below : low_first (take k xs) < 2 ^ k

pub split : (k : ℕ) (xs : List ℕ) → AreBits xs → Split k xs
unfolding low_first
split zero xs h = record { sum = omega arith; below = omega arith }
split (suc k) [] h = record {
  sum = omega arith;
  below =
      let p = (split k [] tt).below in
      omega (arith, p, pow-suc 2 k);
}
split (suc k) (x ∷ xs) h =
    let rest = split k xs h.1 in
    let e : 2 ^ suc k * low_first (drop k xs) ≡ 2 * (2 ^ k * low_first (drop k xs)) =
    ap (λ p. p * low_first (drop k xs)) (pow-suc 2 k) ∙ times_two (2 ^ k) (low_first (drop k xs)) in
    record {
      sum = omega (arith, rest.sum, e);
      below = omega (arith, rest.below, pow-suc 2 k, h.0);
    }

-- two lists of bits added place by place, without carrying
abbrev pub xor_lists : List ℕ → List ℕ → List ℕ
xor_lists [] ys = ys
xor_lists (x ∷ xs) [] = x ∷ xs
xor_lists (x ∷ xs) (y ∷ ys) = ((x + y) % 2) ∷ xor_lists xs ys

pub xor_bits : (xs ys : List ℕ) → AreBits xs → AreBits ys → AreBits (xor_lists xs ys)
xor_bits [] ys h k = k
xor_bits (x ∷ xs) [] h k = h
xor_bits (x ∷ xs) (y ∷ ys) h k = (omega arith, xor_bits xs ys h.1 k.1)

pub xor_at : (xs ys : List ℕ) (i : ℕ) → AreBits xs → AreBits ys
    → get_or (xor_lists xs ys) i 0 ≡ (get_or xs i 0 + get_or ys i 0) % 2
xor_at [] ys i h k = let l = bit_at_most ys i k in omega (arith, l)
xor_at (x ∷ xs) [] i h k = let l = bit_at_most (x ∷ xs) i h in omega (arith, l)
xor_at (x ∷ xs) (y ∷ ys) zero h k = refl
xor_at (x ∷ xs) (y ∷ ys) (suc i) h k = xor_at xs ys i h.1 k.1

pub xor_length : (xs ys : List ℕ) → length ys ≤ length xs → length (xor_lists xs ys) ≡ length xs
xor_length [] [] l = refl
xor_length [] (y ∷ ys) l = absurd (omega arith)
xor_length (x ∷ xs) [] l = refl
xor_length (x ∷ xs) (y ∷ ys) l = ap suc (xor_length xs ys (omega arith))

xor_bit : (x y : ℕ) → x < 2 → y < 2 → bit_xor x y ≡ (x + y) % 2
xor_bit zero y l m = omega (arith, xor_zero_l y)
xor_bit (suc zero) zero l m = refl
xor_bit (suc zero) (suc zero) l m = refl
xor_bit (suc zero) (suc (suc y)) l m = absurd (omega arith)
xor_bit (suc (suc x)) y l m = absurd (omega arith)

xor_low : (x y n m : ℕ) → x < 2 → y < 2 → bit_xor (x + 2 * n) (y + 2 * m) ≡ (x + y) % 2 + 2 * bit_xor n m
xor_low x y n m l k =
    let e : bit_xor (n * 2 ^ 1 + x) (m * 2 ^ 1 + y) ≡ bit_xor n m * 2 ^ 1 + bit_xor x y = xor_block 1 n m x y l k in
    let f : x + 2 * n ≡ n * 2 ^ 1 + x = omega arith in
    let g : y + 2 * m ≡ m * 2 ^ 1 + y = omega arith in
    rw (f, g, e) (omega (arith, xor_bit x y l k))

pub xor_numbers : (xs ys : List ℕ) → AreBits xs → AreBits ys
    → bit_xor (low_first xs) (low_first ys) ≡ low_first (xor_lists xs ys)
unfolding low_first
xor_numbers [] ys h k = xor_zero_l (low_first ys)
xor_numbers (x ∷ xs) [] h k = xor_zero_r (low_first (x ∷ xs))
xor_numbers (x ∷ xs) (y ∷ ys) h k =
    let e = xor_low x y (low_first xs) (low_first ys) h.0 k.0 in
    let r : bit_xor (low_first xs) (low_first ys) ≡ low_first (xor_lists xs ys) = xor_numbers xs ys h.1 k.1 in
    omega (arith, e, r)
