-- The key's byte of a symbol, and of the next.
use Rattle.std.proofs.Common.{◌≡◌, ℕ, zero, suc, ◌<◌, ◌+◌, ◌*◌, ◌%◌, Bool, true, false, not, if◌then◌else◌}
use Rattle.std.proofs.Common.{List, [], ◌∷◌, ◌++◌, length, take, drop, refl, sym, ap, ◌∙◌, arith}
use Rattle.std.specs.Prelude.{bit_xor, reverse, take_while}
use Rattle.std.specs.Int.Bits.{xor_assoc, xor_self, xor_zero_r}
use Rattle.std.proofs.lemmas.List.{reverse-append}
use Rattle.dpx_base.specs.Key.{key_bits, key_byte, low_first, is_reset, since_reset, scrambled}
use Rattle.dpx_base.specs.declared.sym.Sym.{Sym}
use Rattle.dpx_lane.specs.Scrambling.{key_register}
use Rattle.dpx_lane.proofs.BitNumbers.{split, bits_drop}
use Rattle.dpx_lane.proofs.KeyBits.{key_are_bits}

abbrev goes_on : Sym → Bool
goes_on s = not (is_reset s)

one_more : (n : ℕ) (s : Sym) (ss : List Sym) → length (take (1 + n) (s ∷ ss)) ≡ length (take n ss) + 1
one_more n s ss =
    ap (λ k. length (take k (s ∷ ss))) {x = 1 + n} {y = suc n} (omega arith)
    ∙ (let e : suc (length (take n ss)) ≡ length (take n ss) + 1 = omega arith in e)

since_by : (s : Sym) (ss : List Sym) (b : Bool) → is_reset s ≡ b
    → length (take_while goes_on (s ∷ ss)) ≡ (if b then 0 else length (take_while goes_on ss) + 1)
since_by s ss true e = rw e refl
since_by s ss false e = rw e (one_more _ s ss)

-- a symbol more
pub since_more : (ss : List Sym) (s : Sym)
    → since_reset (ss ++ s ∷ []) ≡ (if is_reset s then 0 else since_reset ss + 1)
unfolding since_reset
since_more ss s =
    ap (λ xs. length (take_while goes_on xs)) {x = reverse (ss ++ s ∷ [])} {y = s ∷ reverse ss}
    (reverse-append ss (s ∷ []))
    ∙ since_by s (reverse ss) (is_reset s) refl

pub since_none : since_reset [] ≡ 0
unfolding since_reset
since_none = refl

-- the register's low byte is the key's
pub key_of : (r m : ℕ) → r ≡ key_register (8 * m) → r % 256 ≡ key_byte m
unfolding key_register key_byte
key_of r m e =
    let w = drop (8 * m) (key_bits (8 * m)) in
    let s = split 8 w (bits_drop (8 * m) (key_bits (8 * m)) (key_are_bits (8 * m))) in
    omega (arith, e, s.sum, s.below)

times_eight : (b : Bool) (m : ℕ) → (if b then 0 else 8 * m + 8) ≡ 8 * (if b then 0 else m + 1)
times_eight true m = refl
times_eight false m = omega arith

-- the register behind a symbol more
pub register_more : (ss : List Sym) (s : Sym)
    → key_register (if is_reset s then 0 else 8 * since_reset ss + 8) ≡ key_register (8 * since_reset (ss ++ s ∷ []))
register_more ss s =
    ap key_register (times_eight (is_reset s) (since_reset ss) ∙ sym (ap (λ m. 8 * m) (since_more ss s)))

same_byte : (b k : ℕ) → bit_xor (bit_xor b k) k ≡ b
same_byte b k = xor_assoc b k k ∙ (ap (bit_xor b) (xor_self k) ∙ xor_zero_r b)

-- the key's byte taken off again
pub scrambled_twice : (m : ℕ) (control : Bool) (byte : ℕ)
    → scrambled m (scrambled m (record { control = control; byte = byte })) ≡ record { control = control; byte = byte }
scrambled_twice m true byte = refl
scrambled_twice m false byte =
    let f : ℕ → Sym = λ x. record { control = false; byte = x } in
    ap f (same_byte byte (key_byte m))

pub reset_kept : (m : ℕ) (control : Bool) (byte : ℕ)
    → is_reset (scrambled m (record { control = control; byte = byte }))
    ≡ is_reset (record { control = control; byte = byte })
reset_kept m true byte = refl
reset_kept m false byte = refl
