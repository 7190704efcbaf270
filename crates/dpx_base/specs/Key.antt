-- The scrambler: VESA DisplayPort 1.4a, main link scrambling. That a lane begins with the key's first byte, and that
-- the symbol behind a reset takes it, is this project's own.
use Rattle.std.specs.Prelude.{◌≡◌, ℕ, zero, suc, ◌+◌, ◌*◌, ◌%◌, ◌<◌, ◌==◌, ◌&&◌, Bool, not, if◌then◌else◌, bit_xor}
use Rattle.std.specs.Prelude.{List, [], ◌∷◌, ◌++◌, length, take, drop, reverse, take_while, slice_index, slice_index_or}
use Rattle.dpx_base.specs.declared.sym.Sym.{Sym}
use Rattle.dpx_base.specs.Symbols.{sr}

-- the key's first sixteen bits: the seed is FFFF
abbrev pub first_bits : List ℕ
first_bits = 1 ∷ 1 ∷ 1 ∷ 1 ∷ 1 ∷ 1 ∷ 1 ∷ 1 ∷ 1 ∷ 1 ∷ 1 ∷ 0 ∷ 1 ∷ 0 ∷ 0 ∷ 0 ∷ []

-- bit n + 16 is the sum of the bits n, n + 3, n + 4 and n + 5, modulo 2: the polynomial is X^16 + X^5 + X^4 + X^3 + 1
abbrev pub bit_sum : (n : ℕ) → List ℕ → ℕ
bit_sum n bits =
    (slice_index bits n + slice_index bits (n + 3) + slice_index bits (n + 4) + slice_index bits (n + 5)) % 2

-- the key's bits, the first sixteen and so many more
unfoldable pub key_bits : (more : ℕ) → List ℕ
key_bits zero = first_bits
key_bits (suc n) = key_bits n ++ bit_sum n (key_bits n) ∷ []

-- the number with these bits, the lowest first
unfoldable pub low_first : List ℕ → ℕ
low_first [] = 0
low_first (bit ∷ bits) = bit + 2 * low_first bits

-- key byte m has the bits from 8m on, the lowest first
unfoldable pub key_byte : (m : ℕ) → ℕ
key_byte m = low_first (take 8 (drop (8 * m) (key_bits (8 * m))))

abbrev pub is_reset : Sym → Bool
is_reset symbol = symbol.control && (symbol.byte == sr)

-- how many symbols stand behind the last reset of a list; all of them, where there is none
unfoldable pub since_reset : List Sym → ℕ
since_reset symbols = length (take_while (λ symbol. not (is_reset symbol)) (reverse symbols))

-- a data symbol takes a byte of the key, a control symbol stays
abbrev pub scrambled : (m : ℕ) → Sym → Sym
scrambled m symbol =
    if symbol.control then symbol else record symbol { byte = bit_xor symbol.byte (key_byte m) }

-- A row, and the row with the key on it: each symbol takes the key's byte of the number of symbols since the last
-- reset before it. Control symbols use up their bytes too.
pub record Keyed (row keyed : List Sym) : Type 0 where
  pub size : length keyed ≡ length row
  pub at : (k : ℕ) (d : Sym) → k < length row
      → slice_index_or keyed k d ≡ scrambled (since_reset (take k row)) (slice_index_or row k d)
