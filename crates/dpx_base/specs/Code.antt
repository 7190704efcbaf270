-- The 8b/10b code: ANSI X3.230, transmission code. A word is the number abcdei fghj, with a as bit 9.
use Rattle.std.specs.Prelude.{ℕ, ◌+◌, ◌-◌, ◌*◌, ◌/◌, ◌%◌, ◌<◌, ◌≡◌, ◌==◌, ◌&&◌, ◌||◌, Bool, true, false, not}
use Rattle.std.specs.Prelude.{if◌then◌else◌, nat_lt, List, [], ◌∷◌, slice_index, count_ones, IsTrue}
use Rattle.dpx_base.specs.declared.sym.Sym.{Sym}
use Rattle.dpx_base.specs.Symbols.{bs, be, sr, bf, ss, se, fs, fe, cp}

-- A byte is named Dx.y or Kx.y: x is its low five bits, y its high three. A running disparity is minus or plus.

-- the first block, abcdei, for each x at minus, and at plus
unfoldable pub first_minus : List ℕ
first_minus =
    0b100111 ∷ 0b011101 ∷ 0b101101 ∷ 0b110001 ∷ 0b110101 ∷ 0b101001 ∷ 0b011001 ∷ 0b111000
    ∷ 0b111001 ∷ 0b100101 ∷ 0b010101 ∷ 0b110100 ∷ 0b001101 ∷ 0b101100 ∷ 0b011100 ∷ 0b010111
    ∷ 0b011011 ∷ 0b100011 ∷ 0b010011 ∷ 0b110010 ∷ 0b001011 ∷ 0b101010 ∷ 0b011010 ∷ 0b111010
    ∷ 0b110011 ∷ 0b100110 ∷ 0b010110 ∷ 0b110110 ∷ 0b001110 ∷ 0b101110 ∷ 0b011110 ∷ 0b101011
    ∷ []

unfoldable pub first_plus : List ℕ
first_plus =
    0b011000 ∷ 0b100010 ∷ 0b010010 ∷ 0b110001 ∷ 0b001010 ∷ 0b101001 ∷ 0b011001 ∷ 0b000111
    ∷ 0b000110 ∷ 0b100101 ∷ 0b010101 ∷ 0b110100 ∷ 0b001101 ∷ 0b101100 ∷ 0b011100 ∷ 0b101000
    ∷ 0b100100 ∷ 0b100011 ∷ 0b010011 ∷ 0b110010 ∷ 0b001011 ∷ 0b101010 ∷ 0b011010 ∷ 0b000101
    ∷ 0b001100 ∷ 0b100110 ∷ 0b010110 ∷ 0b001001 ∷ 0b001110 ∷ 0b010001 ∷ 0b100001 ∷ 0b010100
    ∷ []

-- the second block, fghj, for each y at minus, and at plus
unfoldable pub second_minus : List ℕ
second_minus = 0b1011 ∷ 0b1001 ∷ 0b0101 ∷ 0b1100 ∷ 0b1101 ∷ 0b1010 ∷ 0b0110 ∷ 0b1110 ∷ []

unfoldable pub second_plus : List ℕ
second_plus = 0b0100 ∷ 0b1001 ∷ 0b0101 ∷ 0b0011 ∷ 0b0010 ∷ 0b1010 ∷ 0b0110 ∷ 0b0001 ∷ []

-- the control bytes of the main link, each with its word at minus
unfoldable pub control_words : List (ℕ × ℕ)
control_words =
    (sr, 0b0011110100) ∷ (cp, 0b0011111001) ∷ (ss, 0b0011110101)
    ∷ (bf, 0b0011110011) ∷ (bs, 0b0011111010) ∷ (fe, 0b1110101000)
    ∷ (be, 0b1101101000) ∷ (se, 0b1011101000) ∷ (fs, 0b0111101000)
    ∷ []

unfoldable pub first_block : (x : ℕ) → Bool → ℕ
first_block x plus = if plus then slice_index first_plus x else slice_index first_minus x

-- the x whose second block for y = 7 is the alternate one, so that no five bits in a row are equal
unfoldable pub takes_a7 : (x : ℕ) → Bool → Bool
takes_a7 x plus =
    if plus then (x == 11) || ((x == 13) || (x == 14)) else (x == 17) || ((x == 18) || (x == 20))

-- the second block, at the disparity behind the first
unfoldable pub second_block : (y x : ℕ) → Bool → ℕ
second_block y x plus =
    if (y == 7) && takes_a7 x plus then (if plus then 0b1000 else 0b0111)
    else (if plus then slice_index second_plus y else slice_index second_minus y)

-- The disparity behind a block of twice so many bits: the more frequent bit sets it, a balanced block keeps it.
unfoldable pub disparity_after : (half block : ℕ) → Bool → Bool
disparity_after half block plus =
    if nat_lt half (count_ones block) then true else if nat_lt (count_ones block) half then false else plus

unfoldable pub data_word : (byte : ℕ) → Bool → ℕ
data_word byte plus =
    let first = first_block (byte % 32) plus in
    first * 16 + second_block (byte / 32) (byte % 32) (disparity_after 3 first plus)

unfoldable pub word_among : (byte : ℕ) → List (ℕ × ℕ) → ℕ
word_among byte [] = 0
word_among byte (entry ∷ rest) = if byte == entry.0 then entry.1 else word_among byte rest

unfoldable pub is_among : (byte : ℕ) → List (ℕ × ℕ) → Bool
is_among byte [] = false
is_among byte (entry ∷ rest) = (byte == entry.0) || is_among byte rest

unfoldable pub is_control : (byte : ℕ) → Bool
is_control byte = is_among byte control_words

-- a control word at plus has each bit of that at minus turned over
unfoldable pub control_word : (byte : ℕ) → Bool → ℕ
control_word byte plus =
    if plus then 1023 - word_among byte control_words else word_among byte control_words

unfoldable pub word_of : (control : Bool) (byte : ℕ) → Bool → ℕ
word_of control byte plus = if control then control_word byte plus else data_word byte plus

-- the disparity behind a word, block by block
unfoldable pub next_disparity : (word : ℕ) → Bool → Bool
next_disparity word plus = disparity_after 2 (word % 16) (disparity_after 3 (word / 16) plus)

-- a data symbol, or one of the nine control symbols
abbrev pub IsSymbol : Sym → Type 0
IsSymbol symbol = (symbol.byte < 256) × IsTrue (not symbol.control || is_control symbol.byte)

-- A symbol stands in the column of a disparity as this word, and leaves that disparity.
abbrev pub Codes : Sym → (plus : Bool) → (word : ℕ) → (next : Bool) → Type 0
Codes symbol plus word next =
    IsSymbol symbol × (word_of symbol.control symbol.byte plus ≡ word) × (next_disparity word plus ≡ next)

-- some symbol stands in the column of a disparity as this word
pub record StandsIn (plus : Bool) (word : ℕ) : Type 0 where
  pub symbol : Sym
  pub next : Bool
  pub codes : Codes symbol plus word next

-- The words of symbols, from a disparity to a disparity: each word leaves the disparity of the next one's column.
abbrev pub Coded : (plus : Bool) → List Sym → List ℕ → (end : Bool) → Type 0
Coded plus [] [] end = plus ≡ end
Coded plus [] (word ∷ words) end = ⊥
Coded plus (symbol ∷ symbols) [] end = ⊥
Coded plus (symbol ∷ symbols) (word ∷ words) end =
    (next : Bool) × Codes symbol plus word next × Coded next symbols words end

-- words have a list of symbols, from either disparity
pub record Listed (words : List ℕ) : Type 0 where
  pub from : Bool
  pub symbols : List Sym
  pub end : Bool
  pub code : Coded from symbols words end
