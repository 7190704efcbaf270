-- The tables of the 8b/10b code read backwards.
use Rattle.std.specs.Prelude.{ℕ, zero, suc, ◌+◌, ◌-◌, ◌*◌, ◌/◌, ◌%◌, ◌==◌, ◌&&◌, ◌||◌, Bool, true, not}
use Rattle.std.specs.Prelude.{if◌then◌else◌, nat_lt, List, [], ◌∷◌, slice_index}
use Rattle.dpx_base.specs.Code.{control_words, is_control, word_of, data_word, control_word}

-- the x of each first block, and 32 where it is none
unfoldable pub x_of : List ℕ
x_of =
    32 ∷ 32 ∷ 32 ∷ 32 ∷ 32 ∷ 23 ∷ 8 ∷ 7 ∷ 32 ∷ 27 ∷ 4 ∷ 20 ∷ 24 ∷ 12 ∷ 28 ∷ 32
    ∷ 32 ∷ 29 ∷ 2 ∷ 18 ∷ 31 ∷ 10 ∷ 26 ∷ 15 ∷ 0 ∷ 6 ∷ 22 ∷ 16 ∷ 14 ∷ 1 ∷ 30 ∷ 32
    ∷ 32 ∷ 30 ∷ 1 ∷ 17 ∷ 16 ∷ 9 ∷ 25 ∷ 0 ∷ 15 ∷ 5 ∷ 21 ∷ 31 ∷ 13 ∷ 2 ∷ 29 ∷ 32
    ∷ 32 ∷ 3 ∷ 19 ∷ 24 ∷ 11 ∷ 4 ∷ 27 ∷ 32 ∷ 7 ∷ 8 ∷ 23 ∷ 32 ∷ 32 ∷ 32 ∷ 32 ∷ 32
    ∷ []

-- the y of each second block, and 8 where it is none
unfoldable pub y_of : List ℕ
y_of = 8 ∷ 7 ∷ 4 ∷ 3 ∷ 0 ∷ 2 ∷ 6 ∷ 7 ∷ 7 ∷ 1 ∷ 5 ∷ 0 ∷ 3 ∷ 4 ∷ 7 ∷ 8 ∷ []

unfoldable pub control_among : (word : ℕ) → List (ℕ × ℕ) → ℕ
control_among word [] = 0
control_among word (entry ∷ rest) =
    if (word == entry.1) || (word == 1023 - entry.1) then entry.0 else control_among word rest

-- the control byte of a word, and 0 where it is none's
unfoldable pub control_of : (word : ℕ) → ℕ
control_of word = control_among word control_words

-- the data byte of two blocks, and 256 or more where one is none
unfoldable pub data_of : (word : ℕ) → ℕ
data_of word = slice_index x_of (word / 16) + 32 * slice_index y_of (word % 16)

-- the one symbol that a word can stand for
unfoldable pub is_candidate_control : (word : ℕ) → Bool
is_candidate_control word = nat_lt 0 (control_of word)

unfoldable pub candidate_byte : (word : ℕ) → ℕ
candidate_byte word = if is_candidate_control word then control_of word else data_of word

-- the word stands in the column of a disparity: its candidate has that word there
unfoldable pub stands : (plus : Bool) → (word : ℕ) → Bool
stands plus word =
    nat_lt (candidate_byte word) 256 && (word_of (is_candidate_control word) (candidate_byte word) plus == word)

-- Tests over whole tables.

-- f holds of each number below n
unfoldable pub all_below : ℕ → (ℕ → Bool) → Bool
all_below zero f = true
all_below (suc n) f = f n && all_below n f

-- a word of a data byte tells it
unfoldable pub tells_data : (plus : Bool) → (byte : ℕ) → Bool
tells_data plus byte =
    not (is_candidate_control (data_word byte plus)) && (data_of (data_word byte plus) == byte)

-- a word of a control byte tells it
unfoldable pub tells_control : (plus : Bool) → (byte : ℕ) → Bool
tells_control plus byte =
    not (is_control byte)
    || (is_candidate_control (control_word byte plus) && (control_of (control_word byte plus) == byte))
