-- The bytes of a capture behind its header, as clocks and words: this project's own.
use Rattle.std.specs.Prelude.{ℕ, ◌*◌, ◌/◌, ◌%◌, List, length}
use Rattle.dpx_base.specs.Capture.{words_in}

-- a clock has a word of two bytes for each lane: the whole clocks, and the bytes of an unfinished one
unfoldable pub clocks_in : (lanes : ℕ) → List ℕ → ℕ
clocks_in lanes bytes = length bytes / (2 * lanes)

unfoldable pub left_over : (lanes : ℕ) → List ℕ → ℕ
left_over lanes bytes = length bytes % (2 * lanes)

-- each lane's words of the whole clocks
unfoldable pub received_words : (lanes : ℕ) → List ℕ → List (List ℕ)
received_words lanes bytes = words_in lanes (clocks_in lanes bytes) bytes
