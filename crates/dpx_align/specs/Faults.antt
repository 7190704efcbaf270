-- The first word fault, and the symbols that count: this project's own.
use Rattle.std.specs.Prelude.{◌≡◌, ℕ, ◌<◌, ◌⊎◌, List, length, take, map}
use Rattle.dpx_base.specs.Words.{words_of, BadAt, LaneSymbols}
use Rattle.dpx_base.specs.declared.sym.Sym.{Sym}
use Rattle.dpx_align.specs.Lock.{lane_of}

-- the first word fault of the lanes' words: the least clock, and then the lowest lane
pub record FaultAt (words : List (List ℕ)) (clock lane : ℕ) : Type 0 where
  pub within : lane < length words
  pub bad : BadAt (words_of words lane) clock
  pub least : (other before : ℕ) → other < length words → before < clock → BadAt (words_of words other) before → ⊥
  pub lowest : (other : ℕ) → other < lane → BadAt (words_of words other) clock → ⊥

abbrev pub NoFault : (words : List (List ℕ)) → Type 0
NoFault words = (lane clock : ℕ) → lane < length words → BadAt (words_of words lane) clock → ⊥

-- each lane's symbols
pub record Symbols (words : List (List ℕ)) (plain : List (List Sym)) : Type 0 where
  pub size : length plain ≡ length words
  pub each : (lane : ℕ) → lane < length words → LaneSymbols (words_of words lane) (lane_of plain lane)

-- the lanes' first clocks
abbrev pub cut : (clock : ℕ) → List (List ℕ) → List (List ℕ)
cut clock words = map (λ row. take clock row) words

-- the symbols of the clocks that count: all, or those before the first word fault
abbrev pub Counted : (words : List (List ℕ)) → (plain : List (List Sym)) → Type 0
Counted words plain =
    (NoFault words × Symbols words plain)
    ⊎ ((clock lane : ℕ) × FaultAt words clock lane × Symbols (cut clock words) plain)
