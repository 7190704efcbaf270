-- The words of the lanes. The skew is VESA DisplayPort 1.4a's, main link; what fills it is this project's own.
use Rattle.std.specs.Prelude.{◌≡◌, ℕ, ◌<◌, ◌≤◌, ◌+◌, ◌-◌, ◌*◌, ◌⊎◌, Bool, false}
use Rattle.std.specs.Prelude.{List, [], ◌++◌, length, take, map, replicate, slice_index_or}
use Rattle.dpx_base.specs.declared.sym.Sym.{Sym}
use Rattle.dpx_base.specs.Code.{Coded, Listed, IsSymbol}
use Rattle.dpx_base.specs.Key.{Keyed}
use Rattle.dpx_base.specs.Symbols.{data_symbol}

abbrev pub fill : Sym
fill = data_symbol 0

-- each lane lags two clocks behind the lane before it, and all rows end together
abbrev pub lane_row : (lanes lane : ℕ) → List Sym → List Sym
lane_row lanes lane symbols = replicate (2 * lane) fill ++ (symbols ++ replicate (2 * (lanes - 1 - lane)) fill)

-- a lane's symbols of sets, and its words of the lanes' words
abbrev pub column : (lane : ℕ) → List (List Sym) → List Sym
column lane sets = map (λ set. slice_index_or set lane fill) sets

abbrev pub words_of : List (List ℕ) → (lane : ℕ) → List ℕ
words_of words lane = slice_index_or words lane []

-- a source's words of a lane's symbols: its row, with the key on it, coded from minus on
pub record LaneWords (lanes lane : ℕ) (symbols : List Sym) (words : List ℕ) : Type 0 where
  pub keyed : List Sym
  pub end : Bool
  pub key : Keyed (lane_row lanes lane symbols) keyed
  pub code : Coded false keyed words end

-- a source's words of sets, lane 0 first
pub record SentWords (lanes : ℕ) (sets : List (List Sym)) (words : List (List ℕ)) : Type 0 where
  pub size : length words ≡ lanes
  pub each : (lane : ℕ) → lane < lanes → LaneWords lanes lane (column lane sets) (words_of words lane)

-- each set has data symbols and the nine control symbols alone
abbrev pub Sendable : List (List Sym) → Type 0
Sendable sets = (k lane : ℕ) → k < length sets → IsSymbol (slice_index_or (slice_index_or sets k []) lane fill)

-- a lane's word is bad: it is 1024 or more, or the words up to it have no list of symbols from either disparity
pub record BadAt (words : List ℕ) (clock : ℕ) : Type 0 where
  pub within : clock < length words
  pub bad : (1024 ≤ slice_index_or words clock 0) ⊎ (Listed (take (clock + 1) words) → ⊥)

pub record FirstBad (words : List ℕ) (clock : ℕ) : Type 0 where
  pub bad : BadAt words clock
  pub first : (before : ℕ) → before < clock → BadAt words before → ⊥

abbrev pub NoneBad : List ℕ → Type 0
NoneBad words = (clock : ℕ) → BadAt words clock → ⊥

-- what a lane's words say: their symbols, with the key taken off
pub record LaneSymbols (words : List ℕ) (plain : List Sym) : Type 0 where
  pub from : Bool
  pub coded : List Sym
  pub end : Bool
  pub code : Coded from coded words end
  pub key : Keyed coded plain
