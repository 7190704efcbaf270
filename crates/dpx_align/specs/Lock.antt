-- Where the lanes lock, and the sets from there on: this project's own. The group is VESA DisplayPort 1.4a's, main link
-- framing.
use Rattle.std.specs.Prelude.{◌≡◌, ℕ, ◌<◌, ◌≤◌, ◌+◌, Bool, true, false}
use Rattle.std.specs.Prelude.{List, [], ◌∷◌, length, take, drop, slice_get, slice_index_or, Some}
use Rattle.dpx_base.specs.declared.sym.Sym.{Sym}
use Rattle.dpx_base.specs.Symbols.{control_symbol, sr, bf}

-- the group whose first symbol is SR, in enhanced framing and in default framing
abbrev pub sr_group : (enhanced : Bool) → List Sym
sr_group true = control_symbol sr ∷ control_symbol bf ∷ control_symbol bf ∷ control_symbol sr ∷ []
sr_group false = control_symbol sr ∷ []

-- the lane has the group from this clock on
abbrev pub HasAt : (group lane : List Sym) → (clock : ℕ) → Type 0
HasAt group lane clock = take (length group) (drop clock lane) ≡ group

-- the lane has a group that starts in clocks m to m + 16
pub record Near (group lane : List Sym) (m : ℕ) : Type 0 where
  pub at : ℕ
  pub from : m ≤ at
  pub within : at ≤ m + 16
  pub there : HasAt group lane at

abbrev pub lane_of : (lanes : List (List Sym)) → (lane : ℕ) → List Sym
lane_of lanes lane = slice_index_or lanes lane []

-- every lane has a group that starts in clocks m to m + 16, and some lane has one that starts at m
pub record Meets (group : List Sym) (lanes : List (List Sym)) (m : ℕ) : Type 0 where
  pub every : (lane : ℕ) → lane < length lanes → Near group (lane_of lanes lane) m
  pub first : ℕ
  pub within : first < length lanes
  pub there : HasAt group (lane_of lanes first) m

-- the lock is the least such clock
pub record IsLock (group : List Sym) (lanes : List (List Sym)) (m : ℕ) : Type 0 where
  pub meets : Meets group lanes m
  pub least : (k : ℕ) → k < m → Meets group lanes k → ⊥

-- the lane's first group from clock m on starts here
pub record FirstFrom (group lane : List Sym) (m start : ℕ) : Type 0 where
  pub from : m ≤ start
  pub there : HasAt group lane start
  pub first : (k : ℕ) → m ≤ k → k < start → HasAt group lane k → ⊥

-- the lane's symbol of set s, where the lock is m
pub record SymbolOf (group lane : List Sym) (m s : ℕ) (symbol : Sym) : Type 0 where
  pub start : ℕ
  pub starts : FirstFrom group lane m start
  pub there : slice_get lane (start + s) ≡ Some symbol

-- set s, which is complete in these clocks
pub record SetOf (group : List Sym) (lanes : List (List Sym)) (s : ℕ) (set : List Sym) : Type 0 where
  pub at : ℕ
  pub lock : IsLock group lanes at
  pub size : length set ≡ length lanes
  pub symbols : (lane : ℕ) (d : Sym) → lane < length lanes
      → SymbolOf group (lane_of lanes lane) at s (slice_index_or set lane d)

-- set s is complete at this clock: its last lane's
pub record CompleteAt (group : List Sym) (lanes : List (List Sym)) (s clock : ℕ) : Type 0 where
  pub at : ℕ
  pub lock : IsLock group lanes at
  pub last : ℕ
  pub within : last < length lanes
  pub start : ℕ
  pub starts : FirstFrom group (lane_of lanes last) at start
  pub clock_is : clock ≡ start + s
  pub latest : (lane other : ℕ) → lane < length lanes → FirstFrom group (lane_of lanes lane) at other
      → other + s ≤ clock
