-- The rows of the lanes: this project's own.
use Rattle.std.specs.Prelude.{ℕ, ◌+◌, ◌*◌, List, [], ◌∷◌, map, replicate, slice_index, slice_index_or}
use Rattle.std.specs.List.{range_with_len}
use Rattle.dpx_base.specs.Lanes.{lanes_count}
use Rattle.dpx_base.specs.Words.{words_of}
use Rattle.dpx_base.specs.declared.lanes.Lanes.{Lanes}
use Rattle.dpx_base.specs.declared.lanes.Lanes.TheVariants.{One, Two, Four}

-- the rows of the lanes in use, lane 0 first, and how long they are
pub record RowsFacts : Type 0 where
  pub lanes : Lanes
  pub rows : List (List ℕ)
  pub clocks : ℕ

-- rows that hold no clock
abbrev pub no_rows : Lanes → RowsFacts
no_rows lanes = record { lanes = lanes; rows = replicate (lanes_count lanes) []; clocks = 0 }

-- of what four lanes have, what the lanes in use have, lane 0 first
abbrev pub in_use : {A : Type 0} → Lanes → A → A → A → A → List A
in_use One a b c d = a ∷ []
in_use Two a b c d = a ∷ b ∷ []
in_use Four a b c d = a ∷ b ∷ c ∷ d ∷ []

abbrev pub entry : RowsFacts → (lane clock : ℕ) → ℕ
entry r lane clock = slice_index (words_of r.rows lane) clock

-- f of each lane's two values, lane by lane
abbrev pub lane_by_lane : {A B C : Type 0} → (A → B → C) → List A → List B → List C
lane_by_lane f [] ys = []
lane_by_lane f (x ∷ xs) [] = []
lane_by_lane f (x ∷ xs) (y ∷ ys) = f x y ∷ lane_by_lane f xs ys

-- a lane's word in the bytes of one clock, and the words of all lanes
abbrev pub lane_word : (bytes : List ℕ) → (lane : ℕ) → ℕ
lane_word bytes lane = 256 * slice_index bytes (2 * lane) + slice_index bytes (2 * lane + 1)

abbrev pub clock_words : Lanes → (bytes : List ℕ) → List ℕ
clock_words lanes bytes = map (lane_word bytes) (range_with_len 0 (lanes_count lanes))
