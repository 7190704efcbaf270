-- The columns of attributes on the lanes: VESA DisplayPort 1.4a, main stream attributes.
use Rattle.std.specs.Prelude.{ℕ, ◌≡◌, ◌<◌, ◌+◌, ◌*◌, ◌/◌, ◌%◌, List, length, map, slice_index}
use Rattle.std.specs.List.{range_with_len}
use Rattle.dpx_base.specs.declared.lanes.Lanes.{Lanes}
use Rattle.dpx_base.specs.Attributes.{column_symbol}
use Rattle.dpx_base.specs.Lanes.{lanes_count}

-- the lane that carries the byte at this place of the four columns, and the index at which it does
abbrev pub lane_of_place : Lanes → (place : ℕ) → ℕ
lane_of_place lanes place = place / 9 % lanes_count lanes

abbrev pub index_of_place : Lanes → (place : ℕ) → ℕ
index_of_place lanes place = place / 9 / lanes_count lanes * 9 + place % 9

-- the four columns, out of what the lanes carry
unfoldable pub columns_from : Lanes → (byte : (lane index : ℕ) → ℕ) → List ℕ
columns_from lanes byte =
    map (λ place. byte (lane_of_place lanes place) (index_of_place lanes place)) (range_with_len 0 36)

-- each byte is carried once
pub record IsCarriedOnce (lanes : Lanes) (place lane index : ℕ) : Type 0 where
  pub lane_is : lane_of_place lanes place ≡ lane
  pub index_is : index_of_place lanes place ≡ index

abbrev pub EachPlaceOnce : Type 0
EachPlaceOnce = (lanes : Lanes) (lane index : ℕ) → lane < lanes_count lanes → index < 36 / lanes_count lanes
    → IsCarriedOnce lanes (column_symbol lanes lane index) lane index

-- the columns that the lanes carry come back
abbrev pub ColumnsComeBack : Type 0
ColumnsComeBack = (lanes : Lanes) (bytes : List ℕ) → length bytes ≡ 36
    → columns_from lanes (λ lane index. slice_index bytes (column_symbol lanes lane index)) ≡ bytes
