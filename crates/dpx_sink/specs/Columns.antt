-- The pixels of a lane, out of a line's rows.
use Rattle.std.specs.Prelude.{ℕ, ◌/◌, ◌%◌, List, [], slice_index, slice_index_or}
use Rattle.dpx_base.specs.declared.pixel.Pixel.{Pixel}
use Rattle.dpx_base.specs.Sets.{black}
use Rattle.dpx_base.specs.Unpacking.{carried_pixel}
use Rattle.dpx_pack.specs.Lanes.{whole_pixel_count}
use Rattle.dpx_pack.specs.Positions.{span}

-- symbol j of a lane
abbrev pub symbol_in : (rows : List (List ℕ)) → (lane j : ℕ) → ℕ
symbol_in rows lane j = slice_index (slice_index_or rows j []) lane

-- the pixels that a lane's first symbols make whole
unfoldable pub column : (depth : ℕ) → (rows : List (List ℕ)) → (lane symbols : ℕ) → List Pixel
column depth rows lane symbols =
    span (carried_pixel depth (symbol_in rows lane)) 0 (whole_pixel_count depth symbols)

-- the pixels of a line of this width, which the lanes have in turn
unfoldable pub in_turns : (lane_pixels : ℕ → List Pixel) → (lanes width : ℕ) → List Pixel
in_turns lane_pixels lanes width =
    span (λ x. slice_index_or (lane_pixels (x % lanes)) (x / lanes) black) 0 width
