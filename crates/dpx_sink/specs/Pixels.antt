-- The pixels that the lanes of a line have.
use Rattle.std.specs.Prelude.{ℕ, List, ◌==◌, if◌then◌else◌}
use Rattle.dpx_base.specs.declared.pixel.Pixel.{Pixel}
use Rattle.dpx_sink.specs.declared.unpack.LanePixels.{LanePixels}

abbrev pub pixels_of : LanePixels → (lane : ℕ) → List Pixel
pixels_of p lane =
    if lane == 0 then p.first.items else if lane == 1 then p.second.items
    else if lane == 2 then p.third.items else p.fourth.items
