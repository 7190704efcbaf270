-- The pixels of a line out of its lanes' bytes: VESA DisplayPort 1.4a, main link. Of bits between and behind the
-- pixels nothing is said.
use Rattle.std.specs.Prelude.{ℕ, ◌+◌, ◌-◌, ◌*◌, ◌/◌, ◌%◌, ◌^◌, ◌<◌, List, map}
use Rattle.std.specs.Int.{bit_at}
use Rattle.std.specs.List.{range_with_len}
use Rattle.dpx_base.specs.declared.pixel.Pixel.{Pixel}
use Rattle.dpx_base.specs.Packing.{number_of}

-- each component has at most so many bits
pub record InRange (depth : ℕ) (pixel : Pixel) : Type 0 where
  pub r : pixel.r < 2 ^ depth
  pub g : pixel.g < 2 ^ depth
  pub b : pixel.b < 2 ^ depth

-- bit i of a lane with these bytes, each with its highest bit first
unfoldable pub carried_bit : (byte : ℕ → ℕ) → (i : ℕ) → ℕ
carried_bit byte i = bit_at (byte (i / 8)) (7 - i % 8)

-- a component of pixel k of a lane with these bytes: 0 is red, 1 green, 2 blue
unfoldable pub carried_component : (depth : ℕ) → (byte : ℕ → ℕ) → (k place : ℕ) → ℕ
carried_component depth byte k place =
    number_of (map (carried_bit byte) (range_with_len (k * (3 * depth) + place * depth) depth))

-- pixel k of a lane with these bytes
abbrev pub carried_pixel : (depth : ℕ) → (byte : ℕ → ℕ) → (k : ℕ) → Pixel
carried_pixel depth byte k = record {
  r = carried_component depth byte k 0;
  g = carried_component depth byte k 1;
  b = carried_component depth byte k 2;
}

-- the pixels of a line of this width, whose lanes carry these bytes: the lanes have them in turn
unfoldable pub unpacked : (depth lanes width : ℕ) → (byte : (lane j : ℕ) → ℕ) → List Pixel
unpacked depth lanes width byte = map (λ x. carried_pixel depth (byte (x % lanes)) (x / lanes)) (range_with_len 0 width)
