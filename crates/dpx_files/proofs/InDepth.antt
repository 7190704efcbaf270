-- A number's pixels: how many there are, and that each is within the depth.
use Rattle.std.proofs.Common.{◌≡◌, ℕ, zero, suc, ◌+◌, ◌*◌, ◌^◌, ◌<◌, length, map, arith}
use Rattle.std.specs.List.{AllByRecursion, range_with_len}
use Rattle.std.proofs.lemmas.List.FromFn.{length-map-range_with_len}
use Rattle.dpx_base.specs.declared.depth.Depth.{Depth}
use Rattle.dpx_base.specs.declared.depth.Depth.TheVariants.{Six, Eight, Ten, Twelve, Sixteen}
use Rattle.dpx_base.specs.declared.pixel.Pixel.{Pixel}
use Rattle.dpx_base.specs.Mode.{depth_bits}
use Rattle.dpx_base.specs.Unpacking.{InRange}
use Rattle.dpx_files.specs.Generator.{gen_component, gen_pixel, gen_shape, gen_count, gen_pixels}

component_fits : (seed : ℕ) (depth : Depth) (number place : ℕ)
    → gen_component seed depth number place < 2 ^ depth_bits depth
unfolding gen_component
component_fits seed Six number place = omega arith
component_fits seed Eight number place = omega arith
component_fits seed Ten number place = omega arith
component_fits seed Twelve number place = omega arith
component_fits seed Sixteen number place = omega arith

pixel_fits : (seed : ℕ) (depth : Depth) (number : ℕ) → InRange (depth_bits depth) (gen_pixel seed depth number)
pixel_fits seed depth number = record {
  r = component_fits seed depth number 0;
  g = component_fits seed depth number 1;
  b = component_fits seed depth number 2;
}

all_of : (Is : Pixel → Type 0) (f : ℕ → Pixel) → ((k : ℕ) → Is (f k)) → (first count : ℕ)
    → AllByRecursion Is (map f (range_with_len first count))
all_of Is f each first zero = tt
all_of Is f each first (suc count) = (each first, all_of Is f each (first + 1) count)

pub frames_whole : (seed : ℕ)
    → length (gen_pixels seed)
    ≡ (gen_shape seed).frames * (gen_shape seed).mode.height * (gen_shape seed).mode.width
unfolding gen_pixels gen_count
frames_whole seed = length-map-range_with_len (gen_pixel seed (gen_shape seed).mode.depth) 0 (gen_count seed)

pub pixels_in_range : (seed : ℕ)
    → AllByRecursion (InRange (depth_bits (gen_shape seed).mode.depth)) (gen_pixels seed)
unfolding gen_pixels
pixels_in_range seed = all_of _ _ (pixel_fits seed (gen_shape seed).mode.depth) 0 (gen_count seed)
