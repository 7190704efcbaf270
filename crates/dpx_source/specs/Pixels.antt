-- Pixels out of range: this project's own.
use Rattle.std.specs.Prelude.{ℕ, ◌+◌, ◌^◌, nat_le, find, List, [], ◌∷◌, Option, Some, None, Result, Ok, Err}
use Rattle.dpx_base.specs.declared.pixel.Pixel.{Pixel}
use Rattle.dpx_source.specs.declared.bad_pixel.BadPixel.{BadPixel}

-- the first component that is no number of so many bits
abbrev pub bad_value : (depth : ℕ) → Pixel → Option ℕ
bad_value depth pixel = find (λ value. nat_le (2 ^ depth) value) (pixel.r ∷ pixel.g ∷ pixel.b ∷ [])

-- the pixel of this number with this bad value, or what comes later
abbrev pub bad_or_later : (number : ℕ) → Option ℕ → (later : Option BadPixel) → Option BadPixel
bad_or_later number None later = later
bad_or_later number (Some value) later = Some (record { number = number; value = value })

-- the first pixel with a bad value, where the first of these has this number
abbrev pub first_bad : (depth number : ℕ) → List Pixel → Option BadPixel
first_bad depth number [] = None
first_bad depth number (pixel ∷ pixels) =
    bad_or_later number (bad_value depth pixel) (first_bad depth (number + 1) pixels)

-- a refusal, where there is one
abbrev pub refused_with : Option BadPixel → Result Unit BadPixel
refused_with None = Ok tt
refused_with (Some bad) = Err bad
