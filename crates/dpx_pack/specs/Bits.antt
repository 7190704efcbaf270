-- Numbers, pixels and bytes as bits: VESA DisplayPort 1.4a, main link. The padding is this project's own.
use Rattle.std.specs.Prelude.{ℕ, zero, suc, ◌-◌, ◌/◌, ◌%◌, List, [], ◌∷◌, ◌++◌, length, replicate}
use Rattle.dpx_base.specs.declared.pixel.Pixel.{Pixel}

-- the n low bits of a number, the highest first
unfoldable pub low_bits : (n number : ℕ) → List ℕ
low_bits zero number = []
low_bits (suc n) number = low_bits n (number / 2) ++ (number % 2) ∷ []

-- the n low bytes of a number, the highest first
unfoldable pub low_bytes : (n number : ℕ) → List ℕ
low_bytes zero number = []
low_bytes (suc n) number = low_bytes n (number / 256) ++ (number % 256) ∷ []

-- the bits of bytes, each with its highest first
unfoldable pub bits_of_bytes : List ℕ → List ℕ
bits_of_bytes [] = []
bits_of_bytes (byte ∷ bytes) = low_bits 8 byte ++ bits_of_bytes bytes

-- the bits of a pixel: red, green, blue, each with its highest first
abbrev pub bits_of_pixel : (depth : ℕ) → Pixel → List ℕ
bits_of_pixel depth pixel = low_bits depth pixel.r ++ low_bits depth pixel.g ++ low_bits depth pixel.b

-- the zeros that fill bits up to a whole byte
abbrev pub padding : List ℕ → List ℕ
padding [] = []
padding (bit ∷ bits) = replicate (7 - length bits) 0
