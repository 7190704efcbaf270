-- Records of pixels: this project's own.
use Rattle.std.specs.Prelude.{ℕ, List, ◌++◌, drop}
use Rattle.byteorder.specs.Endian.{big_bytes, big_number}
use Rattle.dpx_base.specs.declared.pixel.Pixel.{Pixel}

-- red, green and blue as two bytes each, the most significant first
abbrev pub pixel_record : Pixel → List ℕ
pixel_record pixel = big_bytes 2 pixel.r ++ big_bytes 2 pixel.g ++ big_bytes 2 pixel.b

abbrev pub pixel_from : List ℕ → Pixel
pixel_from bytes = record { r = big_number 2 bytes; g = big_number 2 (drop 2 bytes); b = big_number 2 (drop 4 bytes) }
