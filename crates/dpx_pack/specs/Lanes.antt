-- What the packer and the unpacker of a lane stand for: the pixels, or the bytes, of a line that they have taken.
use Rattle.std.specs.Prelude.{ℕ, ◌≡◌, ◌+◌, ◌-◌, ◌*◌, ◌/◌, nat_lt, if◌then◌else◌}
use Rattle.std.specs.Prelude.{List, [], ◌∷◌, ◌++◌, length, slice_index, slice_index_or, Option, Some, None}
use Rattle.dpx_base.specs.declared.pixel.Pixel.{Pixel}
use Rattle.dpx_base.specs.Packing.{Line, line_bit, line_byte}
use Rattle.dpx_base.specs.Sets.{black}
use Rattle.dpx_base.specs.Timing.{symbols_of}
use Rattle.dpx_base.specs.Unpacking.{carried_bit, carried_pixel}
use Rattle.dpx_pack.specs.Positions.{span}

-- the line of these pixels
abbrev pub line_of : List Pixel → (lanes depth : ℕ) → Line
line_of pixels lanes depth =
    record { width = length pixels; lanes = lanes; depth = depth; pixel = λ x. slice_index_or pixels x black }

-- the pixels of a lane, as a line on that lane alone
abbrev pub lane_line : (depth : ℕ) → List Pixel → Line
lane_line depth pixels = line_of pixels 1 depth

-- the bytes that so many pixels make whole
abbrev pub whole_byte_count : (depth count : ℕ) → ℕ
whole_byte_count depth count = count * (3 * depth) / 8

-- these bits are left of these pixels: those behind the last whole byte
abbrev pub LeftOfPixels : (depth : ℕ) → List Pixel → (left : List ℕ) → Type 0
LeftOfPixels depth pixels left =
    let count = length pixels in
    left ≡ span (line_bit (lane_line depth pixels) 0)
    (8 * whole_byte_count depth count) (count * (3 * depth) - 8 * whole_byte_count depth count)

-- the bytes of the lane's line from the first that these pixels leave open up to the one before `end`
abbrev pub bytes_from : (depth : ℕ) → (taken pixels : List Pixel) → (end : ℕ) → List ℕ
bytes_from depth taken pixels end =
    let start = whole_byte_count depth (length taken) in
    span (line_byte (lane_line depth pixels) 0) start (end - start)

-- the bytes that a pixel behind these makes whole
abbrev pub bytes_made_whole : (depth : ℕ) → List Pixel → Pixel → List ℕ
bytes_made_whole depth pixels pixel =
    bytes_from depth pixels (pixels ++ pixel ∷ []) (whole_byte_count depth (length pixels + 1))

-- the bytes at the end of a line: the one that is padded, if these pixels leave one open
abbrev pub last_bytes : (depth : ℕ) → List Pixel → List ℕ
last_bytes depth pixels = bytes_from depth pixels pixels (symbols_of (length pixels) 1 (3 * depth))

-- the pixels that so many bytes make whole
abbrev pub whole_pixel_count : (depth count : ℕ) → ℕ
whole_pixel_count depth count = 8 * count / (3 * depth)

-- these bits are left of these bytes: those behind the last whole pixel
abbrev pub LeftOfBytes : (depth : ℕ) → (bytes left : List ℕ) → Type 0
LeftOfBytes depth bytes left =
    let start = 3 * depth * whole_pixel_count depth (length bytes) in
    left ≡ span (carried_bit (λ j. slice_index bytes j)) start (8 * length bytes - start)

-- the pixel that a byte behind these completes, if it completes one
abbrev pub pixel_completed : (depth : ℕ) → (bytes : List ℕ) → (byte : ℕ) → Option Pixel
pixel_completed depth bytes byte =
    let k = whole_pixel_count depth (length bytes) in
    if nat_lt k (whole_pixel_count depth (length bytes + 1))
    then Some (carried_pixel depth (λ j. slice_index (bytes ++ byte ∷ []) j) k)
    else None
