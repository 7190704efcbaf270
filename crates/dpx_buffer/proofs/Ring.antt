-- Bytes that fit a lane's ring.
use Rattle.std.proofs.Common.{◌≡◌, ℕ, ◌<◌, ◌≤◌, ◌+◌, ◌-◌, ◌*◌, List, [], ◌∷◌, ◌++◌, length, take, min, ap, arith, ◌∙◌}
use Rattle.std.proofs.Common.{length-append}
use Rattle.std.proofs.lemmas.List.{take_all, length-replicate}
use Rattle.dpx_base.specs.declared.pixel.Pixel.{Pixel}
use Rattle.dpx_pack.specs.Bits.{low_bits, bits_of_bytes, bits_of_pixel, padding}
use Rattle.dpx_pack.proofs.LowBits.{length-low_bits, length-bits_of_bytes}
use Rattle.dpx_buffer.specs.Lane.{ring_capacity}

-- all bytes were put behind where there was room for them
pub taken_all : (n capacity : ℕ) (waiting other bytes : List ℕ) → n ≡ min (length other) (capacity - length waiting)
    → capacity ≡ ring_capacity → other ≡ bytes → length waiting + length bytes ≤ ring_capacity → take n other ≡ bytes
taken_all n capacity waiting other bytes count is same few =
    take_all n other (omega (arith, count, is, ap length same, few)) ∙ same

pub length-bits_of_pixel : (c : ℕ) (p : Pixel) → length (bits_of_pixel c p) ≡ 3 * c
length-bits_of_pixel c p =
    omega (
      arith,
      length-append (low_bits c p.r ++ low_bits c p.g) (low_bits c p.b),
      length-append (low_bits c p.r) (low_bits c p.g),
      length-low_bits c p.r,
      length-low_bits c p.g,
      length-low_bits c p.b,
    )

-- how many bytes become whole
pub bytes_few : (bits more left bytes : List ℕ) → bits ++ more ≡ bits_of_bytes bytes ++ left
    → 8 * length bytes + length left ≡ length bits + length more
bytes_few bits more left bytes e =
    omega (
      arith,
      ap length e,
      length-append bits more,
      length-append (bits_of_bytes bytes) left,
      length-bits_of_bytes bytes,
    )

pub push_few : (c : ℕ) (p : Pixel) (bits left bytes : List ℕ) (w : ℕ)
    → 8 * w + length bits + 3 * c < 8 * ring_capacity + 8 → bits ++ bits_of_pixel c p ≡ bits_of_bytes bytes ++ left
    → w + length bytes ≤ ring_capacity
push_few c p bits left bytes w room e =
    omega (arith, room, bytes_few bits (bits_of_pixel c p) left bytes e, length-bits_of_pixel c p)

pub finish_few : (bits bytes : List ℕ) (w : ℕ) → length bits < 8 → 8 * w + length bits ≤ 8 * ring_capacity
    → bits ++ padding bits ≡ bits_of_bytes bytes → w + length bytes ≤ ring_capacity
finish_few [] bytes w h room e = omega (arith, room, ap length e, length-bits_of_bytes bytes)
finish_few (bit ∷ bits) bytes w h room e =
    omega (
      arith,
      h,
      room,
      ap length e,
      length-append (bit ∷ bits) (padding (bit ∷ bits)),
      length-bits_of_bytes bytes,
      length-replicate (7 - length bits) bit_zero,
    )
  where
    bit_zero : ℕ
    bit_zero = 0
