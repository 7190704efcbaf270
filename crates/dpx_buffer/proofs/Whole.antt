-- Whole bytes among the pixels of a line and of all lines.
use Rattle.std.proofs.Common.{◌≡◌, ℕ, suc, ◌<◌, ◌≤◌, ◌+◌, ◌*◌, refl}
use Rattle.std.proofs.Common.{arith, inl, inr}
use Rattle.std.proofs.lemmas.Bool.{cases_lt}
use Rattle.std.proofs.lemmas.Nat.{div-mul-add, mod-mul-add}
use Rattle.std.proofs.Math.Nat.{mul-le-mul_right, mul-le-mul_left}
use Rattle.dpx_base.specs.Timing.{Timing, IsPossible, symbols, floor_div, ceil_div}
use Rattle.dpx_buffer.specs.Buffer.{bytes_whole}
use Rattle.dpx_timing.proofs.Steps.{ceil_is}
use Rattle.dpx_timing.proofs.Floors.{floor_low, floor_high, floor_is, ceil_high}
use Rattle.dpx_buffer.specs.Buffer.{group_bits}
use Rattle.dpx_buffer.proofs.Packed.{IsWhole}

pub is_whole : (bits : ℕ) → IsWhole bits (floor_div bits 8)
is_whole bits = record { low = floor_low bits 8; high = floor_high bits 8 (omega arith) }

-- whole bytes of an unfinished line
pub whole_at : (r : Timing) (i a : ℕ) → a < r.width
    → bytes_whole r (i * r.width + a) ≡ i * symbols r + floor_div (group_bits r a) 8
unfolding bytes_whole
whole_at r i a h = rw (div-mul-add i r.width a h, mod-mul-add i r.width a h) refl

-- and of whole lines
pub whole_line : (r : Timing) (i : ℕ) → IsPossible r → bytes_whole r (i * r.width) ≡ i * symbols r
whole_line r i legal =
    let e : i * r.width ≡ i * r.width + 0 = omega arith in
    let g : floor_div 0 r.lanes ≡ 0 = floor_is 0 r.lanes 0 (omega arith) (omega (arith, legal.lanes_from)) in
    let z : floor_div 0 r.lanes * r.bits ≡ 0 = rw g (omega arith) in
    let b : floor_div (floor_div 0 r.lanes * r.bits) 8 ≡ 0 =
    floor_is (floor_div 0 r.lanes * r.bits) 8 0 (omega arith) (omega (arith, z)) in
    rw e (omega (arith, whole_at r i 0 legal.width_from, b))

-- the groups of a line fill its bytes, up to the last
pub line_bytes : (r : Timing) (groups : ℕ) → IsPossible r → r.width ≤ r.lanes * groups
    → r.lanes * groups < r.width + r.lanes
    → symbols r ≡ ceil_div (groups * r.bits) 8
unfolding symbols
line_bytes r groups legal high low =
    rw (ceil_is r.width r.lanes groups high low) refl

-- bytes of an unfinished line are fewer than the line's
pub part_few : (r : Timing) (a : ℕ) → IsPossible r → a < r.width → floor_div (group_bits r a) 8 ≤ symbols r
unfolding symbols
part_few r a legal h =
    let g : floor_div a r.lanes ≤ ceil_div r.width r.lanes = groups_few in
    let b : floor_div a r.lanes * r.bits ≤ ceil_div r.width r.lanes * r.bits = mul-le-mul_right r.bits g in
    omega (
      arith,
      b,
      floor_low (floor_div a r.lanes * r.bits) 8,
      ceil_high (ceil_div r.width r.lanes * r.bits) 8 (omega arith),
    )
  where
    groups_few : floor_div a r.lanes ≤ ceil_div r.width r.lanes
    groups_few = elim (cases_lt (ceil_div r.width r.lanes) (floor_div a r.lanes)) [
      | inl more ↦ absurd (omega (
        arith,
        more,
        h,
        floor_low a r.lanes,
        ceil_high r.width r.lanes legal.lanes_from,
        mul-le-mul_left {m = suc (ceil_div r.width r.lanes)} {n = floor_div a r.lanes} r.lanes more,
      ))
      | inr few ↦ few
    ]
