-- Lines in order: their pixels arrive one line after the other, and so do their bytes.
use Rattle.std.proofs.Common.{ℕ, zero, suc, ◌+◌, ◌*◌, ◌<◌, ◌≤◌, ◌≡◌, arith, inl, inr, refl}
use Rattle.std.proofs.Math.Nat.{mul-le-mul_right}
use Rattle.std.proofs.lemmas.Bool.{cases_lt}
use Rattle.std.proofs.lemmas.Nat.{div-mul-add, mod-mul-add}
use Rattle.dpx_base.specs.Timing.{Timing, IsPossible, IsFit, floor_div, symbols, ticks, first_tick, arrived}
use Rattle.dpx_base.specs.Timing.{arrived_bytes, place, sent}
use Rattle.dpx_source.specs.LineSums.{total}
use Rattle.dpx_buffer.specs.Buffer.{bytes_whole}
use Rattle.dpx_timing.proofs.Floors.{floor_rises, floor_is}
use Rattle.dpx_timing.proofs.Short.{bytes_part, arrived_most, line_never_short}
use Rattle.dpx_timing.proofs.Short.{bytes_whole as whole_line}
use Rattle.dpx_timing.proofs.Over.{bytes_most}
use Rattle.dpx_timing.proofs.Holds.{sent_out, sent_all}
use Rattle.dpx_source.proofs.Sums.{total_full, total_more}

pub ticks_rise : (r : Timing) (t u : ℕ) → IsPossible r → t ≤ u → ticks r t ≤ ticks r u
unfolding ticks
ticks_rise r t u legal h =
    floor_rises (t * r.pixel_clock) (u * r.pixel_clock) r.symbol_clock legal.symbol_clock_from
    (mul-le-mul_right r.pixel_clock h)

pub arrived_rises : (r : Timing) (line t u : ℕ) → IsPossible r → t ≤ u → arrived r line t ≤ arrived r line u
unfolding arrived
arrived_rises r line t u legal h = omega (arith, ticks_rise r t u legal h)

pub bytes_rise : (r : Timing) (line t u : ℕ) → IsPossible r → t ≤ u → arrived_bytes r line t ≤ arrived_bytes r line u
bytes_rise r line t u legal h = elim (cases_lt (arrived r line u) r.width) [
  | inl part ↦
      let a : arrived r line t ≤ arrived r line u = arrived_rises r line t u legal h in
      let g : floor_div (arrived r line t) r.lanes ≤ floor_div (arrived r line u) r.lanes =
      floor_rises (arrived r line t) (arrived r line u) r.lanes legal.lanes_from a in
      let b : floor_div (floor_div (arrived r line t) r.lanes * r.bits) 8 ≤ floor_div
      (floor_div (arrived r line u) r.lanes * r.bits) 8 =
      floor_rises (floor_div (arrived r line t) r.lanes * r.bits) (floor_div (arrived r line u) r.lanes * r.bits) 8
      (omega arith) (mul-le-mul_right r.bits g) in
      omega (arith, b, bytes_part r line t (omega (arith, a, part)), bytes_part r line u part)
  | inr whole ↦
      omega (arith, bytes_most r line t legal, whole_line r line u (omega (arith, arrived_most r line u, whole)))
]

-- no more has gone out than has arrived
pub sent_few : (r : Timing) (line t : ℕ) → IsPossible r → IsFit r → sent r line t ≤ arrived_bytes r line t
sent_few r line t legal fit = few (sent r line t) refl
  where
    few : (s : ℕ) → s ≡ sent r line t → s ≤ arrived_bytes r line t
    few zero e = omega arith
    few (suc s) e =
        let out : place r line s < t = sent_out r line t s legal fit (omega (arith, e)) in
        omega (
          arith,
          line_never_short r line s legal fit (omega (arith, e, sent_all r line t)),
          bytes_rise r line (place r line s) t legal (omega (arith, out)),
        )

-- where a later line has a pixel, an earlier one has them all
pub arrived_in_order : (r : Timing) (line later t : ℕ) → IsPossible r → line < later → 0 < arrived r later t
    → arrived r line t ≡ r.width
unfolding arrived first_tick
arrived_in_order r line later t legal h some =
    omega (arith, mul-le-mul_right {m = suc line} {n = later} r.htotal h, legal.width_to)

pub no_bytes : (r : Timing) (line t : ℕ) → IsPossible r → arrived r line t ≡ 0 → arrived_bytes r line t ≡ 0
no_bytes r line t legal h =
    let a : floor_div (arrived r line t) r.lanes ≡ 0 =
    floor_is (arrived r line t) r.lanes 0 (omega arith) (omega (arith, h, legal.lanes_from)) in
    let z : floor_div (arrived r line t) r.lanes * r.bits ≡ 0 = rw a (omega arith) in
    let b : floor_div (floor_div (arrived r line t) r.lanes * r.bits) 8 ≡ 0 =
    floor_is (floor_div (arrived r line t) r.lanes * r.bits) 8 0 (omega arith) (omega (arith, z)) in
    omega (arith, b, bytes_part r line t (omega (arith, h, legal.width_from)))

pub whole_part : (r : Timing) (i a : ℕ) → a < r.width
    → bytes_whole r (i * r.width + a) ≡ i * symbols r + floor_div (floor_div a r.lanes * r.bits) 8
unfolding bytes_whole
whole_part r i a h = rw (div-mul-add i r.width a h, mod-mul-add i r.width a h) refl

pub whole_lines : (r : Timing) (i : ℕ) → IsPossible r → bytes_whole r (i * r.width) ≡ i * symbols r
whole_lines r i legal =
    let e : i * r.width ≡ i * r.width + 0 = omega arith in
    let g : floor_div 0 r.lanes ≡ 0 = floor_is 0 r.lanes 0 (omega arith) (omega (arith, legal.lanes_from)) in
    let z : floor_div 0 r.lanes * r.bits ≡ 0 = rw g (omega arith) in
    let b : floor_div (floor_div 0 r.lanes * r.bits) 8 ≡ 0 =
    floor_is (floor_div 0 r.lanes * r.bits) 8 0 (omega arith) (omega (arith, z)) in
    rw e (omega (arith, whole_part r i 0 legal.width_from, b))

-- The bytes that the pixels of all lines make whole are the bytes of the lines.
pub bytes_of_all : (r : Timing) (line : ℕ → ℕ) (m t : ℕ) → IsPossible r → ((i k : ℕ) → i < k → line i < line k)
    → bytes_whole r (total (λ i. arrived r (line i) t) m) ≡ total (λ i. arrived_bytes r (line i) t) m
bytes_of_all r line zero t legal rise =
    let a : total (λ i. arrived r (line i) t) 0 ≡ 0 * r.width =
    total_full (λ i. arrived r (line i) t) r.width 0 (λ i h. absurd (omega (arith, h))) in
    let b : total (λ i. arrived_bytes r (line i) t) 0 ≡ 0 * symbols r =
    total_full (λ i. arrived_bytes r (line i) t) (symbols r) 0 (λ i h. absurd (omega (arith, h))) in
    rw a (omega (arith, b, whole_lines r 0 legal))
bytes_of_all r line (suc m) t legal rise = elim (cases_lt 0 (arrived r (line m) t)) [
  | inl some ↦
      let full : (i : ℕ) → i < m → arrived r (line i) t ≡ r.width =
      λ i h. arrived_in_order r (line i) (line m) t legal (rise i m h) some in
      let ps : total (λ i. arrived r (line i) t) m ≡ m * r.width =
      total_full (λ i. arrived r (line i) t) r.width m full in
      let bs : total (λ i. arrived_bytes r (line i) t) m ≡ m * symbols r =
      total_full (λ i. arrived_bytes r (line i) t) (symbols r) m (λ i h. whole_line r (line i) t (full i h)) in
      last (arrived r (line m) t) refl ps bs
  | inr none ↦
      let zero_ : arrived r (line m) t ≡ 0 = omega (arith, none) in
      let e : total (λ i. arrived r (line i) t) (suc m) ≡ total (λ i. arrived r (line i) t) m =
      omega (arith, total_more (λ i. arrived r (line i) t) m, zero_) in
      rw e (omega (
        arith,
        bytes_of_all r line m t legal rise,
        total_more (λ i. arrived_bytes r (line i) t) m,
        no_bytes r (line m) t legal zero_,
      ))
]
  where
    last : (a : ℕ) → a ≡ arrived r (line m) t → total (λ i. arrived r (line i) t) m ≡ m * r.width
        → total (λ i. arrived_bytes r (line i) t) m ≡ m * symbols r
        → bytes_whole r (total (λ i. arrived r (line i) t) (suc m)) ≡ total (λ i. arrived_bytes r (line i) t) (suc m)
    last a is ps bs = elim (cases_lt a r.width) [
      | inl part ↦
          let e : total (λ i. arrived r (line i) t) (suc m) ≡ m * r.width + a =
          omega (arith, total_more (λ i. arrived r (line i) t) m, ps, is) in
          let b : arrived_bytes r (line m) t ≡ floor_div (floor_div a r.lanes * r.bits) 8 =
          rw is (bytes_part r (line m) t (omega (arith, is, part))) in
          rw e (omega (arith, whole_part r m a part, total_more (λ i. arrived_bytes r (line i) t) m, bs, b))
      | inr whole ↦
          let w : a ≡ r.width = omega (arith, arrived_most r (line m) t, is, whole) in
          let e : total (λ i. arrived r (line i) t) (suc m) ≡ suc m * r.width =
          omega (arith, total_more (λ i. arrived r (line i) t) m, ps, is, w) in
          rw e (omega (
            arith,
            whole_lines r (suc m) legal,
            total_more (λ i. arrived_bytes r (line i) t) m,
            bs,
            whole_line r (line m) t (omega (arith, is, w)),
          ))
    ]
