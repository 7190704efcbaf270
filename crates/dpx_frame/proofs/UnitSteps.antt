-- The counters of a unit, clock by clock.
use Rattle.std.proofs.Common.{ℕ, ◌+◌, ◌-◌, ◌*◌, ◌/◌, ◌%◌, ◌<◌, ◌≤◌, ◌≡◌, arith, min}
use Rattle.std.proofs.Math.Nat.{mod-lt, zero-div, zero-mod}
use Rattle.std.proofs.lemmas.Nat.{div-add-mod', div-mul-add, mod-mul-add}
use Rattle.dpx_base.specs.Slots.{unit_symbols}
use Rattle.dpx_base.specs.Timing.{Timing, IsPossible, floor_div, symbols, carried, n, m}
use Rattle.dpx_frame.specs.declared.units.Units.{Units}
use Rattle.dpx_frame.specs.Units.{StandsInLine}
use Rattle.dpx_frame.proofs.Cadences.{unit_more, carried_more, rest_more}

-- clock i of unit k
pub in_unit : (r : Timing) (k i : ℕ) (c : Units) → i < r.unit → c.place ≡ i → c.symbols ≡ unit_symbols r k
    → c.left ≡ symbols r - carried r (k + 1) → c.rest ≡ ((k + 1) * r.unit * n r) % m r
    → StandsInLine r (k * r.unit + i) c
in_unit r k i c h place count left rest = record {
  place_is = rw (mod-mul-add k r.unit i h) place;
  symbols_is = rw (div-mul-add k r.unit i h) count;
  left_is = rw (div-mul-add k r.unit i h) left;
  rest_is = rw (div-mul-add k r.unit i h) rest;
}

-- the first clock of unit k, from what the units before it left
pub unit_behind : (r : Timing) (k left rest unit number whole count : ℕ) → IsPossible r
    → unit ≡ r.unit → number ≡ n r → whole ≡ m r → left ≡ symbols r - carried r k → rest ≡ (k * r.unit * n r) % m r
    → count ≡ min left ((rest + unit * number) / whole)
    → StandsInLine r (k * r.unit)
    (record { place = 0; symbols = count; left = left - count; rest = (rest + unit * number) % whole })
unit_behind r k left rest unit number whole count possible eu en em el er ec =
    let w : k * r.unit + 0 ≡ k * r.unit = omega arith in
    let due : rest + unit * number ≡ (k * r.unit * n r) % m r + r.unit * n r = rw (er, eu, en) in
    let same : count ≡ unit_symbols r k = rw (unit_more r k possible, ← due, ← em, ← el) ec in
    rw (← w)
    (in_unit r k 0 (record { place = 0; symbols = count; left = left - count; rest = (rest + unit * number) % whole })
    possible.unit_from (omega arith) same
    (rw (el, carried_more r k possible, ← unit_more r k possible, same) (omega arith))
    (rw (rest_more r k possible, due, em)))

-- the clock stays in its unit, or begins the next
pub place_stays : (r : Timing) (w : ℕ) → w % r.unit + 1 < r.unit
    → ((w + 1) / r.unit ≡ w / r.unit) × ((w + 1) % r.unit ≡ w % r.unit + 1)
place_stays r w h =
    let e : w + 1 ≡ w / r.unit * r.unit + (w % r.unit + 1) = omega (arith, div-add-mod' w r.unit) in (
      rw e (div-mul-add (w / r.unit) r.unit (w % r.unit + 1) h),
      rw e (mod-mul-add (w / r.unit) r.unit (w % r.unit + 1) h),
    )

pub unit_next : (r : Timing) (w : ℕ) → 1 ≤ r.unit → r.unit ≤ w % r.unit + 1 → (w / r.unit + 1) * r.unit ≡ w + 1
unit_next r w pos h = omega (arith, div-add-mod' w r.unit, mod-lt w pos)

-- nothing is carried before unit 0
pub carried_first : (r : Timing) → symbols r - carried r 0 ≡ symbols r
unfolding carried floor_div
carried_first r =
    let e : 0 * r.unit * n r ≡ 0 = omega arith in
    let z : 0 * r.unit * n r / m r ≡ 0 = rw e (zero-div (m r)) in
    omega (arith, z)

pub no_rest : (r : Timing) → (0 * r.unit * n r) % m r ≡ 0
no_rest r =
    let e : 0 * r.unit * n r ≡ 0 = omega arith in
    rw e (zero-mod (m r))

pub unit_stays : (r : Timing) (w : ℕ) (c : Units) → StandsInLine r w c → c.place + 1 < r.unit
    → StandsInLine r (w + 1) (record c { place = c.place + 1 })
unit_stays r w c h inside =
    let stays : ((w + 1) / r.unit ≡ w / r.unit) × ((w + 1) % r.unit ≡ w % r.unit + 1) =
    place_stays r w (rw h.place_is at inside) in
    record {
      place_is = omega (arith, stays.1, h.place_is);
      symbols_is = rw stays.0 h.symbols_is;
      left_is = rw stays.0 h.left_is;
      rest_is = rw stays.0 h.rest_is;
    }
