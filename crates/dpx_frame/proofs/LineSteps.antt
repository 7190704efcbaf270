-- The counters of a line and a frame, clock by clock.
use Rattle.std.proofs.Common.{ℕ, ◌+◌, ◌-◌, ◌*◌, ◌/◌, ◌%◌, ◌^◌, ◌<◌, ◌≤◌, ◌≡◌, ◌⊎◌, arith, ap, sym, refl, inl, inr}
use Rattle.std.proofs.lemmas.Bool.{cases_lt}
use Rattle.std.proofs.lemmas.Nat.{div-add-mod', mod-mul-add}
use Rattle.std.proofs.Math.Nat.{mod-lt, mul-le-mul, zero-mod}
use Rattle.dpx_base.specs.Plan.{PlanFacts, IsPlan, timing, lines, clocks}
use Rattle.dpx_base.specs.Timing.{Timing, IsPossible, floor_div, first_tick, due, start, delay, m}
use Rattle.dpx_timing.proofs.Places.{line_room}
use Rattle.dpx_timing.proofs.Sizes.{plan_possible, plan_small, m_some, m_small}
use Rattle.dpx_timing.proofs.Slots.{delay_from}
use Rattle.dpx_timing.proofs.Table.{line_within}
use Rattle.dpx_frame.specs.declared.counters.Counters.{Counters}
use Rattle.dpx_frame.specs.declared.units.Units.{Units}
use Rattle.dpx_frame.specs.Counters.{StandsAt, IsBounded, spare_of}
use Rattle.dpx_frame.specs.Units.{StandsInLine}
use Rattle.dpx_frame.proofs.Cadences.{floor_more, mod_more}

next_tick : (r : Timing) (line : ℕ) → first_tick r (line + 1) * r.symbol_clock
    ≡ first_tick r line * r.symbol_clock + r.htotal * r.symbol_clock
unfolding first_tick
next_tick r line = omega arith

pub first_blank : (r : Timing) → r.htotal - r.width ≡ first_tick r 0
unfolding first_tick
first_blank r = omega arith

-- from a line's start to the next one's
pub start_more : (r : Timing) (line : ℕ) → IsPossible r
    → start r line + (spare_of r line + r.htotal * r.symbol_clock) / r.pixel_clock ≡ start r (line + 1)
unfolding start due floor_div
start_more r line possible =
    rw (next_tick r line)
    (omega (
      arith,
      floor_more (first_tick r line * r.symbol_clock)
          (r.htotal * r.symbol_clock) r.pixel_clock possible.pixel_clock_from,
    ))

pub spare_more : (r : Timing) (line : ℕ) → IsPossible r
    → spare_of r (line + 1) ≡ (spare_of r line + r.htotal * r.symbol_clock) % r.pixel_clock
spare_more r line possible =
    rw (next_tick r line) (mod_more (first_tick r line * r.symbol_clock)
    (r.htotal * r.symbol_clock) r.pixel_clock possible.pixel_clock_from)

-- the row of the next line
pub row_stays : (v line : ℕ) → line % v + 1 < v → (line + 1) % v ≡ line % v + 1
row_stays v line h =
    let e : line + 1 ≡ line / v * v + (line % v + 1) = omega (arith, div-add-mod' line v) in
    rw e (mod-mul-add (line / v) v (line % v + 1) h)

pub row_ends : (v line : ℕ) → 1 ≤ v → line % v + 1 ≡ v → (line + 1) % v ≡ 0
row_ends v line pos h =
    let e : line + 1 ≡ (line / v + 1) * v + 0 = omega (arith, div-add-mod' line v) in
    rw e (mod-mul-add (line / v + 1) v 0 pos)

-- before the first line
pub at_first : (p : PlanFacts) (blank parts pixel wait : ℕ) (units : Units) → IsPlan p
    → blank ≡ (p.mode.htotal - p.mode.width) * (timing p).symbol_clock
    → parts ≡ p.mode.htotal * (timing p).symbol_clock → pixel ≡ p.mode.clock_khz → wait ≡ delay (timing p)
    → StandsInLine (timing p) 0 units
    → StandsAt p 0
    (record {
      before = blank / pixel + wait - 1;
      line = 0;
      row = 0;
      since = 0;
      until = (blank % pixel + parts) / pixel;
      spare = (blank % pixel + parts) % pixel;
      in_frame = 0;
      units = units;
    })
unfolding start due floor_div
at_first p blank parts pixel wait units plan eb et ep ew inside =
    let possible = plan_possible p plan in
    let first : blank ≡ first_tick (timing p) 0 * (timing p).symbol_clock = rw (eb, first_blank (timing p)) refl in
    let spare : blank % pixel ≡ spare_of (timing p) 0 = rw (first, ep) refl in
    let next : start (timing p) 0 + (blank % pixel + parts) / pixel ≡ start (timing p) 1 =
    rw (spare, et, ep) (start_more (timing p) 0 possible) in
    record {
      clock_is = rw (first, ep, ew)
          (omega (arith, delay_from (timing p) possible plan.fits (plan_small p plan).bits_from));
      before_first = λ h. omega arith;
      until_is = omega (arith, next);
      until_some = omega (arith, next, line_room (timing p) 0 possible plan.fits);
      row_is = sym (zero-mod p.mode.vtotal);
      spare_is = rw (spare, et, ep) (sym (spare_more (timing p) 0 possible));
      in_frame_is = omega arith;
      units_is = inside;
    }

-- the next line's BE, in the same frame or at the next one's begin
abbrev pub IsNextRow : PlanFacts → Counters → (row in_frame : ℕ) → Type 0
IsNextRow p c row in_frame =
    ((c.row + 1 ≡ p.mode.vtotal) × (row ≡ 0) × (in_frame ≡ 0))
    ⊎ ((c.row + 1 ≡ p.mode.vtotal → ⊥) × (row ≡ c.row + 1) × (in_frame ≡ c.in_frame + 1))

pub at_next : (p : PlanFacts) (t : ℕ) (c : Counters) (row in_frame parts pixel : ℕ) (units : Units) → IsPlan p
    → StandsAt p t c → c.before ≡ 0 → c.until ≡ 1 → IsNextRow p c row in_frame
    → parts ≡ p.mode.htotal * (timing p).symbol_clock → pixel ≡ p.mode.clock_khz → StandsInLine (timing p) 0 units
    → StandsAt p (t + 1)
    (record {
      before = c.before;
      line = c.line + 1;
      row = row;
      since = 0;
      until = (c.spare + parts) / pixel;
      spare = (c.spare + parts) % pixel;
      in_frame = in_frame;
      units = units;
    })
at_next p t c row in_frame parts pixel units plan at none last frame et ep inside =
    let possible = plan_possible p plan in
    let next : start (timing p) (c.line + 1) + (c.spare + parts) / pixel ≡ start (timing p) (c.line + 1 + 1) =
    rw (et, ep, at.spare_is) (start_more (timing p) (c.line + 1) possible) in
    record {
      clock_is = omega (arith, at.clock_is, at.until_is, none);
      before_first = λ h. omega (arith, none);
      until_is = omega (arith, next);
      until_some = omega (arith, next, line_room (timing p) (c.line + 1) possible plan.fits);
      row_is = row_next;
      spare_is = rw (et, ep, at.spare_is) (sym (spare_more (timing p) (c.line + 1) possible));
      in_frame_is = frame_next;
      units_is = inside;
    }
  where
    mode_some : 0 < p.mode.vtotal
    mode_some = omega (arith, plan.mode.vtotal)

    row_next : row ≡ (c.line + 1) % p.mode.vtotal
    row_next = elim frame [
      | inl ends ↦ rw (ends.1) (sym (row_ends p.mode.vtotal c.line (omega (arith, plan.mode.vtotal))
          (rw at.row_is at ends.0)))
      | inr stays ↦
          let below : c.line % p.mode.vtotal + 1 < p.mode.vtotal =
          omega (arith, stays.0, at.row_is, mod-lt c.line mode_some) in
          rw (stays.1, at.row_is) (sym (row_stays p.mode.vtotal c.line below))
    ]

    frame_next : start (timing p) (c.line + 1 - row) + in_frame ≡ start (timing p) (c.line + 1) + 0
    frame_next = elim frame [
      | inl ends ↦
          let e : c.line + 1 - row ≡ c.line + 1 = omega (arith, ends.1) in
          omega (arith, ap (λ z. start (timing p) z) e, ends.2)
      | inr stays ↦
          let e : c.line + 1 - row ≡ c.line - c.row = omega (arith, stays.1) in
          omega (arith, ap (λ z. start (timing p) z) e, stays.2, at.in_frame_is, at.until_is)
    ]

-- the counters of a clock that is sent are of no great size
pub at_line : (p : PlanFacts) (t : ℕ) (c : Counters) → IsPlan p → StandsAt p t c → t < clocks p → c.line < lines p
at_line p t c plan at sent = elim (cases_lt 0 c.before) [
  | inl some ↦ omega (arith, at.before_first some, mul-le-mul plan.frames.0 mode_some)
  | inr none ↦ line_within p t c.line plan (omega (arith, at.clock_is)) sent
]
  where
    mode_some : 1 ≤ p.mode.vtotal
    mode_some = omega (arith, plan.mode.vtotal)

pub at_sound : (p : PlanFacts) (t : ℕ) (c : Counters) → IsPlan p → StandsAt p t c → t < clocks p → clocks p < 2 ^ 58
    → IsBounded c
at_sound p t c plan at sent small = record {
  line_to = omega (arith, at_line p t c plan at sent, mul-le-mul plan.frames.1 plan.mode.vtotal.1);
  row_to = omega (arith, at.row_is, mod-lt c.line mode_some, plan.mode.vtotal);
  since_to = since_to (cases_lt 0 c.before);
  in_frame_to = in_frame_to (cases_lt 0 c.before);
  until_from = at.until_some;
  spare_to = omega (
    arith,
    at.spare_is,
    mod-lt (first_tick (timing p) (c.line + 1) * (timing p).symbol_clock)
        (possible.pixel_clock_from),
    plan.mode.clock_khz,
  );
  rest_to = omega (arith, at.units_is.rest_is, rest_to, m_small p plan);
  place_to = omega (arith, at.units_is.place_is, mod-lt (c.since - 1) possible.unit_from, plan.unit);
}
  where
    possible : IsPossible (timing p)
    possible = plan_possible p plan

    mode_some : 1 ≤ p.mode.vtotal
    mode_some = omega (arith, plan.mode.vtotal)

    rest_to : c.units.rest < m (timing p)
    rest_to = rw at.units_is.rest_is (mod-lt _ (m_some p plan))

    since_to : (0 < c.before) ⊎ (c.before ≤ 0) → c.since < 2 ^ 62
    since_to (inl some) = omega (arith, at.before_first some)
    since_to (inr none) = omega (arith, at.clock_is)

    in_frame_to : (0 < c.before) ⊎ (c.before ≤ 0) → c.in_frame < 2 ^ 62
    in_frame_to (inl some) =
        let e : c.line - c.row ≡ c.line = omega (arith, at.before_first some) in
        omega (arith, at.before_first some, at.in_frame_is, ap (λ z. start (timing p) z) e)
    in_frame_to (inr none) = omega (arith, at.clock_is, at.in_frame_is)
