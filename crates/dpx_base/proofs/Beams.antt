-- The ticks before a clock are those that were scanned.
use Rattle.std.proofs.Common.{ℕ, suc, ◌+◌, ◌-◌, ◌*◌, ◌/◌, ◌^◌, ◌<◌, ◌≤◌, ◌≡◌, arith, ap, refl, ◌∙◌}
use Rattle.std.proofs.Math.Nat.{zero-add, mul-le-mul_left, le_of_mul-le-mul_left, lt_of_mul-lt-mul_left, mul-div-le}
use Rattle.std.proofs.Math.Nat.{div-lt_iff_lt-mul, le-div_iff_mul-le}
use Rattle.dpx_base.specs.declared.depth.Depth.{Depth}
use Rattle.dpx_base.specs.declared.depth.Depth.TheVariants.{Six, Eight, Ten, Twelve, Sixteen}
use Rattle.dpx_base.specs.declared.lanes.Lanes.{Lanes}
use Rattle.dpx_base.specs.declared.lanes.Lanes.TheVariants.{One, Two, Four}
use Rattle.dpx_base.specs.declared.link.Link.{Link}
use Rattle.dpx_base.specs.declared.rate.Rate.{Rate}
use Rattle.dpx_base.specs.declared.rate.Rate.TheVariants.{Rbr, Hbr, Hbr2, Hbr3}
use Rattle.dpx_base.specs.Beam.{Shown, IsCarried, pixels_among, ticks_before, pixels_before, pixels_in}
use Rattle.dpx_base.specs.Lanes.{lanes_count}
use Rattle.dpx_base.specs.Mode.{ModeFacts, pixel_bits}
use Rattle.dpx_base.specs.Rate.{rate_clock_khz}
use Rattle.dpx_base.specs.Scan.{Scanned, Beaming, IsBeam}
use Rattle.dpx_base.specs.Timing.{floor_div}
use Rattle.dpx_base.proofs.Pixels.{pixels_join, pixels_none}

floor_is : (a d z : ℕ) → d * z ≤ a → a < d * z + d → floor_div a d ≡ z
unfolding floor_div
floor_is a d z low high =
    let pos : 0 < d = omega arith in
    let up : z ≤ a / d = (le-div_iff_mul-le pos).1 (omega arith) in
    let down : a / d < suc z = (div-lt_iff_lt-mul pos).1 (omega arith) in
    omega arith

depth_from : (depth : Depth) → 18 ≤ pixel_bits depth
depth_from Six = omega arith
depth_from Eight = omega arith
depth_from Ten = omega arith
depth_from Twelve = omega arith
depth_from Sixteen = omega arith

lanes_to : (lanes : Lanes) → lanes_count lanes ≤ 4
lanes_to One = omega arith
lanes_to Two = omega arith
lanes_to Four = omega arith

pub clock_from : (rate : Rate) → 162000 ≤ rate_clock_khz rate
clock_from Rbr = omega arith
clock_from Hbr = omega arith
clock_from Hbr2 = omega arith
clock_from Hbr3 = omega arith

pub clock_to : (rate : Rate) → rate_clock_khz rate ≤ 810000
clock_to Rbr = omega arith
clock_to Hbr = omega arith
clock_to Hbr2 = omega arith
clock_to Hbr3 = omega arith

few : (f bits lanes g : ℕ) → 18 ≤ bits → lanes ≤ 4 → f * bits ≤ 8 * lanes * g → f ≤ 2 * g
few f bits lanes g b l h =
    let x : f * 18 ≤ f * bits = mul-le-mul_left f b in
    let y : g * lanes ≤ g * 4 = mul-le-mul_left g l in
    omega (arith, x, y, h)

-- no clock has more than two ticks
pub two_ticks : (mode : ModeFacts) (link : Link) → IsCarried mode link → mode.clock_khz ≤ 2 * rate_clock_khz link.rate
two_ticks mode link h = few _ _ _ _ (depth_from mode.depth) (lanes_to link.lanes) h

now_is : (b : Beaming) (s : Scanned) (spare : ℕ) → IsBeam b s spare → ticks_before b.shown b.clock ≡ s.tick
unfolding ticks_before
now_is b s spare beam =
    floor_is (b.clock * b.shown.mode.clock_khz) (rate_clock_khz b.shown.link.rate) s.tick (omega (arith, beam.spare_is))
    (omega (arith, beam.spare_is, beam.spare_below))

-- a clock on, where the next ticks leave this rest
pub record IsDue (b : Beaming) (spare ticks rest : ℕ) : Type 0 where
  pub below : rest < rate_clock_khz b.shown.link.rate
  pub due : spare + b.shown.mode.clock_khz ≡ rate_clock_khz b.shown.link.rate * ticks + rest

next_is : (b : Beaming) (s : Scanned) (spare ticks rest : ℕ) → IsBeam b s spare → IsDue b spare ticks rest
    → ticks_before b.shown (b.clock + 1) ≡ s.tick + ticks
unfolding ticks_before
next_is b s spare ticks rest beam due =
    floor_is ((b.clock + 1) * b.shown.mode.clock_khz) (rate_clock_khz b.shown.link.rate) (s.tick + ticks)
    (omega (arith, beam.spare_is, due.due)) (omega (arith, beam.spare_is, due.due, due.below))

pub pixels_due : (b : Beaming) (s : Scanned) (spare ticks rest : ℕ) → IsBeam b s spare → IsDue b spare ticks rest
    → pixels_in b.shown b.clock ≡ pixels_among s.mode s.frames s.tick ticks
unfolding pixels_in
pixels_due b s spare ticks rest beam due =
    let now = now_is b s spare beam in
    let d : ticks_before b.shown (b.clock + 1) - ticks_before b.shown b.clock ≡ ticks =
    omega (arith, now, next_is b s spare ticks rest beam due) in
    rw (d, now, beam.mode, beam.frames) refl

pub due_within : (b : Beaming) (spare f g ticks : ℕ) → f ≡ b.shown.mode.clock_khz → g ≡ rate_clock_khz b.shown.link.rate
    → g * ticks ≤ spare + f → spare + f < g * ticks + g → IsDue b spare ticks (spare + f - g * ticks)
due_within b spare f g ticks f_is g_is below whole = record {
  below = rw (← g_is) (omega (arith, below, whole));
  due = rw (← f_is, ← g_is) (omega (arith, below));
}

pub few_ticks : (b : Beaming) (s : Scanned) (spare ticks rest : ℕ) → IsBeam b s spare → IsDue b spare ticks rest
    → ticks ≤ 2
few_ticks b s spare ticks rest beam due =
    let less : rate_clock_khz b.shown.link.rate * ticks < rate_clock_khz b.shown.link.rate * 3 =
    omega (arith, due.due, beam.two, beam.spare_below) in
    omega (arith, lt_of_mul-lt-mul_left (rate_clock_khz b.shown.link.rate) less)

ticks_small : (b : Beaming) (s : Scanned) (spare : ℕ) → IsBeam b s spare → s.tick ≤ 2 * b.clock
ticks_small b s spare beam =
    let x : b.clock * b.shown.mode.clock_khz ≤ b.clock * (2 * rate_clock_khz b.shown.link.rate) =
    mul-le-mul_left b.clock beam.two in
    le_of_mul-le-mul_left {k = rate_clock_khz b.shown.link.rate} (omega (arith, beam.spare_is, x))
    (omega (arith, clock_from b.shown.link.rate))

pub room : (b : Beaming) (s : Scanned) (spare ticks rest : ℕ) → IsBeam b s spare → IsDue b spare ticks rest
    → b.clock < 2 ^ 62 → s.tick + ticks ≤ 2 ^ 63
room b s spare ticks rest beam due less = omega
    (arith, few_ticks b s spare ticks rest beam due, ticks_small b s spare beam, less)

pub next_beam : (b : Beaming) (s t : Scanned) (spare ticks rest : ℕ) → IsBeam b s spare → IsDue b spare ticks rest
    → t ≡ record s { tick = s.tick + ticks } → IsBeam (record b { clock = b.clock + 1 }) t rest
next_beam b s t spare ticks rest beam due e = rw e (record {
  mode = beam.mode;
  frames = beam.frames;
  spare_below = due.below;
  spare_is = omega (arith, beam.spare_is, due.due);
  two = beam.two;
})

floor_rises : (a c d : ℕ) → 0 < d → a ≤ c → floor_div a d ≤ floor_div c d
unfolding floor_div
floor_rises a c d pos h = (le-div_iff_mul-le pos).1 (omega (arith, mul-div-le a d))

pub ticks_rise : (s : Shown) (clock : ℕ) → ticks_before s clock ≤ ticks_before s (clock + 1)
unfolding ticks_before
ticks_rise s clock = floor_rises _ _ _ (omega (arith, clock_from s.link.rate)) (omega arith)

-- the pixels before the next clock are those before this one and those in it
pub pixels_step : (s : Shown) (clock : ℕ) → pixels_before s (clock + 1) ≡ pixels_before s clock + pixels_in s clock
unfolding pixels_before pixels_in
pixels_step s clock =
    let first = ticks_before s clock in
    let count = ticks_before s (clock + 1) - ticks_before s clock in
    let e : ticks_before s (clock + 1) ≡ first + count = omega (arith, ticks_rise s clock) in
    let f : ℕ → ℕ = λ z. pixels_among s.mode s.frames z count in
    ap (pixels_among s.mode s.frames 0) e
    ∙ pixels_join s.mode s.frames 0 first count
    ∙ ap (λ z. pixels_among s.mode s.frames 0 first + z) (ap f (zero-add first))

pub pixels_first : (s : Shown) → pixels_before s 0 ≡ 0
unfolding pixels_before ticks_before
pixels_first s =
    rw (floor_is (0 * s.mode.clock_khz) (rate_clock_khz s.link.rate) 0 (omega arith)
    (omega (arith, clock_from s.link.rate)))
    (pixels_none s.mode s.frames 0)
