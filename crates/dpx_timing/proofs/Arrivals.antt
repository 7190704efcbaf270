-- How the ticks of a beam are the arrivals of lines.
use Rattle.std.proofs.Common.{ℕ, ◌-◌, ◌*◌, ◌/◌, ◌%◌, ◌<◌, ◌≡◌, arith, ap, refl}
use Rattle.std.proofs.lemmas.Nat.{div-add-mod'}
use Rattle.std.proofs.Math.Nat.{mod-lt, mul-le-mul_right}
use Rattle.dpx_base.specs.Beam.{ticks_before}
use Rattle.dpx_base.specs.Plan.{PlanFacts, timing}
use Rattle.dpx_base.specs.Timing.{Timing, IsPossible, ticks, first_tick, arrived}

-- a beam's ticks are the plan's
pub ticks_same : (p : PlanFacts) (t : ℕ)
    → ticks_before (record { mode = p.mode; link = p.link; frames = p.frames }) t ≡ ticks (timing p) t
unfolding ticks_before ticks
ticks_same p t = refl

-- of the tick's own line, the pixels before it have come
pub arrived_here : (r : Timing) (t line : ℕ) → IsPossible r → line ≡ ticks r t / r.htotal
    → arrived r line t ≡ ticks r t % r.htotal - (r.htotal - r.width)
unfolding arrived first_tick
arrived_here r t line possible e =
    omega (
      arith,
      div-add-mod' (ticks r t) r.htotal,
      mod-lt (ticks r t) (some r possible),
      ap (λ z. z * r.htotal) e,
      possible.width_to,
    )
  where
    some : (r : Timing) → IsPossible r → 0 < r.htotal
    some r possible = omega (arith, possible.width_from, possible.width_to)

-- of an earlier line all have
pub arrived_before : (r : Timing) (t line : ℕ) → IsPossible r → line < ticks r t / r.htotal
    → arrived r line t ≡ r.width
unfolding arrived first_tick
arrived_before r t line possible h =
    omega (arith, div-add-mod' (ticks r t) r.htotal, mul-le-mul_right r.htotal h, possible.width_to)

-- and of a later one none
pub arrived_after : (r : Timing) (t line : ℕ) → IsPossible r → ticks r t / r.htotal < line → arrived r line t ≡ 0
unfolding arrived first_tick
arrived_after r t line possible h =
    omega (arith, div-add-mod' (ticks r t) r.htotal, mod-lt (ticks r t) (some r possible), mul-le-mul_right r.htotal h)
  where
    some : (r : Timing) → IsPossible r → 0 < r.htotal
    some r possible = omega (arith, possible.width_from, possible.width_to)
