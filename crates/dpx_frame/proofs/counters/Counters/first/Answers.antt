use Rattle.std.proofs.Common.{refl, arith}
use Rattle.dpx_base.specs.Plan.{timing}
use Rattle.dpx_timing.proofs.Sizes.{plan_possible, plan_small}
use Rattle.dpx_timing.proofs.Slots.{delay_from}
use Rattle.dpx_frame.proofs.LineSteps.{at_first}
use Rattle.dpx_frame.proofs.counters.Counters.first.Goals as goal

pub overflow_sub-result : goal.overflow_sub-result
overflow_sub-result c =
    let plan = c.mode-mode.ensures.planned in
    omega (
      arith,
      c.from.ensures,
      c.delay.ensures.value,
      delay_from (timing c.args.plan.now) (plan_possible _ plan) plan.fits (plan_small _ plan).bits_from,
    )

pub returns-clause-counters : goal.returns-clause-counters
returns-clause-counters c =
    let mode = c.mode-mode.ensures.value in
    at_first c.args.plan.now c.parts-blank.result c.parts.result c.from-pixel_clock.result c.from.result c.first.result
    c.mode-mode.ensures.planned
    (rw (c.parts-blank.ensures.value, c.htotal.ensures.value, c.width.ensures.value, mode) refl)
    (rw (c.parts.ensures.value, c.htotal-2.ensures.value, mode) refl)
    (rw (c.from-pixel_clock.ensures, c.clock_khz.ensures.value, mode) refl)
    (rw (c.from.ensures, c.delay.ensures.value) refl)
    c.first.ensures
