use Rattle.std.proofs.Common.{refl, inl, inr}
use Rattle.dpx_frame.proofs.LineSteps.{at_next}
use Rattle.dpx_frame.proofs.counters.Counters.next_line.Goals as goal

pub returns-then-next-from : goal.returns-then-next-from
returns-then-next-from c = λ t none last at.
    at_next c.args.plan.now t c.args.self 0 0 c.parts.result c.from-pixel_clock.result c.first.result
    c.mode.ensures.planned at none last
    (inl (rw (c.from.ensures, c.vtotal.ensures.value, c.mode-3.ensures.value) at c.if-next-from.true, refl, refl))
    (rw (c.parts.ensures.value, c.htotal.ensures.value, c.mode-2.ensures.value) refl)
    (rw (c.from-pixel_clock.ensures, c.clock_khz.ensures.value, c.mode.ensures.value) refl)
    c.first.ensures

pub returns-else-next-from : goal.returns-else-next-from
returns-else-next-from c = λ t none last at.
    at_next c.args.plan.now t c.args.self _ _ c.parts.result c.from-pixel_clock.result c.first.result
    c.mode.ensures.planned at none last
    (inr (rw (c.from.ensures, c.vtotal.ensures.value, c.mode-3.ensures.value) at c.if-next-from.false, refl, refl))
    (rw (c.parts.ensures.value, c.htotal.ensures.value, c.mode-2.ensures.value) refl)
    (rw (c.from-pixel_clock.ensures, c.clock_khz.ensures.value, c.mode.ensures.value) refl)
    c.first.ensures
