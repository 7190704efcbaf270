use Rattle.std.proofs.Common.{sym, ◌∙◌}
use Rattle.dpx_base.specs.BeamFields.{beaming}
use Rattle.dpx_base.proofs.Beams.{pixels_due, due_within}
use Rattle.dpx_base.proofs.beam.Beam.next.Goals as goal

pub returns-clause-pixels : goal.returns-clause-pixels
returns-clause-pixels c =
    let ticks = c.ticks_in-ticks in
    let due = due_within (beaming c.self.inside) c.self.inside.spare c.clock_khz.result
    c.clock_khz-symbol_clock.result ticks.result c.clock_khz.ensures.value c.clock_khz-symbol_clock.ensures
    ticks.ensures.below ticks.ensures.whole in
    rw (← c.self.view_is)
    (c.steps.ensures.pixels ∙ sym (pixels_due (beaming c.self.inside) c.self.inside.scan _ _ _ c.self.invariant due))
