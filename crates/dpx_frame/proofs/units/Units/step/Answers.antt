use Rattle.std.proofs.Common.{◌+◌, ◌/◌, arith}
use Rattle.dpx_base.specs.Plan.{timing}
use Rattle.dpx_frame.proofs.UnitSteps.{unit_stays, unit_next}
use Rattle.dpx_frame.proofs.units.Units.step.Goals as goal

pub returns-then-self-from : goal.returns-then-self-from
returns-then-self-from c = record {
  unit = λ w h. unit_stays (timing c.args.plan.now) w c.args.self.now h
      (rw (c.from.ensures, c.unit.ensures.value) at c.if-self-from.true);
}

pub returns-else-self-from : goal.returns-else-self-from
returns-else-self-from c = record {
  unit = λ w h.
      rw (unit_next (timing c.args.plan.now) w (omega (arith, c.unit.ensures.planned.unit))
      (omega (arith, h.place_is, c.from.ensures, c.unit.ensures.value, c.if-self-from.false)))
      at (c.behind.ensures.unit (w / c.args.plan.now.unit + 1) h.left_is h.rest_is);
}
