use Rattle.std.proofs.Common.{◌∙◌}
use Rattle.dpx_base.specs.Plan.{timing}
use Rattle.dpx_timing.proofs.Sizes.{plan_possible}
use Rattle.dpx_frame.proofs.UnitSteps.{unit_behind}
use Rattle.dpx_frame.proofs.units.Units.behind.Goals as goal

pub returns : goal.returns
returns c = record {
  unit = λ k el er.
      rw (c.m-2.ensures.value, ← c.m.ensures.value)
      (unit_behind
      (timing c.args.plan.now) k c.args.left c.args.rest c.from.result c.n.result c.m.result c.min-symbols.result
      (plan_possible _ c.unit.ensures.planned)
      (c.from.ensures ∙ c.unit.ensures.value) c.n.ensures.value c.m.ensures.value el er c.min-symbols.ensures);
}
