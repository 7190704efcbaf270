use Rattle.std.proofs.Common.{◌∙◌, arith}
use Rattle.dpx_timing.proofs.Sizes.{plan_possible}
use Rattle.dpx_buffer.proofs.Room.{holds_inside}
use Rattle.dpx_buffer.proofs.Taken.{taken_holds, taken_reached, taken_bytes, lanes_few}
use Rattle.dpx_buffer.proofs.line_buffer.LineBuffer.take_due.Goals as goal

pub take_each-requires-clause-count : goal.take_each-requires-clause-count
take_each-requires-clause-count c =
    let few = lanes_few c.self.inside.plan.link.lanes in (
      omega (arith, c.self.invariant.reached.holds.lanes, few.0),
      omega (arith, c.self.invariant.reached.holds.lanes, few.1),
    )

pub invariant_of-self : goal.invariant_of-self
invariant_of-self c = record {
  depth = c.take_each.ensures.depth ∙ c.self.invariant.depth;
  reached = taken_reached _ c.take_each.result _ c.self.invariant.reached c.take_each.ensures.count
      c.take_each.ensures.each;
}

pub returns-clause-bytes : goal.returns-clause-bytes
returns-clause-bytes c = λ pixels taken h.
    rw (← c.self.view_is) (taken_bytes _ pixels taken c.take_each.result _ (holds_inside c.self.view_is h)
    c.take_each.ensures.bytes c.take_each.ensures.each)

pub returns-clause-holds : goal.returns-clause-holds
returns-clause-holds c = λ pixels taken h.
    taken_holds _ pixels taken c.take_each.result _
    (plan_possible _ c.self.invariant.reached.planned) (holds_inside c.self.view_is h) c.take_each.ensures.count
    c.take_each.ensures.each
