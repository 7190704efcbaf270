use Rattle.std.proofs.Common.{arith, sym, ◌∙◌}
use Rattle.dpx_frame.proofs.LineSteps.{at_sound}
use Rattle.dpx_frame.proofs.Telling.{slot_is}
use Rattle.dpx_timing.proofs.Table.{slot_behind}
use Rattle.dpx_frame.proofs.schedule.Schedule.next.Goals as goal

pub returns-then-clocks-self-clause-slot : goal.returns-then-clocks-self-clause-slot
returns-then-clocks-self-clause-slot c =
    let s = c.self.inside in
    rw (← c.self.view_is) (sym (slot_behind s.plan s.clock (rw c.clocks.ensures.value at c.if-clocks-self.true)))

pub slot-slot-requires : goal.slot-slot-requires
slot-slot-requires c =
    let s = c.self.inside in
    at_sound s.plan s.clock s.counters c.self.invariant.planned c.self.invariant.counters
    (rw c.clocks.ensures.value at c.if-clocks-self.false) (rw c.clocks.ensures.value at c.clocks.ensures.small)

pub step-requires : goal.step-requires
step-requires c =
    let s = c.self.inside in
    at_sound s.plan s.clock s.counters c.self.invariant.planned c.self.invariant.counters
    (rw c.clocks.ensures.value at c.if-clocks-self.false) (rw c.clocks.ensures.value at c.clocks.ensures.small)

pub invariant_of-self : goal.invariant_of-self
invariant_of-self c = record {
  planned = c.self.invariant.planned;
  within = omega (arith, c.clocks.ensures.value, c.if-clocks-self.false);
  counters = c.step.ensures c.self.inside.clock c.self.invariant.counters;
}

pub returns-clause-slot : goal.returns-clause-slot
returns-clause-slot c =
    let s = c.self.inside in
    rw (← c.self.view_is)
    (c.slot-slot.ensures
    ∙ slot_is s.plan s.clock s.counters c.self.invariant.planned c.self.invariant.counters
    (rw c.clocks.ensures.value at c.if-clocks-self.false))
