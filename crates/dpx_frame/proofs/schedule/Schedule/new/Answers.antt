use Rattle.std.proofs.Common.{arith}
use Rattle.dpx_frame.proofs.schedule.Schedule.new.Goals as goal

pub invariant_of-result : goal.invariant_of-result
invariant_of-result c = record {
  planned = c.first.ensures.planned;
  within = omega arith;
  counters =
      c.first.ensures.counters;
}
