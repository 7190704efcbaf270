use Rattle.std.proofs.Common.{length, ap, arith}
use Rattle.dpx_timing.proofs.Sizes.{plan_possible}
use Rattle.dpx_buffer.specs.Lane.{lane_of}
use Rattle.dpx_buffer.proofs.Room.{waiting_count}
use Rattle.dpx_buffer.proofs.line_buffer.LineBuffer.waiting.Goals as goal

pub returns-clause-each : goal.returns-clause-each
returns-clause-each c = λ lane few.
    let is = c.reached.ensures in
    omega (
      arith,
      c.waiting.ensures.length,
      ap (λ b. length (lane_of b.lanes 0).waiting) c.self.view_is,
      waiting_count c.args.self.now is.pixels is.taken lane is.holds few,
      waiting_count c.args.self.now is.pixels is.taken 0 is.holds
          (plan_possible c.args.self.now.plan is.planned).lanes_from,
    )
