use Rattle.std.proofs.Common.{arith}
use Rattle.dpx_lane.specs.Receiving.{HasDecoded}
use Rattle.dpx_lane.proofs.RowSteps.{row_more, rest_more}
use Rattle.dpx_lane.proofs.decoder.Decoder.read_row.Goals as goal

pub loop-word-preserved : goal.loop-word-preserved
loop-word-preserved c = record {
  state =
      row_more (HasDecoded c.args.self.now) (HasDecoded c.loop-word.local) (HasDecoded c.step.new.self) c.args.row.now
      c.loop-word.row c.loop-word.word-index c.step.result c.loop-word-test.true c.loop-word.auto.row
      c.loop-word.invariant.state c.loop-word.invariant.rest c.step.ensures.state;
  rest = rest_more c.args.row.now c.loop-word.row c.loop-word.word-index c.step.result c.loop-word.invariant.rest;
  clock = omega (arith, c.step.ensures.clock, c.loop-word.invariant.clock);
}
