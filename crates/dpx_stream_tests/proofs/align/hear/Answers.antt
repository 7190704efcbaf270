use Rattle.std.proofs.Common.{◌∙◌, arith}
use Rattle.dpx_stream_tests.proofs.align.hear.Goals as goal

pub loop-fed-preserved : goal.loop-fed-preserved
loop-fed-preserved g c = record {
  rested = c.take_sets-bad.ensures.feeds;
  lanes = c.take_sets-bad.ensures.lanes ∙ (c.feed.ensures.link.0 ∙ c.loop-fed.invariant.lanes);
  rows = c.feed.ensures.rows ∙ (c.read.ensures.lanes ∙ c.loop-fed.invariant.rows);
  clocks =
      omega (
        arith,
        c.take_sets-bad.ensures.clocks,
        c.feed.ensures.clocks,
        c.read.ensures.clocks,
        c.loop-fed.invariant.clocks,
      );
  within = omega (arith, c.min-some.ensures, c.loop-fed-test.true);
}
