use Rattle.std.proofs.Common.{◌≡◌, ◌≤◌, ◌-◌}
use Rattle.dpx_align.specs.Aligner.{CanFeed, clocks_fed, lanes_of}
use Rattle.dpx_stream_tests.proofs.align.hear.Given as goal

abbrev pub invariant-loop-fed : goal.invariant-loop-fed
invariant-loop-fed g l = record {
  rested : CanFeed l.aligner;
  lanes : lanes_of l.aligner ≡ l.fn.link.lanes;
  rows : l.rows.lanes ≡ l.fn.link.lanes;
  clocks : clocks_fed l.aligner ≡ l.fed;
  within : l.fed ≤ l.clocks;
}

abbrev pub decreases-loop-fed : goal.decreases-loop-fed
decreases-loop-fed g l = l.clocks - l.fed
