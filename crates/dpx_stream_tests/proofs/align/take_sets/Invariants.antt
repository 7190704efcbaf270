use Rattle.std.proofs.Common.{◌≡◌}
use Rattle.dpx_align.specs.Aligner.{clocks_fed, lanes_of, waiting}
use Rattle.dpx_stream_tests.proofs.align.take_sets.Given as goal

abbrev pub invariant-loop-step : goal.invariant-loop-step
invariant-loop-step g l = record {
  clocks : clocks_fed l.aligner ≡ clocks_fed l.fn.aligner;
  lanes : lanes_of l.aligner ≡ lanes_of l.fn.aligner;
}

-- each set leaves fewer to wait for
abbrev pub decreases-loop-step : goal.decreases-loop-step
decreases-loop-step g l = waiting l.aligner
