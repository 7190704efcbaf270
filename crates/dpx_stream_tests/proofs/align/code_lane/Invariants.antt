use Rattle.dpx_code.specs.Disparity.{IsKnown}
use Rattle.dpx_stream_tests.proofs.align.code_lane.Given as goal

abbrev pub invariant-loop-entry : goal.invariant-loop-entry
invariant-loop-entry l = IsKnown l.rd
