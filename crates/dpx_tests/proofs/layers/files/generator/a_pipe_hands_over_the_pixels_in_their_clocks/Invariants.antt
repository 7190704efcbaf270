use Rattle.std.proofs.Common.{◌≡◌, false, IsSome}
use Rattle.dpx_tests.proofs.layers.files.generator.a_pipe_hands_over_the_pixels_in_their_clocks.Given as goal

abbrev pub invariant-loop-clock : goal.invariant-loop-clock
invariant-loop-clock g l = record {
  begun : IsSome l.pipe.begun;
  clocks : l.pipe.clocks ≡ 1000;
  clock : l.pipe.clock ≡ l.clock;
  kept : l.pipe.refused ≡ false;
}
