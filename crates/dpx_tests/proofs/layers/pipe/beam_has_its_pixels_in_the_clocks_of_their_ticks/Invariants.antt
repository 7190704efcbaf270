use Rattle.std.proofs.Common.{◌≡◌}
use Rattle.dpx_tests.proofs.layers.pipe.beam_has_its_pixels_in_the_clocks_of_their_ticks.Given as goal

abbrev pub invariant-loop-clock : goal.invariant-loop-clock
invariant-loop-clock g l = l.beam.clock ≡ l.clock-counter
