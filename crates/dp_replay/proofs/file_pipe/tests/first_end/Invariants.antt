use Rattle.std.proofs.Common.{◌≡◌, ◌+◌, false, IsSome}
use Rattle.dp_replay.proofs.file_pipe.tests.first_end.Given as goal

abbrev pub invariant-loop-clock : goal.invariant-loop-clock
invariant-loop-clock l = record {
  begun : IsSome l.pipe.begun;
  clocks : l.pipe.clocks ≡ l.initial.pipe.clocks;
  clock : l.pipe.clock ≡ l.initial.pipe.clock + l.clock;
  kept : l.pipe.refused ≡ false;
}
