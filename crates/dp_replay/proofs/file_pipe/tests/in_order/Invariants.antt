use Rattle.std.proofs.Common.{◌≡◌, ◌+◌, false, IsSome}
use Rattle.dp_replay.proofs.file_pipe.tests.in_order.Given as goal

abbrev pub invariant-loop-clock : goal.invariant-loop-clock
invariant-loop-clock g l = record {
  begun : IsSome l.pipe.begun;
  clocks : l.pipe.clocks ≡ l.initial.pipe.clocks;
  clock : l.pipe.clock ≡ l.initial.pipe.clock + l.clock-counter;
  kept : l.pipe.refused ≡ false;
}
