use Rattle.std.proofs.Common.{◌≡◌, ◌≤◌, ◌-◌, take}
use Rattle.std.specs.Io.KnownBytes.{Consumes}
use Rattle.dp_replay.specs.Records.{left_of}
use Rattle.dp_replay.proofs.records.Records.read_record.Given as goal

abbrev pub invariant-loop-have : goal.invariant-loop-have
invariant-loop-have g l = record {
  few : l.have ≤ 6;
  consumed : Consumes (left_of l.initial.self) (left_of l.self) (take l.have l.bytes);
  calm : l.self.source.faults ≡ l.initial.self.source.faults;
}

abbrev pub decreases-loop-have : goal.decreases-loop-have
decreases-loop-have g l = 6 - l.have
