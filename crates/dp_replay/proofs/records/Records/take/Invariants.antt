use Rattle.std.proofs.Common.{◌≡◌, length, take}
use Rattle.dp_replay.specs.Records.{TakesPixels, left_of}
use Rattle.dp_replay.proofs.records.Records.take.Given as goal

abbrev pub invariant-loop-place : goal.invariant-loop-place
invariant-loop-place g l = record {
  calm : l.self.source.faults ≡ l.initial.self.source.faults;
  room : length l.pixels ≡ 2;
  taken : TakesPixels l.place (left_of l.initial.self) (left_of l.self) (take l.place l.pixels);
}
