use Rattle.std.proofs.Common.{◌≡◌, ◌≤◌, ◌-◌, length, take}
use Rattle.std.specs.Io.KnownBytes.{Appends}
use Rattle.dpx_base.proofs.transfer.write_whole.Given as goal

-- the bytes before the place were taken, and no write failed
abbrev pub invariant-loop-start : goal.invariant-loop-start
invariant-loop-start g l = record {
  within : l.start ≤ length l.bytes;
  taken : Appends (g.O.Sink.seen l.fn.out).taken (g.O.Sink.seen l.out).taken (take l.start l.bytes);
  calm : (g.O.Sink.seen l.out).faults ≡ (g.O.Sink.seen l.fn.out).faults;
}

abbrev pub decreases-loop-start : goal.decreases-loop-start
decreases-loop-start g l = length l.bytes - l.start
