use Rattle.std.proofs.Common.{◌≡◌, ◌++◌, take}
use Rattle.circular_buffer.specs.Buffer.{buffer}
use Rattle.dpx_buffer.proofs.lane.put_behind.Given as goal

abbrev pub invariant-loop-place : goal.invariant-loop-place
invariant-loop-place l = record {
  waiting : l.waiting ≡ buffer (l.initial.waiting.items ++ take l.place l.bytes) l.initial.waiting.capacity;
}
