use Rattle.std.proofs.Common.{◌≡◌, ◌≤◌, ◌<◌, ℕ, length, slice_index_or}
use Rattle.dpx_buffer.specs.Lane.{IsTaken, lane_of}
use Rattle.dpx_buffer.proofs.lanes.take_each.Given as goal

abbrev pub invariant-loop-lane : goal.invariant-loop-lane
invariant-loop-lane g l = record {
  count : length l.lanes.items ≡ length l.initial.lanes.items;
  many : length l.bytes ≡ 4;
  done : (k : ℕ) → k < l.lane → k < length l.initial.lanes.items
      → IsTaken (lane_of l.initial.lanes.items k) (slice_index_or l.bytes k 0) (lane_of l.lanes.items k);
  rest : (k : ℕ) → l.lane ≤ k → lane_of l.lanes.items k ≡ lane_of l.initial.lanes.items k;
}
