use Rattle.std.proofs.Common.{◌≡◌, ◌≤◌, ◌<◌, ℕ, length}
use Rattle.dpx_pack.specs.Bits.{padding}
use Rattle.dpx_buffer.specs.Lane.{Packs, lane_of}
use Rattle.dpx_buffer.proofs.lanes.finish_lines.Given as goal

abbrev pub invariant-loop-lane : goal.invariant-loop-lane
invariant-loop-lane g l = record {
  count : length l.lanes.items ≡ length l.initial.lanes.items;
  done : (k : ℕ) → k < l.lane
      → Packs (padding (lane_of l.initial.lanes.items k).bits)
      (lane_of l.initial.lanes.items k) (lane_of l.lanes.items k);
  rest : (k : ℕ) → l.lane ≤ k → lane_of l.lanes.items k ≡ lane_of l.initial.lanes.items k;
}
