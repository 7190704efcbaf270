use Rattle.std.proofs.Common.{◌≡◌, ◌≤◌, ◌<◌, ℕ, length, slice_index_or}
use Rattle.dpx_base.specs.Sets.{black}
use Rattle.dpx_pack.specs.Bits.{bits_of_pixel}
use Rattle.dpx_buffer.specs.Lane.{Packs, lane_of}
use Rattle.dpx_buffer.proofs.lanes.push_group.Given as goal

abbrev pub invariant-loop-lane : goal.invariant-loop-lane
invariant-loop-lane g l = record {
  count : length l.lanes.items ≡ length l.initial.lanes.items;
  done : (k : ℕ) → k < l.lane
      → Packs (bits_of_pixel g.row.C (slice_index_or l.group k black))
      (lane_of l.initial.lanes.items k) (lane_of l.lanes.items k);
  rest : (k : ℕ) → l.lane ≤ k → lane_of l.lanes.items k ≡ lane_of l.initial.lanes.items k;
}
