use Rattle.std.proofs.Common.{◌≡◌, replicate}
use Rattle.dpx_buffer.specs.Lane.{empty_lane}
use Rattle.dpx_buffer.proofs.lanes.empty_lanes.Given as goal

abbrev pub invariant-loop-lane : goal.invariant-loop-lane
invariant-loop-lane g l = record {
  lanes : l.lanes.items ≡ replicate l.lane empty_lane;
}
