use Rattle.std.proofs.Common.{◌≡◌, ◌+◌, ◌*◌, length}
use Rattle.dpx_lane.proofs.Bytes.{HasFirst}
use Rattle.dpx_lane.proofs.lane_rows.LaneRows.write_clocks.Given as goal

abbrev pub invariant-loop-clock : goal.invariant-loop-clock
invariant-loop-clock g l = record {
  size : length l.to ≡ length l.initial.to;
  is : HasFirst g.row.LANES l.self.rows l.initial.to (l.clock * g.row.LANES) l.to;
}

abbrev pub invariant-loop-lane : goal.invariant-loop-lane
invariant-loop-lane g l = record {
  size : length l.to ≡ length l.fn.to;
  is : HasFirst g.row.LANES l.self.rows l.fn.to (l.clock * g.row.LANES + l.lane) l.to;
}
