use Rattle.std.proofs.Common.{◌≡◌}
use Rattle.dpx_lane.proofs.Bytes.{rows_read}
use Rattle.dpx_lane.proofs.lane_rows.LaneRows.read_words.Given as goal

abbrev pub invariant-loop-done : goal.invariant-loop-done
invariant-loop-done l = l.self ≡ rows_read l.initial.self.lanes l.bytes l.done
