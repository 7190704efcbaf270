use Rattle.std.proofs.Common.{◌≡◌, ◌*◌, length, take}
use Rattle.dpx_base.specs.Lanes.{lanes_count}
use Rattle.dpx_reception.specs.Due.{pixel_records}
use Rattle.dpx_sink.specs.Columns.{in_turns}
use Rattle.dpx_sink.specs.Pixels.{pixels_of}
use Rattle.dpx_sink.specs.Room.{line_room}
use Rattle.dpx_sink.proofs.unpack.LanePixels.write_records.Given as goal

-- the records of the pixels before the place were written
abbrev pub invariant-loop-x : goal.invariant-loop-x
invariant-loop-x l = record {
  room : length l.records ≡ line_room;
  records : take (6 * l.x) l.records ≡ pixel_records (in_turns (pixels_of l.self) (lanes_count l.fn.lanes) l.x);
}
