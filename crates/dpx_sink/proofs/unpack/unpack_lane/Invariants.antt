use Rattle.std.proofs.Common.{◌≡◌, get_or, take, vec_capacity}
use Rattle.dpx_base.specs.Unpacking.{carried_pixel}
use Rattle.dpx_pack.specs.Lanes.{LeftOfBytes, whole_pixel_count}
use Rattle.dpx_pack.specs.Positions.{span}
use Rattle.dpx_sink.proofs.Columns.{lane_symbols}
use Rattle.dpx_sink.proofs.unpack.unpack_lane.Given as goal

abbrev pub invariant-loop-j : goal.invariant-loop-j
invariant-loop-j g l = record {
  taken : LeftOfBytes g.row.C (take l.j (lane_symbols l.store.rows.items l.lane l.symbols)) l.unpacker;
  pixels : l.pixels.items
      ≡ span (carried_pixel g.row.C (λ i. get_or (lane_symbols l.store.rows.items l.lane l.symbols) i 0)) 0
      (whole_pixel_count g.row.C l.j);
  room : vec_capacity l.pixels ≡ vec_capacity l.fn.pixels;
}
