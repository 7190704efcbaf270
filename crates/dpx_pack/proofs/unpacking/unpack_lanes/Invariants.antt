use Rattle.std.proofs.Common.{◌≡◌, [], get_or, map}
use Rattle.dpx_pack.specs.Lines.{lane_pixels}
use Rattle.dpx_pack.specs.Positions.{span}
use Rattle.dpx_pack.proofs.unpacking.unpack_lanes.Given as goal

abbrev pub invariant-loop-lane : goal.invariant-loop-lane
invariant-loop-lane g l =
    map (λ pixels. pixels.items) l.lanes.items ≡ span (λ lane. lane_pixels g.row.C (get_or l.line lane [])) 0 l.lane
