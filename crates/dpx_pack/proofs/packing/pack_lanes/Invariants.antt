use Rattle.std.proofs.Common.{◌≡◌, map}
use Rattle.dpx_pack.specs.Lanes.{line_of}
use Rattle.dpx_pack.specs.Lines.{lane_bytes}
use Rattle.dpx_pack.specs.Positions.{span}
use Rattle.dpx_pack.proofs.packing.pack_lanes.Given as goal

abbrev pub invariant-loop-lane : goal.invariant-loop-lane
invariant-loop-lane g l =
    map (λ bytes. bytes.items) l.packed.items ≡ span (lane_bytes (line_of l.pixels l.count g.row.C)) 0 l.lane
