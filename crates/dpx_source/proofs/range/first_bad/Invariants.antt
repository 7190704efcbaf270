use Rattle.std.proofs.Common.{◌≡◌, ◌+◌, drop}
use Rattle.dpx_base.specs.Mode.{depth_bits}
use Rattle.dpx_source.specs.Pixels.{first_bad}
use Rattle.dpx_source.proofs.range.first_bad.Given as goal

abbrev pub invariant-loop-place : goal.invariant-loop-place
invariant-loop-place l =
    first_bad (depth_bits l.fn.depth) l.number l.arrivals
    ≡ first_bad (depth_bits l.fn.depth) (l.number + l.place) (drop l.place l.arrivals)
