use Rattle.std.proofs.Common.{◌≡◌, ◌-◌, ◌+◌, drop}
use Rattle.dpx_align.specs.Search.{begins_with, scan, near}
use Rattle.dpx_align.proofs.ring.Ring.near.Given as goal

abbrev pub invariant-loop-at : goal.invariant-loop-at
invariant-loop-at l = near l.group l.place l.self
    ≡ scan ((l.place + 17) - l.at) (λ g. begins_with l.group (drop g l.self)) l.at
