use Rattle.std.proofs.Common.{◌≡◌, ◌+◌, drop}
use Rattle.dpx_align.specs.Search.{begins_with}
use Rattle.dpx_align.proofs.ring.Ring.begins_at.Given as goal

abbrev pub invariant-loop-i : goal.invariant-loop-i
invariant-loop-i l = begins_with l.group (drop l.place l.self)
    ≡ begins_with (drop l.i l.group) (drop (l.place + l.i) l.self)
