use Rattle.std.proofs.Common.{◌≡◌, ◌++◌, take, drop, map}
use Rattle.dpx_align.specs.Search.{start}
use Rattle.dpx_align.proofs.rings.skip_to_groups.Given as goal

abbrev pub invariant-loop-ring : goal.invariant-loop-ring
invariant-loop-ring l = l.rings ≡ map (λ ring. drop (start l.group l.place ring) ring)
    (take l.ring-index l.initial.rings) ++ drop l.ring-index l.initial.rings
