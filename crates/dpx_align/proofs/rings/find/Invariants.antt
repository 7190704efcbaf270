use Rattle.std.proofs.Common.{◌≡◌, ◌-◌}
use Rattle.dpx_align.specs.Search.{scan, meets}
use Rattle.dpx_align.proofs.rings.find.Given as goal

abbrev pub invariant-loop-place : goal.invariant-loop-place
invariant-loop-place l = scan l.end (meets l.group l.rings) 0 ≡ scan (l.end - l.place) (meets l.group l.rings) l.place
