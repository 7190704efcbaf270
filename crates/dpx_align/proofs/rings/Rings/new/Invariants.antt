use Rattle.std.proofs.Common.{◌≡◌, List, [], replicate}
use Rattle.dpx_base.specs.declared.sym.Sym.{Sym}
use Rattle.dpx_align.proofs.rings.Rings.new.Given as goal

abbrev pub invariant-loop : goal.invariant-loop
invariant-loop l = ◌≡◌ {A = List (List Sym)} l.rings.items (replicate l.counter [])
