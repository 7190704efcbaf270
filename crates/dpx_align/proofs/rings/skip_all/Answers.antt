use Rattle.std.proofs.Common.{List, drop, ap, sym, ◌∙◌, set}
use Rattle.std.proofs.lemmas.List.Edits.{map_over_more}
use Rattle.dpx_base.specs.declared.sym.Sym.{Sym}
use Rattle.dpx_align.proofs.rings.skip_all.Goals as goal

pub loop-ring-preserved : goal.loop-ring-preserved
loop-ring-preserved c =
    let f : List Sym → List Sym = λ ring. drop c.args.count ring in
    ap (λ (ring : List Sym). set c.loop-ring.rings c.loop-ring.ring-index ring)
    (c.skip.ensures ∙ ap f (sym c.ring-item.is))
    ∙ map_over_more f
    c.args.rings.now c.loop-ring.rings c.loop-ring.ring-index c.ring-item.result c.loop-ring-test.true
    c.loop-ring.invariant c.ring-item.is
