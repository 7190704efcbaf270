use Rattle.std.proofs.Common.{◌∙◌, sym, arith}
use Rattle.dpx_align.proofs.Heads.{each_first, each_rest}
use Rattle.dpx_align.proofs.rings.take_firsts.Goals as goal

pub returns-clause-set : goal.returns-clause-set
returns-clause-set g c =
    let i = c.loop-lane.invariant in
    c.from_slice.ensures
    ∙ each_first c.args.rings.now c.loop-lane.symbols (i.long ∙ sym c.requires.lanes)
    (λ j l. i.taken j (omega (arith, l, c.requires.lanes)) (omega (arith, l, c.requires.lanes, c.loop-lane-test.false)))

pub returns-clause-rest : goal.returns-clause-rest
returns-clause-rest g c =
    let i = c.loop-lane.invariant in
    each_rest c.args.rings.now c.loop-lane.rings i.size
    (λ j l. i.done j (omega (arith, l, c.requires.lanes)) (omega (arith, l, c.requires.lanes, c.loop-lane-test.false)))
