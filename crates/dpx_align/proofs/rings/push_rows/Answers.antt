use Rattle.std.proofs.Common.{length, arith}
use Rattle.dpx_align.proofs.Taking.{pushed_codes}
use Rattle.dpx_align.proofs.rings.push_rows.Goals as goal

pub returns : goal.returns
returns c =
    pushed_codes c.args.rings.now c.args.rows.now.rows c.loop-lane.rings c.args.count
    (length c.args.rings.now) c.requires.rows c.loop-lane.invariant.size (omega arith)
    (λ j l m. c.loop-lane.invariant.done j l (omega arith))
