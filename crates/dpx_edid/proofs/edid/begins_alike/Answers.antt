use Rattle.std.proofs.Common.{arith}
use Rattle.std.proofs.lemmas.Grind.{common_steps}
use Rattle.dpx_edid.specs.Edid.{header}
use Rattle.dpx_edid.proofs.Alike.{alike_more}
use Rattle.dpx_edid.proofs.edid.begins_alike.Goals as goal

pub loop-place-preserved : goal.loop-place-preserved
loop-place-preserved c =
    alike_more header c.args.block.now c.loop-place.place (omega arith) (omega arith)
    (let same = c.if-block-place.false in grind (arith, common_steps)) c.loop-place.invariant
