use Rattle.dpx_files.proofs.Depths.{is_depth_from}
use Rattle.dpx_files.proofs.mode_fields.depth_from.Goals as goal

pub returns : goal.returns
returns c =
    let same = is_depth_from _ _ c.from_bits.ensures.bits c.from_bits.ensures.none in rw c.in-Ok.ensures.1 at same
