use Rattle.std.proofs.Common.{arith}
use Rattle.dpx_base.proofs.Pixels.{pixel_value_is}
use Rattle.dpx_base.proofs.scan.Scan.pixel.Goals as goal

pub returns : goal.returns
returns c =
    rw (← c.self.view_is) (pixel_value_is _ _ _ _ _ _ _ c.self.invariant
    (omega (arith, c.from.ensures, c.from-2.ensures, c.htotal.ensures.value, c.width.ensures.value))
    (omega (arith, c.from-3.ensures, c.from-4.ensures, c.vtotal.ensures.value, c.height.ensures.value))
    c.pixel_value.ensures)
