use Rattle.std.proofs.Common.{◌≤◌, arith, refl}
use Rattle.std.proofs.Math.Nat.{add-zero, add_assoc}
use Rattle.dpx_base.proofs.Pixels.{pixels_none, pixels_more, at_most_one}
use Rattle.dpx_base.proofs.scan.Scan.steps.Goals as goal

pub loop-done-init : goal.loop-done-init
loop-done-init c = record { pixels = rw (pixels_none) refl; few = omega arith; at = rw add-zero refl }

pub loop-done-preserved : goal.loop-done-preserved
loop-done-preserved c =
    let one : c.step-pixels.result ≤ 1 = rw c.step-pixels.ensures.pixel (at_most_one _) in
    record {
      pixels = rw (pixels_more, c.loop-done.invariant.pixels, c.step-pixels.ensures.pixel, c.loop-done.invariant.at);
      few = omega (arith, c.loop-done.invariant.few, one);
      at = rw (c.step-pixels.ensures.next, c.loop-done.invariant.at, add_assoc);
    }
