-- A line without a reason against it fits.
use Rattle.std.proofs.Common.{◌≡◌, arith, None}
use Rattle.std.proofs.lemmas.Bool.Decides.{nat_tests}
use Rattle.dpx_base.specs.Timing.{Timing, IsFit}
use Rattle.dpx_timing.specs.Fit.{unfit_of, no_room_of}

pub fits : (r : Timing) → unfit_of r ≡ None → IsFit r
unfolding unfit_of no_room_of
fits r none = record {
  not_too_fast = grind (arith, nat_tests);
  not_too_slow = grind (arith, nat_tests);
  room = grind (arith, nat_tests);
}
