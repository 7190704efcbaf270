-- The plan of a number.
use Rattle.std.proofs.Common.{◌≡◌, ℕ, ◌≤◌, ◌<◌, Bool, true, false, nat_lt, refl, ap, ◌∙◌, arith, Result, Ok, None}
use Rattle.std.proofs.lemmas.Bool.{false_from_ne_true, ltb-true}
use Rattle.dpx_base.specs.declared.link.Link.{Link}
use Rattle.dpx_base.specs.Plan.{PlanFacts, timing}
use Rattle.dpx_base.specs.Timing.{Timing, IsFit}
use Rattle.dpx_files.specs.declared.shape.Shape.{Shape}
use Rattle.dpx_files.specs.Generator.{gen_link, gen_plan, gen_shape}
use Rattle.dpx_files.specs.Laws.{FramesFit}
use Rattle.dpx_timing.specs.declared.fitting.Unfit.{Unfit}
use Rattle.dpx_timing.specs.Fit.{fit_of, no_room_of, planned_unless, unfit_of}
use Rattle.dpx_cli.specs.Sending.{shaped}

not_below : (a b : ℕ) → b ≤ a → nat_lt a b ≡ false
not_below a b over = false_from_ne_true _ (λ e. absurd (omega (arith, over, ltb-true a b e)))

-- there is no reason against a line that fits
no_reason : (r : Timing) → IsFit r → unfit_of r ≡ None
unfolding unfit_of no_room_of
no_reason r fit =
    rw (not_below _ _ fit.not_too_fast, not_below _ _ fit.not_too_slow, not_below _ _ fit.room) refl

planned : (p : PlanFacts) → IsFit (timing p) → fit_of p ≡ Ok p
planned p fit = ap (λ why. planned_unless why p) (no_reason (timing p) fit)

-- what a number gives fits as its plan
pub number_planned : FramesFit → (seed : ℕ) (link : Link) (shape : Shape) → link ≡ gen_link seed
    → shape ≡ gen_shape seed → fit_of (shaped shape link) ≡ Ok (gen_plan seed)
number_planned fit seed link shape link_is shape_is = rw (link_is, shape_is) (planned (gen_plan seed) (fit seed).fits)
