use Rattle.std.proofs.Common.{◌≡◌, ◌∙◌, ◌+◌, ◌/◌, ℕ, length, ap, arith, sym}
use Rattle.dpx_cli.specs.Generating.{equal_pixels, is_equal_at}
use Rattle.dpx_cli.proofs.Equals.{counted, counted_one_more, few_counted, one_if}
use Rattle.dpx_cli.proofs.generating.equal_pixels.Goals as goal
use Rattle.dpx_cli.proofs.generating.equal_pixels.Goals.{then-is_equal_at, else-is_equal_at}

pub overflow_add-equal : goal.overflow_add-equal
overflow_add-equal c =
    let few = few_counted (is_equal_at c.args.seed c.args.depth c.args.records.now) 0 c.loop-number.number in
    omega (arith, few, c.loop-number.invariant, c.loop-number-test.true)

pub loop-number-preserved : goal.loop-number-preserved
loop-number-preserved c =
    let more = counted_one_more (is_equal_at c.args.seed c.args.depth c.args.records.now) c.loop-number.number in
    elim c.if-is_equal_at.branch [
      | then-is_equal_at w ↦ omega (arith, more, w.equal-is, c.loop-number.invariant, ap one_if (sym c.is_equal_at.ensures ∙ w.if-is_equal_at.true))
      | else-is_equal_at w ↦ omega (arith, more, w.equal-is, c.loop-number.invariant, ap one_if (sym c.is_equal_at.ensures ∙ w.if-is_equal_at.false))
    ]

pub returns : goal.returns
unfolding equal_pixels
returns c =
    let all : c.loop-number.number ≡ length c.args.records.now / 6 =
    omega (arith, c.loop-number-test.false, c.loop-number.auto.number-end) in
    c.loop-number.invariant ∙ ap (λ n. counted (is_equal_at c.args.seed c.args.depth c.args.records.now) 0 n) all
