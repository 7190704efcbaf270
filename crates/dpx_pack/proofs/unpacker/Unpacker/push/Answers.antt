use Rattle.std.proofs.Common.{◌≡◌, ◌∙◌, length, sym, ap, arith}
use Rattle.std.proofs.lemmas.Grind.{common_steps}
use Rattle.dpx_pack.proofs.Carried.{waits, completes}
use Rattle.dpx_pack.proofs.LowBits.{length-low_bits}
use Rattle.dpx_pack.proofs.unpacker.Unpacker.push.Goals as goal

pub returns-then-count-width-clause-complete : goal.returns-then-count-width-clause-complete
returns-then-count-width-clause-complete g c =
    let size : length c.args.self.now ≡ c.self.inside.left =
    ap length (sym c.self.view_is) ∙ length-low_bits c.self.inside.left c.self.inside.value in
    grind (arith, common_steps)

pub returns-then-count-width-clause-none : goal.returns-then-count-width-clause-none
returns-then-count-width-clause-none g c = grind (arith, common_steps)

pub returns-then-count-width-clause-places : goal.returns-then-count-width-clause-places
returns-then-count-width-clause-places g c bytes is =
    let size : length c.args.self.now ≡ c.self.inside.left =
    ap length (sym c.self.view_is) ∙ length-low_bits c.self.inside.left c.self.inside.value in
    sym (waits g.row.C bytes c.args.byte c.args.self.now (omega (arith, c.requires.0)) is (omega (arith, size))).0

pub returns-then-count-width-clause-stands : goal.returns-then-count-width-clause-stands
returns-then-count-width-clause-stands g c bytes is =
    let size : length c.args.self.now ≡ c.self.inside.left =
    ap length (sym c.self.view_is) ∙ length-low_bits c.self.inside.left c.self.inside.value in
    returns-then-count-width-clause-none g c
    ∙ (waits g.row.C bytes c.args.byte c.args.self.now (omega (arith, c.requires.0)) is (omega (arith, size))).1

pub returns-clause-complete : goal.returns-clause-complete
returns-clause-complete g c =
    let size : length c.args.self.now ≡ c.self.inside.left =
    ap length (sym c.self.view_is) ∙ length-low_bits c.self.inside.left c.self.inside.value in
    grind (arith, common_steps)

pub returns-clause-some : goal.returns-clause-some
returns-clause-some g c = grind (arith, common_steps)

pub returns-clause-range : goal.returns-clause-range
returns-clause-range g c =
    record { r = c.take_top-r.ensures.top; g = c.take_top-g.ensures.top; b = c.take_top-b.ensures.top }

pub returns-clause-places : goal.returns-clause-places
returns-clause-places g c bytes is =
    let size : length c.args.self.now ≡ c.self.inside.left =
    ap length (sym c.self.view_is) ∙ length-low_bits c.self.inside.left c.self.inside.value in
    (completes g.row.C bytes c.args.byte c.args.self.now _ _ (omega (arith, c.requires.0)) is
    (omega (arith, size, c.if-count-width.false)) (omega (arith, size, c.self.invariant.0))
    (returns-clause-range g c) (returns-clause-some g c)).0

pub returns-clause-stands : goal.returns-clause-stands
returns-clause-stands g c bytes is =
    let size : length c.args.self.now ≡ c.self.inside.left =
    ap length (sym c.self.view_is) ∙ length-low_bits c.self.inside.left c.self.inside.value in
    (completes g.row.C bytes c.args.byte c.args.self.now _ _ (omega (arith, c.requires.0)) is
    (omega (arith, size, c.if-count-width.false)) (omega (arith, size, c.self.invariant.0))
    (returns-clause-range g c) (returns-clause-some g c)).1
