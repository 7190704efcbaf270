use Rattle.std.proofs.Common.{ℕ, ◌+◌, sym, ◌∙◌, drop, ap, add_assoc}
use Rattle.dpx_align.proofs.Beginning.{begins_other, begins_more}
use Rattle.dpx_align.specs.Search.{begins_with}
use Rattle.dpx_align.proofs.ring.Ring.begins_at.Goals as goal

pub returns-then-not-same : goal.returns-then-not-same
returns-then-not-same c =
    sym (c.loop-i.invariant ∙ begins_other c.args.group.now c.args.self.now c.loop-i.i
    (c.args.place + c.loop-i.i) c.in-Some.sym c.loop-i-test.true (sym c.in-Some.ensures)
    (sym c.same.ensures ∙ c.if-not-same.true))

pub loop-i-preserved : goal.loop-i-preserved
loop-i-preserved c =
    let f = λ (i : ℕ). begins_with (drop (c.loop-i.i + 1) c.args.group.now) (drop i c.args.self.now) in
    c.loop-i.invariant
    ∙ (begins_more c.args.group.now c.args.self.now c.loop-i.i
    (c.args.place + c.loop-i.i) c.in-Some.sym c.loop-i-test.true (sym c.in-Some.ensures)
    (sym c.same.ensures ∙ c.if-not-same.false)
    ∙ ap f (add_assoc c.args.place c.loop-i.i 1))
