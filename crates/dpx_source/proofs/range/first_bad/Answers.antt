use Rattle.std.proofs.Common.{sym, ◌∙◌}
use Rattle.dpx_base.specs.Mode.{depth_bits}
use Rattle.dpx_source.proofs.Absorbs.{bad_found, bad_later}
use Rattle.dpx_source.proofs.range.first_bad.Goals as goal

pub returns-in-Some : goal.returns-in-Some
returns-in-Some c =
    bad_found (depth_bits c.args.depth) c.args.number c.loop-place.place c.in-Some.value c.args.arrivals.now
    c.get.result c.get.ensures c.loop-place.invariant (sym (c.bad_value.ensures (depth_bits c.args.depth) c.limit-limit.ensures) ∙ c.in-Some.is)

pub loop-place-preserved : goal.loop-place-preserved
loop-place-preserved c =
    bad_later (depth_bits c.args.depth) c.args.number c.loop-place.place c.args.arrivals.now c.get.result c.get.ensures
    c.loop-place.invariant (sym (c.bad_value.ensures (depth_bits c.args.depth) c.limit-limit.ensures) ∙ c.in_default.is)
