use Rattle.std.proofs.Common.{◌≡◌, ap, ◌∙◌, replicate}
use Rattle.dpx_base.specs.Lanes.{lanes_count}
use Rattle.dpx_base.specs.Mode.{depth_bits}
use Rattle.dpx_timing.proofs.Sizes.{plan_possible}
use Rattle.dpx_buffer.specs.Lane.{empty_lane}
use Rattle.dpx_buffer.proofs.Taken.{empty_holds, empty_reached}
use Rattle.dpx_buffer.proofs.line_buffer.LineBuffer.new.Goals as goal

pub invariant_of-result : goal.invariant_of-result
invariant_of-result c =
    let p = c.args.plan.now in
    let count : c.count-count.result ≡ lanes_count p.link.lanes =
    c.count-count.ensures ∙ ap (λ link. lanes_count link.lanes) c.link.ensures in
    let depth = c.depth.ensures.value ∙ ap (λ m. m.depth) c.mode.ensures.value in
    record {
      depth = c.in_ok-lanes.ensures.depth ∙ ap (λ d. depth_bits d) depth;
      reached = empty_reached p _ _ c.unit-unit.ensures.planned
          (c.in_ok-lanes.ensures.empty ∙ ap (λ n. replicate n empty_lane) count) c.new-2.ensures;
    }

pub returns-clause-holds : goal.returns-clause-holds
returns-clause-holds c =
    let p = c.args.plan.now in
    let count : c.count-count.result ≡ lanes_count p.link.lanes =
    c.count-count.ensures ∙ ap (λ link. lanes_count link.lanes) c.link.ensures in
    empty_holds p _ _ (plan_possible p c.unit-unit.ensures.planned)
    (c.in_ok-lanes.ensures.empty ∙ ap (λ n. replicate n empty_lane) count) c.new-2.ensures
