use Rattle.std.proofs.Common.{◌≡◌, ◌<◌, ◌-◌, ◌∙◌, length, ap, arith}
use Rattle.std.proofs.lemmas.Bool.{leb-true, le-leb}
use Rattle.dpx_base.specs.Lanes.{lanes_count}
use Rattle.dpx_base.specs.Plan.{timing}
use Rattle.dpx_timing.proofs.Sizes.{plan_possible}
use Rattle.dpx_buffer.specs.Buffer.{made_whole}
use Rattle.dpx_buffer.proofs.Shift.{whole_rises}
use Rattle.dpx_buffer.proofs.line_buffer.LineBuffer.has_room.Goals as goal

pub overflow_sub-more : goal.overflow_sub-more
overflow_sub-more c =
    omega (
      arith,
      whole_rises (timing c.args.self.now.plan) c.from-column.result c.len.result
          (plan_possible c.args.self.now.plan c.reached.ensures.planned),
      c.bytes_whole.ensures.value,
      c.bytes_whole-2.ensures.value,
    )

pub returns : goal.returns
returns c =
    let column : c.from-column.result ≡ c.args.self.now.column =
    c.from-column.ensures ∙ ap (λ b. b.column) c.self.view_is in
    let made : c.bytes_whole.result - c.bytes_whole-2.result
    ≡ made_whole c.args.self.now (length c.args.arrivals.now) =
    omega (
      arith,
      rw (column, c.len.ensures.length) at c.bytes_whole.ensures.value,
      rw column at c.bytes_whole-2.ensures.value,
    ) in
    let some : 0 < lanes_count c.args.self.now.plan.link.lanes =
    (plan_possible c.args.self.now.plan c.reached.ensures.planned).lanes_from in (
      λ fits lane few. omega (arith, leb-true _ _ fits, c.waiting.ensures.each lane few, made),
      λ room. le-leb _ _ (omega (arith, room 0 some, c.waiting.ensures.each 0 some, made)),
    )
