use Rattle.std.proofs.Common.{◌∙◌, sym}
use Rattle.dpx_pack.proofs.Spans.{span-none, span-next}
use Rattle.dpx_pack.proofs.unpacking.take_turns.Goals as goal

pub loop-x-init : goal.loop-x-init
loop-x-init c = c.new-pixels.ensures.items ∙ sym (span-none _ 0)

pub loop-x-preserved : goal.loop-x-preserved
loop-x-preserved c =
    c.in_ok-push.ensures ∙ span-next _ c.loop-x.x c.loop-x.pixels.items _ c.loop-x.invariant c.turn.ensures
