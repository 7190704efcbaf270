use Rattle.std.proofs.Common.{sym, ◌∙◌, Some, None}
use Rattle.dpx_align.proofs.Answered.{not_ready_short}
use Rattle.dpx_align.proofs.Stepping.{next_same, none_ready}
use Rattle.dpx_align.proofs.deskew.Deskew.next_set.Goals as goal

pub returns-then-is_ready-clause-next : goal.returns-then-is_ready-clause-next
returns-then-is_ready-clause-next c plain h =
    next_same c.args.self.now c.settle.new.self plain
    (Some c.hand_out.result) c.settle.ensures.given c.settle.ensures.framing
    (c.hand_out.ensures.set plain (c.settle.ensures.state plain h))

pub returns-clause-next : goal.returns-clause-next
returns-clause-next c plain h =
    next_same c.args.self.now c.settle.new.self plain None c.settle.ensures.given c.settle.ensures.framing
    (none_ready c.args.self.now c.settle.new.self plain c.settle.ensures.framing (λ f. c.settle.ensures.none f plain h)
    (sym c.is_ready.ensures ∙ c.if-is_ready.false) (c.settle.ensures.state plain h))

pub returns-clause-rest : goal.returns-clause-rest
returns-clause-rest c =
    not_ready_short c.settle.new.self.locked c.settle.new.self.rings c.settle.ensures.short c.settle.new.self.level
    (sym c.is_ready.ensures ∙ c.if-is_ready.false)
