use Rattle.std.proofs.Common.{sym, ◌∙◌}
use Rattle.dpx_align.specs.Lock.{sr_group}
use Rattle.dpx_align.proofs.Answered.{locked_has, can_lock_has, unlocked}
use Rattle.dpx_align.proofs.deskew.Deskew.has_lock.Goals as goal

pub returns-then-self-clause-lock : goal.returns-then-self-clause-lock
returns-then-self-clause-lock c plain h e =
    locked_has c.args.self.now.locked
    (sr_group c.args.self.now.enhanced) plain c.args.self.now.rings c.args.self.now.given
    c.if-self.true h

pub returns-clause-lock : goal.returns-clause-lock
returns-clause-lock c plain h e =
    can_lock_has c.args.self.now.locked c.args.self.now.enhanced c.sr_group.result.now plain c.args.self.now.rings
    c.args.self.now.given c.if-self.false c.sr_group.ensures (sym c.can_lock.ensures ∙ e) h

pub returns-clause-none : goal.returns-clause-none
returns-clause-none c plain h e m k =
    unlocked c.args.self.now.locked c.args.self.now.enhanced c.sr_group.result.now plain c.args.self.now.rings
    c.args.self.now.given c.if-self.false c.sr_group.ensures c.args.self.now.lanes.0 (sym c.can_lock.ensures ∙ e) h m k
