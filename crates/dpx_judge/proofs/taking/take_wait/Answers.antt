use Rattle.dpx_judge.proofs.Takings.{not_waited, took_wait}
use Rattle.dpx_judge.proofs.taking.take_wait.Goals as goal

pub returns-in_default : goal.returns-in_default
returns-in_default c =
    not_waited c.args.top c.args.turn.step c.args.turn.in_vain c.args.micros c.args.entry.now c.requires
    (λ e. c.in_default.not-Waited c.args.micros e)

pub returns-then-waited-micros : goal.returns-then-waited-micros
returns-then-waited-micros c =
    let is = c.in-Waited.is in
    let due = c.if-waited-micros.true in
    took_wait c.args.top c.args.turn.step c.args.turn.in_vain c.args.micros c.args.entry.now c.what_follows.result
    c.passed.result c.requires c.args.turn.sound (cc) c.what_follows.ensures.value c.passed.ensures

pub returns-else-waited-micros : goal.returns-else-waited-micros
returns-else-waited-micros c =
    not_waited c.args.top c.args.turn.step c.args.turn.in_vain c.args.micros c.args.entry.now c.requires
    (λ e. let is = c.in-Waited.is in c.if-waited-micros.false (cc))
