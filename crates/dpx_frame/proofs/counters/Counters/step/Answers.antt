use Rattle.std.proofs.Common.{arith}
use Rattle.dpx_frame.proofs.counters.Counters.step.Goals as goal

pub returns-then-self-eq1 : goal.returns-then-self-eq1
returns-then-self-eq1 c = λ t at. c.next_line.ensures t (omega (arith, c.if-self-gt0.false)) c.if-self-eq1.true at

pub returns-else-self-eq1 : goal.returns-else-self-eq1
returns-else-self-eq1 c = λ t at. c.step_in_line.ensures t (omega (arith, c.if-self-gt0.false))
    (omega (arith, c.if-self-eq1.false, c.requires.until_from)) at
