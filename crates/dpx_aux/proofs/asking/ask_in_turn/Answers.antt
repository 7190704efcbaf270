use Rattle.std.proofs.Common.{refl, ap, arith, Err}
use Rattle.dpx_aux.proofs.AsksInTurn.{asked_more, ends_as}
use Rattle.dpx_aux.proofs.asking.ask_in_turn.Goals as goal

pub returns-in-End-clause-asks : goal.returns-in-End-clause-asks
returns-in-End-clause-asks g c = ends_as _ c.loop.invariant c.in-End.ensures (omega arith) refl

pub loop-preserved : goal.loop-preserved
loop-preserved g c = asked_more c.loop.invariant c.in-InVain.ensures (omega arith)

pub returns-in-End-ask-clause-asks : goal.returns-in-End-ask-clause-asks
returns-in-End-ask-clause-asks g c = ends_as _ c.loop.invariant c.in-End-ask.ensures (omega arith) refl

pub returns-in-InVain-ask-clause-asks : goal.returns-in-InVain-ask-clause-asks
returns-in-InVain-ask-clause-asks g c =
    ends_as _ c.loop.invariant c.in-InVain-ask.ensures (omega arith) (omega arith, ap Err c.spent.ensures)
