use Rattle.std.proofs.Common.{◌-◌}
use Rattle.dpx_aux.proofs.AsksInTurn.{AskedInVain}
use Rattle.dpx_aux.proofs.asking.ask_in_turn.Given as goal

-- the counter starts at 1
abbrev pub invariant-loop : goal.invariant-loop
invariant-loop g l =
    AskedInVain (g.Q.AuxRequest.encode l.request) (g.Q.AuxRequest.heard_from l.request) (l.counter - 1)
    (g.P.AuxPort.state l.fn.port) (g.P.AuxPort.state l.port)
