use Rattle.std.proofs.Common.{◌-◌}
use Rattle.dpx_phase.proofs.EqualisationRounds.{EqualisationGoes}
use Rattle.dpx_phase.proofs.equalisation.adjust.Given as goal

-- the counter starts at 1
abbrev pub invariant-loop-number : goal.invariant-loop-number
invariant-loop-number g l = EqualisationGoes l.lanes l.fn.first.registers l.pause (l.number - 1) l.drive.registers
    (g.P.AuxPort.state l.fn.port) (g.P.AuxPort.state l.port)
