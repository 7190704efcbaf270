use Rattle.std.proofs.Common.{◌-◌}
use Rattle.dpx_phase.proofs.RecoveryRounds.{RecoveryGoes}
use Rattle.dpx_phase.proofs.recovery.adjust.Given as goal

-- the counter starts at 1
abbrev pub invariant-loop-number : goal.invariant-loop-number
invariant-loop-number g l = RecoveryGoes l.lanes (l.number - 1) l.level.drive.registers l.level.alike
    (g.P.AuxPort.state l.fn.port) (g.P.AuxPort.state l.port)
