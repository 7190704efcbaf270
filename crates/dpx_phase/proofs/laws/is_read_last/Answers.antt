use Rattle.dpx_phase.specs.Equalisation.{Equalisation}
use Rattle.dpx_phase.specs.Recovery.{Recovery}
use Rattle.dpx_phase.proofs.LastStatus.{recovery_tells, equalisation_tells, takes_read}
use Rattle.dpx_phase.proofs.laws.is_read_last.Goals as goal

pub returns-clause-recovery : goal.returns-clause-recovery
unfolding Recovery
returns-clause-recovery c = takes_read _ _ _ (recovery_tells c.args.link.lanes)

pub returns-clause-equalisation : goal.returns-clause-equalisation
unfolding Equalisation
returns-clause-equalisation c =
    takes_read _ _ _ (equalisation_tells c.args.link.lanes c.args.drive.registers _)
