use Rattle.dpx_phase.specs.Equalisation.{Equalisation}
use Rattle.dpx_phase.specs.Recovery.{Recovery}
use Rattle.dpx_phase.proofs.Endings.{recovery_looks_back, equalisation_looks_back}
use Rattle.dpx_phase.proofs.Decided.{takes_decided}
use Rattle.dpx_phase.proofs.laws.is_decided.Goals as goal

pub returns-clause-recovery : goal.returns-clause-recovery
unfolding Recovery
returns-clause-recovery c = takes_decided _ _ _ (recovery_looks_back c.args.link.lanes)

pub returns-clause-equalisation : goal.returns-clause-equalisation
unfolding Equalisation
returns-clause-equalisation c = takes_decided _ _ _ (equalisation_looks_back c.args.link.lanes c.args.drive.registers)
