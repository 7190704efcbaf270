use Rattle.dpx_phase.proofs.Endings.{recovery_looks_back, equalisation_looks_back}
use Rattle.dpx_phase.proofs.FirstEnd.{ends_once}
use Rattle.dpx_phase.proofs.laws.ends_once.Goals as goal

pub returns-clause-recovery : goal.returns-clause-recovery
returns-clause-recovery c = ends_once _ (recovery_looks_back c.args.lanes)

pub returns-clause-equalisation : goal.returns-clause-equalisation
returns-clause-equalisation c = ends_once _ (equalisation_looks_back c.args.lanes c.args.drive.registers)
