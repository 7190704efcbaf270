use Rattle.dpx_link.proofs.FallsBack.{recovery_falls_back, equalisation_falls_back}
use Rattle.dpx_link.proofs.laws.falls_back.Goals as goal

pub returns-clause-recovery : goal.returns-clause-recovery
returns-clause-recovery c = recovery_falls_back

pub returns-clause-equalisation : goal.returns-clause-equalisation
returns-clause-equalisation c = equalisation_falls_back
