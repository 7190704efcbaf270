use Rattle.dpx_aux.proofs.Parts.{then_ok}
use Rattle.dpx_phase.proofs.equalisation.start.Goals as goal

pub returns-clause-runs : goal.returns-clause-runs
returns-clause-runs g c = then_ok c.in_ok-write_start.ensures.starts c.adjust.ensures.follows
