use Rattle.dpx_aux.proofs.Parts.{waits, then_ok}
use Rattle.dpx_phase.proofs.steps.read_later.Goals as goal

pub returns-clause-reads : goal.returns-clause-reads
returns-clause-reads g c = then_ok (waits c.wait.ensures) c.read_status.ensures.reads
