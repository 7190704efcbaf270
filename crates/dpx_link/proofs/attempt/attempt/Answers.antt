use Rattle.dpx_aux.proofs.Parts.{then_ok}
use Rattle.dpx_link.specs.Attempt.{Attempt}
use Rattle.dpx_link.proofs.attempt.attempt.Goals as goal

pub returns-clause-attempt : goal.returns-clause-attempt
unfolding Attempt
returns-clause-attempt g c = then_ok c.in_ok-configure.ensures.configures c.phases.ensures.phases
