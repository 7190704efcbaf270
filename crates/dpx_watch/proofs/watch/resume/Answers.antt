use Rattle.dpx_aux.proofs.Parts.{then_ok}
use Rattle.dpx_watch.specs.Step.{Resumes}
use Rattle.dpx_watch.proofs.watch.resume.Goals as goal

pub returns-clause-done : goal.returns-clause-done
unfolding Resumes
returns-clause-done g c = then_ok c.in_ok-write_registers.ensures.writes c.check.ensures.done
