use Rattle.dpx_aux.proofs.Parts.{then_ok}
use Rattle.dpx_link.specs.Attempt.{Configures}
use Rattle.dpx_link.proofs.attempt.configure.Goals as goal

pub returns-clause-configures : goal.returns-clause-configures
unfolding Configures
returns-clause-configures g c =
    then_ok (rw (
      c.code.ensures,
      c.lanes_byte.ensures,
    ) at c.in_ok-write_registers.ensures.writes) c.write_registers-2.ensures.writes
