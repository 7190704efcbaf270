use Rattle.std.proofs.Common.{rules}
use Rattle.dpx_aux.proofs.Parts.{then_ok, choose_true}
use Rattle.dpx_link.specs.Training.{Capabilities}
use Rattle.dpx_link.proofs.training.capabilities.Goals as goal

pub returns-then-has_extended-clause-capabilities : goal.returns-then-has_extended-clause-capabilities
unfolding Capabilities
returns-then-has_extended-clause-capabilities g c =
    then_ok c.in_ok-block.ensures.reads (choose_true (search rules) c.read_block-then-has_extended.ensures.reads)
