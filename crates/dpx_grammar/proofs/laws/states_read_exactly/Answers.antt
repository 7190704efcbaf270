use Rattle.dpx_grammar.proofs.Exact.{reads_exactly}
use Rattle.dpx_grammar.proofs.laws.states_read_exactly.Goals as goal

pub returns : goal.returns
returns c = reads_exactly
