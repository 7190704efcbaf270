use Rattle.dpx_source.proofs.Endings.{has_begun}
use Rattle.dpx_source.proofs.laws.pipes_begin.Goals as goal

pub returns : goal.returns
returns c = has_begun
