use Rattle.dpx_msa.proofs.ReadBack.{reads_back}
use Rattle.dpx_msa.proofs.laws.what_is_spelled_is_read.Goals as goal

pub returns : goal.returns
returns c = reads_back
