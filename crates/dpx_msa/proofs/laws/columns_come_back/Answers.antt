use Rattle.dpx_msa.proofs.Places.{columns_back}
use Rattle.dpx_msa.proofs.laws.columns_come_back.Goals as goal

pub returns-clause-back : goal.returns-clause-back
returns-clause-back c = columns_back
