use Rattle.dpx_aux.proofs.Transacts.{transaction_suffices}
use Rattle.dpx_aux.proofs.laws.some_transaction.Goals as goal

pub returns : goal.returns
returns c request = transaction_suffices request
