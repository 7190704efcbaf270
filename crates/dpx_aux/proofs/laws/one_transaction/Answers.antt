use Rattle.dpx_aux.proofs.Transacts.{transaction_decided}
use Rattle.dpx_aux.proofs.laws.one_transaction.Goals as goal

pub returns : goal.returns
returns c request = transaction_decided request
