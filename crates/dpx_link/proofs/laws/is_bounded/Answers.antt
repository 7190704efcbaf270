use Rattle.dpx_link.proofs.Bounded.{training_most, training_asked}
use Rattle.dpx_link.proofs.Waits.{training_length}
use Rattle.dpx_link.proofs.laws.is_bounded.Goals as goal

pub returns-clause-transactions : goal.returns-clause-transactions
returns-clause-transactions c = training_most c.args.top

pub returns-clause-asks : goal.returns-clause-asks
returns-clause-asks c = training_asked c.args.top

pub returns-clause-entries : goal.returns-clause-entries
returns-clause-entries c = training_length c.args.top
