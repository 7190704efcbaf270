use Rattle.dpx_align.proofs.OneFault.{faults_are_one, fault_stays, symbols_are_one}
use Rattle.dpx_align.proofs.laws.first_fault_stays.Goals as goal

pub returns-clause-one : goal.returns-clause-one
returns-clause-one c = faults_are_one

pub returns-clause-stays : goal.returns-clause-stays
returns-clause-stays c = fault_stays

pub returns-clause-symbols : goal.returns-clause-symbols
returns-clause-symbols c = symbols_are_one
