use Rattle.dpx_reception.proofs.FaultsStay as laws
use Rattle.dpx_reception.proofs.laws.faults_stay.Goals as goal

pub returns : goal.returns
returns c = laws.faults_stay
