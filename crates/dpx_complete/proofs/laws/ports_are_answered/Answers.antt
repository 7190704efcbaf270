use Rattle.dpx_complete.proofs.PortsAnswered.{ports_are_answered}
use Rattle.dpx_complete.proofs.laws.ports_are_answered.Goals as goal

pub returns : goal.returns
returns c = ports_are_answered
