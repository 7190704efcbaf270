use Rattle.dpx_reception.proofs.SentCaptures as laws
use Rattle.dpx_reception.proofs.laws.captures_are_received.Goals as goal

pub returns : goal.returns
returns c = laws.captures_are_received
