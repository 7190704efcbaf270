use Rattle.dpx_parse.proofs.Accepting as accepting
use Rattle.dpx_parse.proofs.laws.accepted_without_fault.Goals as goal

pub returns : goal.returns
returns c = accepting.accepts_exactly
