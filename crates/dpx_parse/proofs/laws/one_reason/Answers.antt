use Rattle.dpx_parse.proofs.OneReason as reasons
use Rattle.dpx_parse.proofs.laws.one_reason.Goals as goal

pub returns : goal.returns
returns c = reasons.one_reason
