use Rattle.dpx_grammar.proofs.Plain.{never_bf}
use Rattle.dpx_grammar.proofs.laws.default_has_no_bf.Goals as goal

pub returns : goal.returns
returns c = never_bf
