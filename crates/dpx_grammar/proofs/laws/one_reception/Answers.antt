use Rattle.dpx_grammar.proofs.Unique.{is_one}
use Rattle.dpx_grammar.proofs.laws.one_reception.Goals as goal

pub returns : goal.returns
returns c = is_one
