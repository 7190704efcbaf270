use Rattle.dpx_grammar.proofs.Prefixes.{fronts_are_accepted}
use Rattle.dpx_grammar.proofs.laws.fronts_are_accepted.Goals as goal

pub returns : goal.returns
returns c = fronts_are_accepted
