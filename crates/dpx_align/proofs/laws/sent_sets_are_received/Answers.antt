use Rattle.dpx_align.proofs.SentSets.{received}
use Rattle.dpx_align.proofs.SentThere.{words_there, symbols_there}
use Rattle.dpx_align.proofs.laws.sent_sets_are_received.Goals as goal

pub returns-clause-received : goal.returns-clause-received
returns-clause-received c = received

pub returns-clause-words : goal.returns-clause-words
returns-clause-words c = words_there

pub returns-clause-symbols : goal.returns-clause-symbols
returns-clause-symbols c = symbols_there
