use Rattle.dpx_parse.proofs.OneEvent as events
use Rattle.dpx_parse.proofs.laws.one_event.Goals as goal

pub returns : goal.returns
returns c = events.one_event
