use Rattle.dpx_parse.proofs.Hearing as hearing
use Rattle.dpx_parse.proofs.laws.events_give_frames.Goals as goal

pub returns : goal.returns
returns c = hearing.gives_frames
