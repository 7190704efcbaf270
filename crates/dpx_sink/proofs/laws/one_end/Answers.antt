use Rattle.dpx_sink.proofs.CapturesWritten as laws
use Rattle.dpx_sink.proofs.laws.one_end.Goals as goal

pub returns : goal.returns
returns c = laws.one_end
