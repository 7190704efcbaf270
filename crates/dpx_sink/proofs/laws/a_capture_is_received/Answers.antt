use Rattle.dpx_sink.proofs.CapturesWritten as laws
use Rattle.dpx_sink.proofs.laws.a_capture_is_received.Goals as goal

pub returns : goal.returns
returns c = laws.captures_are_written
