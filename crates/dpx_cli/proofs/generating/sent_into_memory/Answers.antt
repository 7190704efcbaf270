use Rattle.std.proofs.Common.{ap}
use Rattle.dpx_base.specs.Seen.{SinkInMemory}
use Rattle.dpx_files.specs.GenPipe.{PipeOfNumber}
use Rattle.dpx_cli.proofs.Generations.{NumberLaws, nothing_else, wrote_capture}
use Rattle.dpx_cli.proofs.generating.sent_into_memory.Goals as goal

pub want_of_memory-requires : goal.want_of_memory-requires
want_of_memory-requires g c =
    let laws : NumberLaws = record {
      fit = c.frames_fit.ensures;
      count = c.frames_are_whole.ensures.count;
      in_range = c.frames_are_whole.ensures.in_range;
      received = c.captures_are_received.ensures;
    } in
    nothing_else laws c.args.seed c.args.plan.now c.new-pipe.result c.write_capture.new.pipe c.in_ok-capture.capture
    c.write_capture.new.pix _ c.requires (ap (λ (p : PipeOfNumber). p.seed) c.new-pipe.ensures) c.write_capture.result
    c.write_capture.ensures c.in-Err.stop c.in-Err.is

pub returns-in-Ok-clause-capture : goal.returns-in-Ok-clause-capture
returns-in-Ok-clause-capture g c =
    let laws : NumberLaws = record {
      fit = c.frames_fit.ensures;
      count = c.frames_are_whole.ensures.count;
      in_range = c.frames_are_whole.ensures.in_range;
      received = c.captures_are_received.ensures;
    } in
    wrote_capture laws c.args.seed c.args.plan.now c.new-pipe.result c.write_capture.new.pipe c.in_ok-capture.capture
    c.write_capture.new.pix _ c.requires (ap (λ (p : PipeOfNumber). p.seed) c.new-pipe.ensures) c.write_capture.result
    c.write_capture.ensures (ap (λ (s : SinkInMemory). s.taken) c.in_ok-capture.ensures) c.in-Ok.is
