use Rattle.std.proofs.Common.{subst}
use Rattle.dpx_base.specs.Plan.{PlanFacts}
use Rattle.dpx_cli.specs.Sending.{WritesCapture}
use Rattle.dpx_cli.specs.Step.{◌⇒◌}
use Rattle.dpx_cli.proofs.Captures.{begun_before, carried, not_begun}
use Rattle.dpx_cli.proofs.sending.write_capture.Goals as goal

pub begin-begun-requires-clause-carried : goal.begin-begun-requires-clause-carried
begin-begun-requires-clause-carried g c =
    rw (c.mode.ensures.value, c.link.ensures) (carried c.args.plan.now c.mode.ensures.planned)

pub returns-in-Ok-begun : goal.returns-in-Ok-begun
returns-in-Ok-begun g c =
    let pix = g.O.Sink.seen c.args.pix.now ⇒ g.O.Sink.seen c.write_frames.new.pix in
    let pipe = g.T.Pipe.state c.begin-begun.new.self ⇒ g.T.Pipe.state c.write_frames.new.pipe in
    let wrote = subst (λ (p : PlanFacts). WritesCapture p pipe pix ⊥ c.write_frames.result) c.in-Ok.ensures.plan
    c.write_frames.ensures in
    begun_before c.args.plan.now _ _ _ pix _ c.in-Ok-begun.ensures.begun.pixels
    (c.in-Ok-begun.ensures.faults.calm (λ e. cc)) c.write_frames.result wrote

pub returns : goal.returns
returns g c =
    rw c.stop_of_begin.ensures
    (not_begun c.args.plan.now _ _ _ _ c.in-Err.end c.in-Err.ensures.begun.sets
    c.in-Err.ensures.faults)
