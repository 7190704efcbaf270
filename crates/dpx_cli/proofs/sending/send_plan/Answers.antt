use Rattle.std.proofs.Common.{◌≡◌, rules, refl, Ok, Err}
use Rattle.std.proofs.lemmas.Result.{err_from_is_err_and}
use Rattle.dpx_cli.specs.Printing.{StepPrints}
use Rattle.dpx_cli.specs.SendLines.{plan_line}
use Rattle.dpx_cli.specs.Sending.{WritesCapture}
use Rattle.dpx_cli.specs.Step.{◌⇒◌}
use Rattle.dpx_cli.specs.Transfer.{Prints}
use Rattle.dpx_cli.proofs.Captures.{capture_stopped, plan_not_printed, sent_printed}
use Rattle.dpx_cli.proofs.sending.send_plan.Goals as goal

pub returns-in_err-print_plan : goal.returns-in_err-print_plan
returns-in_err-print_plan g c =
    let p = err_from_is_err_and c.from_residual.result c.from_residual.ensures.1 in
    let out = g.O.Sink.seen c.args.out.now ⇒ g.O.Sink.seen c.print_plan.new.out in
    let prints : StepPrints out (plan_line c.args.plan.now) (Err c.in_err-print_plan.field-0.0) = search rules in
    rw p.1 (plan_not_printed c.args.plan.now _ _ _ out p.0 (refl, refl) (rw p.2 prints))

pub returns-in_err-write_capture : goal.returns-in_err-write_capture
returns-in_err-write_capture g c =
    let p = err_from_is_err_and c.from_residual-in_err-write_capture.result c.from_residual-in_err-write_capture.ensures.1
    in
    let out = g.O.Sink.seen c.args.out.now ⇒ g.O.Sink.seen c.print_plan.new.out in
    let printed : Prints out (plan_line c.args.plan.now) = search rules in
    let pipe = g.T.Pipe.state c.args.pipe.now ⇒ g.T.Pipe.state c.write_capture.new.pipe in
    let pix = g.O.Sink.seen c.args.pix.now ⇒ g.O.Sink.seen c.write_capture.new.pix in
    let kept = (c.write_capture.new.pipe ≡ c.args.pipe.now) × (c.write_capture.new.pix ≡ c.args.pix.now) in
    let wrote : WritesCapture c.args.plan.now pipe pix kept (Err c.in_err-write_capture.field-0.0) = search rules in
    rw p.1 (capture_stopped c.args.plan.now pipe pix kept out p.0 printed (rw p.2 wrote))

pub returns : goal.returns
returns g c =
    let printed : Prints (g.O.Sink.seen c.args.out.now ⇒ g.O.Sink.seen c.print_plan.new.out) (plan_line c.args.plan.now) =
    search rules in
    let pipe = g.T.Pipe.state c.args.pipe.now ⇒ g.T.Pipe.state c.write_capture.new.pipe in
    let pix = g.O.Sink.seen c.args.pix.now ⇒ g.O.Sink.seen c.write_capture.new.pix in
    let kept = (c.write_capture.new.pipe ≡ c.args.pipe.now) × (c.write_capture.new.pix ≡ c.args.pix.now) in
    let wrote : WritesCapture c.args.plan.now pipe pix kept (Ok tt) = search rules in
    sent_printed c.args.plan.now pipe pix kept c.a_capture_is_one.ensures _ _ _ c.print_sent.result printed wrote
    c.print_sent.ensures
