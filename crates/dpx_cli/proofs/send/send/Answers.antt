use Rattle.std.proofs.Common.{ap}
use Rattle.dpx_cli.specs.Step.{◌⇒◌}
use Rattle.dpx_cli.proofs.Printings.{command_prints}
use Rattle.dpx_cli.proofs.Sends.{send_does}
use Rattle.dpx_cli.proofs.send.send.Goals as goal

pub returns : goal.returns
returns g c =
    let steps = c.send_steps-done.ensures in
    let src = g.S.Source.seen c.args.src.now ⇒ g.S.Source.seen c.send_steps-done.new.src in
    let pipe = g.T.Pipe.state c.args.pipe.now ⇒ g.T.Pipe.state c.send_steps-done.new.pipe in
    let pix = g.O.Sink.seen c.args.pix.now ⇒ g.O.Sink.seen c.send_steps-done.new.pix in
    let out = g.O.Sink.seen c.args.out.now ⇒ g.O.Sink.seen c.finish.new.out in
    send_does src pipe pix _ c.a_capture_is_one.ensures
    (λ kept. (ap (λ p. g.T.Pipe.state p) kept.0, ap (λ o. g.O.Sink.seen o) kept.1)) out c.finish.result
    c.send_steps-done.result steps.said steps.caused
    (command_prints _ _ _ steps.said c.send_steps-done.result c.finish.result steps.printed c.finish.ensures)
