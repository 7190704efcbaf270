use Rattle.std.proofs.Common.{ap}
use Rattle.dpx_cli.specs.Step.{◌⇒◌}
use Rattle.dpx_cli.proofs.Printings.{command_prints}
use Rattle.dpx_cli.proofs.Runs.{run_does}
use Rattle.dpx_cli.proofs.run.run.Goals as goal

pub returns-clause-does : goal.returns-clause-does
returns-clause-does g c =
    let steps = c.run_steps-done.ensures.steps in
    let src = g.S.Source.seen c.args.src.now ⇒ g.S.Source.seen c.run_steps-done.new.src in
    let port = g.P.AuxPort.state c.args.aux.now ⇒ g.P.AuxPort.state c.run_steps-done.new.aux in
    let pipe = g.T.Pipe.state c.args.pipe.now ⇒ g.T.Pipe.state c.run_steps-done.new.pipe in
    let pix = g.O.Sink.seen c.args.pix.now ⇒ g.O.Sink.seen c.run_steps-done.new.pix in
    let out = g.O.Sink.seen c.args.out.now ⇒ g.O.Sink.seen c.finish.new.out in
    run_does src port _ pipe pix _ c.a_capture_is_one.ensures
    (λ kept. (ap (λ p. g.T.Pipe.state p) kept.0, ap (λ o. g.O.Sink.seen o) kept.1)) out c.finish.result
    c.run_steps-done.result steps.said steps.caused
    (command_prints _ _ _ steps.said c.run_steps-done.result c.finish.result steps.printed c.finish.ensures)
