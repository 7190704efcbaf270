use Rattle.dpx_cli.specs.Step.{◌⇒◌}
use Rattle.dpx_cli.proofs.Gens.{gen_does}
use Rattle.dpx_cli.proofs.Printings.{command_prints}
use Rattle.dpx_cli.proofs.generate.generate.Goals as goal

pub returns : goal.returns
returns g c =
    let steps = c.generate_steps-done.ensures in
    let pix = g.O.Sink.seen c.args.pix.now ⇒ g.O.Sink.seen c.generate_steps-done.new.pix in
    let out = g.O.Sink.seen c.args.out.now ⇒ g.O.Sink.seen c.finish.new.out in
    gen_does c.args.seed pix _ out c.finish.result c.generate_steps-done.result steps.said steps.caused
    (command_prints _ _ _ steps.said c.generate_steps-done.result c.finish.result steps.printed c.finish.ensures)
