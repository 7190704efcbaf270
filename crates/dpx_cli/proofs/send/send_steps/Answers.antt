use Rattle.std.proofs.Common.{◌≡◌, rules}
use Rattle.dpx_files.specs.declared.job.Need.TheVariants.{Send}
use Rattle.dpx_cli.specs.Jobs.{HasJob}
use Rattle.dpx_cli.specs.Printing.{StepsDo}
use Rattle.dpx_cli.specs.Sending.{ShapeSent}
use Rattle.dpx_cli.specs.Step.{◌⇒◌}
use Rattle.dpx_cli.proofs.Sends.{steps_of_shape}
use Rattle.dpx_cli.proofs.send.send_steps.Goals as goal

pub returns : goal.returns
returns g c =
    let src = g.S.Source.seen c.args.src.now ⇒ g.S.Source.seen c.read_job_for.new.src in
    let pipe = g.T.Pipe.state c.args.pipe.now ⇒ g.T.Pipe.state c.send_shape.new.pipe in
    let pix = g.O.Sink.seen c.args.pix.now ⇒ g.O.Sink.seen c.send_shape.new.pix in
    let out = g.O.Sink.seen c.args.out.now ⇒ g.O.Sink.seen c.send_shape.new.out in
    let kept = (c.send_shape.new.pipe ≡ c.args.pipe.now) × (c.send_shape.new.pix ≡ c.args.pix.now) in
    let job = c.in_ok-link.field-0 in
    let has : HasJob Send src job = search rules in
    let sent : StepsDo (ShapeSent c.in-Send.shape c.in-Send.link pipe pix kept) out c.send_shape.result = search rules in
    steps_of_shape src pipe pix kept job has c.in-Send.shape (search rules) c.in-Send.link (search rules) out
    c.send_shape.result sent
