use Rattle.std.proofs.Common.{◌≡◌, rules, refl, Ok, Err}
use Rattle.std.proofs.lemmas.Result.{err_from_is_err_and}
use Rattle.dpx_files.specs.declared.job.Need.TheVariants.{Run}
use Rattle.dpx_cli.specs.Jobs.{HasJob}
use Rattle.dpx_cli.specs.Printing.{StepsDo}
use Rattle.dpx_cli.specs.Sending.{ShapeSent}
use Rattle.dpx_cli.specs.Step.{◌⇒◌}
use Rattle.dpx_cli.specs.Training.{TrainStep}
use Rattle.dpx_cli.proofs.Runs.{shape_sent, training_stopped}
use Rattle.dpx_cli.proofs.run.run_steps.Goals as goal

pub returns-clause-steps : goal.returns-clause-steps
returns-clause-steps g c =
    let src = g.S.Source.seen c.args.src.now ⇒ g.S.Source.seen c.read_job_for.new.src in
    let port = g.P.AuxPort.state c.args.aux.now ⇒ g.P.AuxPort.state c.train_link.new.port in
    let pipe = g.T.Pipe.state c.args.pipe.now ⇒ g.T.Pipe.state c.send_shape.new.pipe in
    let pix = g.O.Sink.seen c.args.pix.now ⇒ g.O.Sink.seen c.send_shape.new.pix in
    let out = g.O.Sink.seen c.args.out.now in
    let middle = g.O.Sink.seen c.train_link.new.out in
    let now = g.O.Sink.seen c.send_shape.new.out in
    let port_kept = c.train_link.new.port ≡ c.args.aux.now in
    let kept = (c.send_shape.new.pipe ≡ c.args.pipe.now) × (c.send_shape.new.pix ≡ c.args.pix.now) in
    let job = c.in_ok-link.field-0 in
    let has : HasJob Run src job = search rules in
    let link = c.in_ok-trained-in-Run.trained in
    let step : TrainStep c.in-Run.link c.in-Run.sink port (out ⇒ middle) (Ok link) = search rules in
    let sent : StepsDo (ShapeSent c.in-Run.shape link pipe pix kept) (middle ⇒ now) c.send_shape.result = search rules in
    shape_sent src port port_kept pipe pix kept job has c.in-Run.sink (search rules) c.in-Run.link (search rules) out middle
    link c.in-Run.shape now c.send_shape.result (search rules) step sent

pub returns-in_err-trained-in-Run-clause-steps : goal.returns-in_err-trained-in-Run-clause-steps
returns-in_err-trained-in-Run-clause-steps g c =
    let p = err_from_is_err_and c.from_residual-in_err-trained-in-Run.result
    c.from_residual-in_err-trained-in-Run.ensures.1 in
    let src = g.S.Source.seen c.args.src.now ⇒ g.S.Source.seen c.read_job_for.new.src in
    let port = g.P.AuxPort.state c.args.aux.now ⇒ g.P.AuxPort.state c.train_link.new.port in
    let pipe = g.T.Pipe.state c.args.pipe.now ⇒ g.T.Pipe.state c.args.pipe.now in
    let pix = g.O.Sink.seen c.args.pix.now ⇒ g.O.Sink.seen c.args.pix.now in
    let out = g.O.Sink.seen c.args.out.now in
    let middle = g.O.Sink.seen c.train_link.new.out in
    let port_kept = c.train_link.new.port ≡ c.args.aux.now in
    let kept = (c.args.pipe.now ≡ c.args.pipe.now) × (c.args.pix.now ≡ c.args.pix.now) in
    let job = c.in_ok-link.field-0 in
    let has : HasJob Run src job = search rules in
    let stop = c.in_err-trained-in-Run.field-0.0 in
    let step : TrainStep c.in-Run.link c.in-Run.sink port (out ⇒ middle) (Err stop) = search rules in
    rw p.1 (training_stopped src port port_kept pipe pix kept job has c.in-Run.sink (search rules) c.in-Run.link
    (search rules) out middle p.0 (refl, refl) (rw p.2 step))
