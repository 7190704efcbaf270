use Rattle.std.proofs.Common.{◌≡◌, rules, Ok, Err}
use Rattle.std.proofs.lemmas.Result.{err_from_is_err_and}
use Rattle.dpx_cli.specs.Jobs.{HasJob}
use Rattle.dpx_files.specs.declared.job.Need.TheVariants.{Train}
use Rattle.dpx_cli.specs.Step.{◌⇒◌}
use Rattle.dpx_cli.specs.Training.{TrainStep}
use Rattle.dpx_cli.proofs.Trainings.{training_done, training_stopped}
use Rattle.dpx_cli.proofs.train.train_steps.Goals as goal

pub returns-clause-steps : goal.returns-clause-steps
returns-clause-steps g c =
    let src = g.S.Source.seen c.args.src.now ⇒ g.S.Source.seen c.read_job_for.new.src in
    let port = g.P.AuxPort.state c.args.aux.now ⇒ g.P.AuxPort.state c.train_link.new.port in
    let out = g.O.Sink.seen c.args.out.now in
    let out_now = g.O.Sink.seen c.train_link.new.out in
    let kept = c.train_link.new.port ≡ c.args.aux.now in
    let job = c.in_ok-link.field-0 in
    let has : HasJob Train src job = search rules in
    let link = c.in_ok-train_link-in-Train.field-0 in
    let step : TrainStep c.in-Train.link c.in-Train.sink port (out ⇒ out_now) (Ok link) = search rules in
    training_done src port kept out out_now job has c.in-Train.sink (search rules) c.in-Train.link (search rules) link step

pub returns-in_err-train_link-in-Train-clause-steps : goal.returns-in_err-train_link-in-Train-clause-steps
returns-in_err-train_link-in-Train-clause-steps g c =
    let p = err_from_is_err_and c.from_residual-in_err-train_link-in-Train.result
    c.from_residual-in_err-train_link-in-Train.ensures.1 in
    let src = g.S.Source.seen c.args.src.now ⇒ g.S.Source.seen c.read_job_for.new.src in
    let port = g.P.AuxPort.state c.args.aux.now ⇒ g.P.AuxPort.state c.train_link.new.port in
    let out = g.O.Sink.seen c.args.out.now in
    let out_now = g.O.Sink.seen c.train_link.new.out in
    let kept = c.train_link.new.port ≡ c.args.aux.now in
    let job = c.in_ok-link.field-0 in
    let has : HasJob Train src job = search rules in
    let stop = c.in_err-train_link-in-Train.field-0.0 in
    let step : TrainStep c.in-Train.link c.in-Train.sink port (out ⇒ out_now) (Err stop) = search rules in
    rw p.1 (training_stopped src port kept out out_now job has c.in-Train.sink (search rules) c.in-Train.link
    (search rules) p.0 (rw p.2 step))
