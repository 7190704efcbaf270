use Rattle.std.proofs.Common.{◌≡◌, rules, Ok, Err}
use Rattle.std.proofs.lemmas.Result.{err_from_is_err_and}
use Rattle.std.specs.declared.alloc.AllocError.{AllocError}
use Rattle.dpx_files.specs.declared.job.Need.TheVariants.{Watch}
use Rattle.dpx_cli.specs.Jobs.{HasJob}
use Rattle.dpx_cli.specs.Step.{◌⇒◌}
use Rattle.dpx_cli.specs.Watching.{EventsAreWatched}
use Rattle.dpx_cli.proofs.Watches.{watching_stopped, watching_printed}
use Rattle.dpx_cli.proofs.watch.watch_steps.Goals as goal

pub returns-in_err-watch_events-in-Watch-clause-steps : goal.returns-in_err-watch_events-in-Watch-clause-steps
returns-in_err-watch_events-in-Watch-clause-steps g c =
    let p = err_from_is_err_and c.from_residual-in_err-watch_events-in-Watch.result
    c.from_residual-in_err-watch_events-in-Watch.ensures.1 in
    let src = g.S.Source.seen c.args.src.now ⇒ g.S.Source.seen c.read_job_for.new.src in
    let port = g.P.AuxPort.state c.args.aux.now ⇒ g.P.AuxPort.state c.watch_events.new.port in
    let out = g.O.Sink.seen c.args.out.now in
    let kept = c.watch_events.new.port ≡ c.args.aux.now in
    let job = c.in_ok-link.field-0 in
    let has : HasJob Watch src job = search rules in
    let report = c.new-report.result ⇒ c.watch_events.new.report in
    let watched : EventsAreWatched {E = AllocError} c.in-Watch.link c.in-Watch.sink c.in-Watch.events port report
    (Err c.in_err-watch_events-in-Watch.field-0.0) = search rules in
    rw (p.1, p.2) (watching_stopped src port kept out out job has c.in-Watch.sink (search rules) c.in-Watch.link
    (search rules) c.in-Watch.events (search rules) c.in_err-watch_events-in-Watch.field-0.0 report watched)

pub returns-clause-steps : goal.returns-clause-steps
returns-clause-steps g c =
    let src = g.S.Source.seen c.args.src.now ⇒ g.S.Source.seen c.read_job_for.new.src in
    let port = g.P.AuxPort.state c.args.aux.now ⇒ g.P.AuxPort.state c.watch_events.new.port in
    let out = g.O.Sink.seen c.args.out.now in
    let out_now = g.O.Sink.seen c.print.new.out in
    let kept = c.watch_events.new.port ≡ c.args.aux.now in
    let job = c.in_ok-link.field-0 in
    let has : HasJob Watch src job = search rules in
    let report = c.new-report.result ⇒ c.watch_events.new.report in
    let watched : EventsAreWatched {E = AllocError} c.in-Watch.link c.in-Watch.sink c.in-Watch.events port report (Ok tt) =
    search rules in
    watching_printed src port kept out out_now job has c.in-Watch.sink (search rules) c.in-Watch.link
    (search rules) c.in-Watch.events (search rules) report c.new-report.ensures watched c.print.result c.print.ensures
