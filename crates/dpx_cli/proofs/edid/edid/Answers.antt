use Rattle.dpx_files.specs.declared.job.Need.TheVariants as need
use Rattle.dpx_cli.specs.Edid.{FetchEnds, FetchReported}
use Rattle.dpx_cli.specs.Step.{◌⇒◌}
use Rattle.dpx_cli.proofs.Edids.{fetches_are_reports}
use Rattle.dpx_cli.proofs.Printings.{command_prints}
use Rattle.dpx_cli.proofs.Reportings.{report_does}
use Rattle.dpx_cli.proofs.edid.edid.Goals as goal

pub returns-clause-does : goal.returns-clause-does
returns-clause-does g c =
    let steps = c.edid_steps-done.ensures.steps in
    let src = g.S.Source.seen c.args.src.now ⇒ g.S.Source.seen c.edid_steps-done.new.src in
    let port = g.P.AuxPort.state c.args.aux.now ⇒ g.P.AuxPort.state c.edid_steps-done.new.aux in
    let out = g.O.Sink.seen c.args.out.now ⇒ g.O.Sink.seen c.finish.new.out in
    report_does need.Edid src _ (FetchEnds src port) (FetchReported src port) (fetches_are_reports src port)
    out c.finish.result steps.said c.edid_steps-done.result steps.caused
    (command_prints _ _ _ steps.said c.edid_steps-done.result c.finish.result steps.printed c.finish.ensures)
