use Rattle.std.proofs.Common.{◌≡◌, rules}
use Rattle.dpx_files.specs.declared.job.Need.TheVariants.{Edid}
use Rattle.dpx_cli.specs.Fetching.{FetchStep}
use Rattle.dpx_cli.specs.Jobs.{HasJob}
use Rattle.dpx_cli.specs.Step.{◌⇒◌}
use Rattle.dpx_cli.proofs.Edids.{fetch_steps}
use Rattle.dpx_cli.proofs.edid.edid_steps.Goals as goal

pub returns-clause-steps : goal.returns-clause-steps
returns-clause-steps g c =
    let src = g.S.Source.seen c.args.src.now ⇒ g.S.Source.seen c.read_job_for.new.src in
    let port = g.P.AuxPort.state c.args.aux.now ⇒ g.P.AuxPort.state c.report_block.new.port in
    let out = g.O.Sink.seen c.args.out.now in
    let out_now = g.O.Sink.seen c.report_block.new.out in
    let kept = c.report_block.new.port ≡ c.args.aux.now in
    let job = c.in_ok-sink.field-0 in
    let has : HasJob Edid src job = search rules in
    let step : FetchStep c.in-Edid.sink port (out ⇒ out_now) c.report_block.result = search rules in
    fetch_steps src port kept job has c.in-Edid.sink (search rules) out out_now c.report_block.result step
