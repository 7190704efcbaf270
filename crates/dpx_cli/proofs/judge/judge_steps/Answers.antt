use Rattle.std.proofs.Common.{rules}
use Rattle.dpx_files.specs.declared.job.Need.TheVariants.{Judge}
use Rattle.dpx_cli.specs.Jobs.{HasJob}
use Rattle.dpx_cli.specs.Step.{◌⇒◌}
use Rattle.dpx_cli.proofs.Judges.{job_said}
use Rattle.dpx_cli.proofs.judge.judge_steps.Goals as goal

pub returns : goal.returns
returns g c =
    let src = g.S.Source.seen c.args.src.now ⇒ g.S.Source.seen c.read_job_for.new.src in
    let job = c.in_ok-link.field-0 in
    let has : HasJob Judge src job = search rules in
    job_said src (g.O.Sink.seen c.args.out.now) (g.O.Sink.seen c.say.new.out) job c.in-Judge.link c.in-Judge.entries
    c.as_slice-entries.result.now c.judge_all.result c.say.result has c.in-Judge.is c.as_slice-entries.ensures
    c.judge_all.ensures c.say.ensures
