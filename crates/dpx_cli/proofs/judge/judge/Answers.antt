use Rattle.std.specs.Prelude.{⊤}
use Rattle.dpx_files.specs.declared.job.Need.TheVariants as need
use Rattle.dpx_cli.specs.Judge.{VerdictReported}
use Rattle.dpx_cli.specs.Step.{◌⇒◌}
use Rattle.dpx_cli.proofs.Judges.{verdicts_are_reports}
use Rattle.dpx_cli.proofs.Printings.{command_prints}
use Rattle.dpx_cli.proofs.Reportings.{report_does}
use Rattle.dpx_cli.proofs.judge.judge.Goals as goal

pub returns : goal.returns
returns g c =
    let steps = c.judge_steps-done.ensures in
    let src = g.S.Source.seen c.args.src.now ⇒ g.S.Source.seen c.judge_steps-done.new.src in
    let out = g.O.Sink.seen c.args.out.now ⇒ g.O.Sink.seen c.finish.new.out in
    report_does need.Judge src ⊤ ⊤ (VerdictReported src) (verdicts_are_reports src)
    out c.finish.result steps.said c.judge_steps-done.result steps.caused
    (command_prints _ _ _ steps.said c.judge_steps-done.result c.finish.result steps.printed c.finish.ensures)
