use Rattle.std.specs.Prelude.{codes}
use Rattle.std.proofs.lemmas.Result.{on_ok_weaker}
use Rattle.dpx_cli.specs.Lines.{line_feed}
use Rattle.dpx_cli.specs.SendLines.{named, too_slow_line}
use Rattle.dpx_cli.proofs.LineSteps.{four_pieces}
use Rattle.dpx_cli.proofs.send_lines.push_too_slow.Goals as goal

pub returns : goal.returns
unfolding too_slow_line
returns c =
    on_ok_weaker c.push.result (four_pieces c.args.report.now (named (codes "unfit too slow n ") c.args.n)
    (named (codes " m ") c.args.m) (named (codes " unit ") c.args.unit) line_feed c.in_ok-push_named.ensures
    c.in_ok-push_named-2.ensures (rw c.from.ensures at c.in_ok-push_named-3.ensures)) c.push.ensures
