use Rattle.std.specs.Prelude.{codes}
use Rattle.std.proofs.lemmas.Result.{on_ok_weaker}
use Rattle.dpx_cli.specs.EdidLines.{refused_line}
use Rattle.dpx_cli.specs.Lines.{requests_text}
use Rattle.dpx_cli.proofs.LineSteps.{two_pieces}
use Rattle.dpx_cli.proofs.edid_lines.push_refused.Goals as goal

pub returns : goal.returns
unfolding refused_line
returns c =
    on_ok_weaker c.push_requests.result (two_pieces c.args.report.now (codes "i2c refused")
    (requests_text c.args.requests) c.in_ok-push.ensures) c.push_requests.ensures
