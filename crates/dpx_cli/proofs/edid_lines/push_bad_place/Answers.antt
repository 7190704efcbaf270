use Rattle.std.specs.Prelude.{codes}
use Rattle.std.proofs.lemmas.Result.{on_ok_weaker}
use Rattle.dpx_cli.specs.EdidLines.{bad_place_line}
use Rattle.dpx_cli.specs.Lines.{requests_text}
use Rattle.dpx_cli.specs.SendLines.{named}
use Rattle.dpx_cli.proofs.LineSteps.{two_pieces}
use Rattle.dpx_cli.proofs.edid_lines.push_bad_place.Goals as goal

pub returns : goal.returns
unfolding bad_place_line
returns c =
    on_ok_weaker c.push_requests.result (two_pieces c.args.report.now (named (codes "edid header ") c.args.place)
    (requests_text c.args.requests) (rw c.from.ensures at c.in_ok-push_named.ensures)) c.push_requests.ensures
