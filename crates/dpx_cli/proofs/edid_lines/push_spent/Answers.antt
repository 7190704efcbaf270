use Rattle.std.specs.Prelude.{codes}
use Rattle.std.proofs.lemmas.Result.{on_ok_weaker}
use Rattle.dpx_cli.specs.EdidLines.{spent_line}
use Rattle.dpx_cli.specs.Lines.{last_word_of, requests_text}
use Rattle.dpx_cli.proofs.LineSteps.{three_pieces}
use Rattle.dpx_cli.proofs.edid_lines.push_spent.Goals as goal

pub returns : goal.returns
unfolding spent_line
returns c =
    on_ok_weaker c.push_requests.result (three_pieces c.args.report.now (codes "i2c spent last ")
    (last_word_of c.args.last) (requests_text c.args.requests) c.in_ok-push.ensures
    (rw c.last_word.ensures at c.in_ok-push-2.ensures)) c.push_requests.ensures
