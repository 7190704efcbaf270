use Rattle.std.proofs.Common.{sym, ◌∙◌}
use Rattle.std.proofs.lemmas.Bool.{false≢true}
use Rattle.dpx_judge.proofs.Takings.{asked_bytes, compares, not_asked, took_ask}
use Rattle.dpx_judge.proofs.taking.take_ask.Goals as goal

pub returns-in_default : goal.returns-in_default
returns-in_default c =
    not_asked c.args.top c.args.turn.step c.args.turn.in_vain c.args.request.now c.args.entry.now c.requires.asks
    (λ answer e. c.in_default.not-Asked _ answer e)

pub returns-then-eq : goal.returns-then-eq
returns-then-eq c =
    let test = compares _ _ _ _ _ _ c.eq.ensures c.as_slice.ensures.value c.as_slice-2.ensures.value
    c.encode_request.ensures in
    took_ask c.args.top c.args.turn.step c.args.turn.in_vain c.args.request.now c.args.entry.now c.in-Asked.bytes
    c.in-Asked.answer c.heard_from.result c.hear.result c.requires.asks c.args.turn.few c.in-Asked.is
    (test.0 c.if-eq.true) c.heard_from.ensures c.hear.ensures

pub returns-else-eq : goal.returns-else-eq
returns-else-eq c =
    let test = compares _ _ _ _ _ _ c.eq.ensures c.as_slice.ensures.value c.as_slice-2.ensures.value
    c.encode_request.ensures in
    not_asked c.args.top c.args.turn.step c.args.turn.in_vain c.args.request.now c.args.entry.now c.requires.asks
    (λ answer e. absurd (false≢true (sym c.if-eq.false ∙ test.1 (asked_bytes c.in-Asked.is e))))
