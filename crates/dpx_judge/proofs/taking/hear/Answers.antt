use Rattle.std.proofs.Common.{arith}
use Rattle.dpx_judge.proofs.Takings.{took_again, took_bytes, took_last, took_refusal}
use Rattle.dpx_judge.proofs.taking.hear.Goals as goal

pub returns-in-End-Ok : goal.returns-in-End-Ok
returns-in-End-Ok c =
    let is = c.in-End-Ok.is in
    let brought = c.in-End-Ok.field-0-is in
    took_bytes c.args.top c.args.turn.step c.args.turn.in_vain c.args.request.now c.args.heard c.in-End-Ok.bytes
    c.as_slice.result.now c.what_follows.result c.passed.result c.args.turn.sound (cc) c.as_slice.ensures.value
    c.what_follows.ensures.value c.passed.ensures

pub returns-in-End-Err : goal.returns-in-End-Err
returns-in-End-Err c =
    let is = c.in-End-Err.is in
    let failed = c.in-End-Err.field-0-is in
    took_refusal c.args.top c.args.turn.step c.args.turn.in_vain c.args.request.now c.args.heard c.in-End-Err.why (cc)

pub returns-then-turn-lt-ASKS : goal.returns-then-turn-lt-ASKS
returns-then-turn-lt-ASKS c =
    took_again c.args.top c.args.turn.step c.args.turn.in_vain c.args.request.now c.args.heard c.in-InVain.last
    c.in-InVain.is c.if-turn-lt-ASKS.true

pub returns-else-turn-lt-ASKS : goal.returns-else-turn-lt-ASKS
returns-else-turn-lt-ASKS c =
    took_last c.args.top c.args.turn.step c.args.turn.in_vain c.args.request.now c.args.heard c.in-InVain.last
    c.spent.result c.in-InVain.is (omega arith) c.spent.ensures
