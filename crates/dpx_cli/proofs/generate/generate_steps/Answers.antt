use Rattle.std.proofs.Common.{◌≡◌, ◌∙◌, ℕ, List, ap, inr, subst, sym}
use Rattle.std.proofs.lemmas.Result.{err_from_is_err_and}
use Rattle.dpx_base.specs.Mode.{ModeFacts}
use Rattle.dpx_cli.specs.Gen.{TakesCapture}
use Rattle.dpx_cli.specs.Generating.{GoesRound}
use Rattle.dpx_cli.specs.Step.{◌⇒◌}
use Rattle.dpx_cli.specs.Transfer.{Prints, PrintsFront}
use Rattle.dpx_cli.proofs.Gens.{no_memory, not_taken, on_err, on_ok, report_is, reported}
use Rattle.dpx_cli.proofs.generate.generate_steps.Goals as goal

pub returns-then-is_err : goal.returns-then-is_err
returns-then-is_err g c =
    let pix = g.O.Sink.seen c.args.pix.now ⇒ g.O.Sink.seen c.write_text.new.out in
    let out = g.O.Sink.seen c.args.out.now in
    let kept = c.write_text.new.out ≡ c.args.pix.now in
    let bytes = c.bytes.result.now in
    let round : GoesRound c.args.seed bytes =
    subst (λ (xs : List ℕ). GoesRound c.args.seed xs) (sym c.bytes.ensures) c.in_ok-capture.ensures.capture in
    let broken : PrintsFront pix bytes =
    on_err c.write_text.result (sym c.is_err.ensures.value ∙ c.if-is_err.true) c.write_text.ensures.front in
    not_taken c.args.seed pix kept out bytes round broken

pub returns-in_err-received : goal.returns-in_err-received
returns-in_err-received g c =
    let p = err_from_is_err_and c.from_residual-in_err-received.result c.from_residual-in_err-received.ensures.1 in
    let pix = g.O.Sink.seen c.args.pix.now ⇒ g.O.Sink.seen c.write_text.new.out in
    let out = g.O.Sink.seen c.args.out.now in
    let kept = c.write_text.new.out ≡ c.args.pix.now in
    let bytes = c.bytes.result.now in
    let round : GoesRound c.args.seed bytes =
    subst (λ (xs : List ℕ). GoesRound c.args.seed xs) (sym c.bytes.ensures) c.in_ok-capture.ensures.capture in
    let whole : Prints pix bytes =
    on_ok c.write_text.result (sym c.is_err.ensures.value ∙ c.if-is_err.false) c.write_text.ensures.whole in
    let takes : TakesCapture c.args.seed pix =
    record { bytes = bytes; round = round; taken = whole.taken; calm = whole.calm } in
    rw p.1 (no_memory c.args.seed pix kept out p.0 (p.2 ∙ c.in_err-received.ensures.memory) (inr takes))

pub returns : goal.returns
returns g c =
    let pix = g.O.Sink.seen c.args.pix.now ⇒ g.O.Sink.seen c.write_text.new.out in
    let out = g.O.Sink.seen c.args.out.now in
    let kept = c.write_text.new.out ≡ c.args.pix.now in
    let bytes = c.bytes.result.now in
    let round : GoesRound c.args.seed bytes =
    subst (λ (xs : List ℕ). GoesRound c.args.seed xs) (sym c.bytes.ensures) c.in_ok-capture.ensures.capture in
    let whole : Prints pix bytes =
    on_ok c.write_text.result (sym c.is_err.ensures.value ∙ c.if-is_err.false) c.write_text.ensures.whole in
    let takes : TakesCapture c.args.seed pix =
    record { bytes = bytes; round = round; taken = whole.taken; calm = whole.calm } in
    let depth = c.depth.ensures.value ∙ ap (λ (m : ModeFacts). m.depth) c.mode.ensures.value in
    let said =
    report_is c.args.seed c.plan_of-plan.result c.in_ok-received.received c.depth.result c.bytes-3.result.now
    c.equal_pixels-equal.result c.plan_of-plan.ensures c.in_ok-received.ensures.received depth
    (c.bytes-3.ensures ∙ c.in_ok-received.ensures.records) c.equal_pixels-equal.ensures in
    reported c.args.seed pix kept (out ⇒ g.O.Sink.seen c.print_generated.new.out) _ c.print_generated.result takes said
    c.print_generated.ensures
