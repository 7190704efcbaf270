use Rattle.std.proofs.Common.{◌+◌, ◌++◌, drop, refl, sym, ap, subst, ◌∙◌, arith}
use Rattle.std.proofs.lemmas.List.{take_more, take-append-drop, length-take-le}
use Rattle.std.proofs.lemmas.Result.{err_from_is_err_and}
use Rattle.dpx_cli.proofs.Watches.{HasTaken, nothing_taken, taken_front, taken_more}
use Rattle.dpx_cli.proofs.watching.take_events.Goals as goal

pub loop-number-init : goal.loop-number-init
loop-number-init g c = record {
  taken = rw c.new-watch.ensures (nothing_taken c.args.link _ c.args.report.now);
  within = omega arith;
  end = refl;
  few = omega arith;
}

pub returns-in_err-take_event : goal.returns-in_err-take_event
returns-in_err-take_event g c =
    let p = err_from_is_err_and c.from_residual.result c.from_residual.ensures.1 in
    let n = c.loop-number.number in
    let events = c.args.events.now in
    rw p.1 (taken_front events (drop (n + 1) events) p.0 c.loop-number.invariant.taken
    c.in_err-take_event.ensures.taken
    (sym (take-append-drop (n + 1) events)
    ∙ ap (λ es. es ++ drop (n + 1) events) (take_more events n _ c.loop-number-test.true)))

pub loop-number-preserved : goal.loop-number-preserved
loop-number-preserved g c =
    let n = c.loop-number.number in
    let events = c.args.events.now in
    let old = c.loop-number.invariant in
    let inside = c.loop-number-test.true in
    record {
      taken = subst (λ es. HasTaken c.args.link es c.take_event.new.watch (g.P.AuxPort.state c.args.port.now)
          (g.P.AuxPort.state c.take_event.new.port) c.args.report.now c.take_event.new.report)
          (sym (take_more events n _ inside))
          (taken_more old.taken c.in_ok-take_event.ensures.taken refl
          (sym (length-take-le n events (omega (arith, inside)))));
      within = omega (arith, inside);
      end = refl;
      few = omega (arith, old.few, c.in_ok-take_event.ensures.few);
    }
