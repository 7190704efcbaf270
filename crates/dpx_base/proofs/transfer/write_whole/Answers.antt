use Rattle.std.proofs.Common.{◌≡◌, ◌-◌, length, take, drop, sym, ap, ◌∙◌, arith, length-drop}
use Rattle.std.proofs.Math.Seq.{take-add}
use Rattle.std.proofs.lemmas.List.{take_rest, take-append-drop}
use Rattle.std.proofs.lemmas.Result.{err_from_is_err_and}
use Rattle.dpx_base.proofs.Appending.{appends_more, appends_kept}
use Rattle.dpx_base.proofs.transfer.write_whole.Goals as goal

pub returns-in_err-start-clause-front : goal.returns-in_err-start-clause-front
returns-in_err-start-clause-front g c =
    let p = err_from_is_err_and c.from_residual.result c.from_residual.ensures.1 in
    let start = c.loop-start.start in
    let bytes = c.args.bytes.now in
    rw p.1 (record {
      front = take start bytes;
      rest = drop start bytes;
      divided = sym (take-append-drop start bytes);
      taken = appends_kept _ _ _ (take start bytes) c.loop-start.invariant.taken c.in_err-start.ensures.appends;
    })

pub loop-start-preserved : goal.loop-start-preserved
loop-start-preserved g c =
    let start = c.loop-start.start in
    let n = c.in_ok-start.field-0 in
    let bytes = c.args.bytes.now in
    let rest = take (length bytes - start) (drop start bytes) in
    let here = c.in_ok-start.ensures in
    let piece : take n rest ≡ take n (drop start bytes) = ap (λ xs. take n xs) (take_rest bytes start) in
    let taken = appends_more _ _ _ (take start bytes) (take n rest) c.loop-start.invariant.taken here.appends in
    record {
      within = omega (arith, here.within, ap length (take_rest bytes start), length-drop start bytes);
      taken = rw (take-add start n bytes, ← piece) taken;
      calm = here.cause.calm ∙ c.loop-start.invariant.calm;
    }
