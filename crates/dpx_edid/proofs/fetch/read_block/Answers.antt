use Rattle.std.proofs.Common.{◌++◌, length, ap, ◌∙◌, arith, rules}
use Rattle.std.proofs.lemmas.Result.{err_from_is_err_and}
use Rattle.dpx_edid.proofs.Reading.{read_none, read_more, read_whole, read_ends, from_ok}
use Rattle.dpx_edid.proofs.fetch.read_block.Goals as goal

pub loop-port-init : goal.loop-port-init
loop-port-init g c = read_none _ _ (search rules)

pub loop-port-preserved : goal.loop-port-preserved
loop-port-preserved g c =
    let brings = c.in_ok-brought.ensures.brings in
    let room = c.try_extend_from_slice.ensures.variant.1
    (omega (arith, ap length c.as_slice.ensures.value)) in
    read_more c.loop-port.invariant (omega arith) (omega arith) c.in_ok-brought.ensures.reads brings
    c.in_ok-brought.ensures.few (from_ok c.try_extend_from_slice.result room c.try_extend_from_slice.ensures.ok
    ∙ ap (λ taken. c.loop-port.got.items ++ taken) c.as_slice.ensures.value)

pub returns-in_err-brought-clause-reads : goal.returns-in_err-brought-clause-reads
returns-in_err-brought-clause-reads g c =
    let p = err_from_is_err_and c.from_residual.result c.from_residual.ensures.1 in
    rw (p.1, p.2) (read_ends c.loop-port.invariant (omega arith) (omega arith) c.in_err-brought.ensures.reads)

pub returns-clause-reads : goal.returns-clause-reads
returns-clause-reads g c =
    read_whole c.loop-port.invariant (omega arith) (c.copy_from_slice.ensures.after ∙ c.as_slice-2.ensures.value)
