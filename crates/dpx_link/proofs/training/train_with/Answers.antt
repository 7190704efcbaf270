use Rattle.std.proofs.lemmas.Result.{err_from_is_err_and}
use Rattle.dpx_aux.proofs.Parts.{then_ok, then_err, ends}
use Rattle.dpx_link.specs.Training.{TrainsWith}
use Rattle.dpx_link.proofs.training.train_with.Goals as goal

pub returns-in_err-verdict-clause-trains : goal.returns-in_err-verdict-clause-trains
unfolding TrainsWith
returns-in_err-verdict-clause-trains g c =
    let p = err_from_is_err_and c.from_residual-in_err-verdict.result c.from_residual-in_err-verdict.ensures.1 in
    rw (p.1, p.2) (then_ok c.in_ok-write_registers.ensures.writes (then_err c.in_err-verdict.ensures.attempts))

pub returns-in_err-write_registers-2-clause-trains : goal.returns-in_err-write_registers-2-clause-trains
unfolding TrainsWith
returns-in_err-write_registers-2-clause-trains g c =
    let residual = c.from_residual-in_err-write_registers-2 in
    let p = err_from_is_err_and residual.result residual.ensures.1 in
    rw (p.1, p.2) (then_ok c.in_ok-write_registers.ensures.writes
    (then_ok c.in_ok-verdict.ensures.attempts (then_err c.in_err-write_registers-2.ensures.writes)))

pub returns-clause-trains : goal.returns-clause-trains
unfolding TrainsWith
returns-clause-trains g c =
    then_ok c.in_ok-write_registers.ensures.writes
    (then_ok c.in_ok-verdict.ensures.attempts (then_ok c.in_ok-write_registers-2.ensures.writes (ends _ _)))
