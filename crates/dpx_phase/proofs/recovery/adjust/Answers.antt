use Rattle.std.proofs.Common.{◌≡◌, ◌+◌, ◌-◌, arith}
use Rattle.std.proofs.lemmas.Result.{err_from_is_err_and}
use Rattle.dpx_phase.proofs.RecoveryRounds.{recovers_not_yet, recovers_on, recovered, unread_recovery}
use Rattle.dpx_phase.proofs.RecoveryRounds.{unwritten_recovery}
use Rattle.dpx_phase.proofs.recovery.adjust.Goals as goal

pub loop-number-init : goal.loop-number-init
loop-number-init g c = recovers_not_yet c.args.lanes _

pub returns-in_err-status-clause-follows : goal.returns-in_err-status-clause-follows
returns-in_err-status-clause-follows g c =
    let p = err_from_is_err_and c.from_residual.result c.from_residual.ensures.1 in
    rw (p.1, p.2) (unread_recovery c.loop-number.invariant c.in_err-status.ensures.reads)

pub returns-in-Some-clause-follows : goal.returns-in-Some-clause-follows
returns-in-Some-clause-follows g c = recovered c.loop-number.invariant c.loop-number.number
    (omega arith) c.in_ok-status.ensures.reads c.in-Some.ensures.value

pub returns-in_err-write_drive-clause-follows : goal.returns-in_err-write_drive-clause-follows
returns-in_err-write_drive-clause-follows g c =
    let residual = c.from_residual-in_err-write_drive in
    let p = err_from_is_err_and residual.result residual.ensures.1 in
    let writes = rw c.next_level-level.ensures.drive at c.in_err-write_drive.ensures.writes in
    rw (p.1, p.2) (unwritten_recovery c.loop-number.invariant c.loop-number.number
    (omega arith) c.in_ok-status.ensures.reads c.in-None.ensures.value writes)

pub loop-number-preserved : goal.loop-number-preserved
loop-number-preserved g c =
    let e : c.loop-number.number + 1 - 1 ≡ c.loop-number.number = omega arith in
    rw (c.next_level-level.ensures.drive, c.next_level-level.ensures.alike, e) (recovers_on c.loop-number.invariant (record {
      reads = c.in_ok-status.ensures.reads;
      ends_nothing = c.in-None.ensures.value;
      writes = rw c.next_level-level.ensures.drive at c.in_ok-write_drive.ensures.writes;
      few = c.in-None.ensures.unended;
      read_few = c.in_ok-status.ensures.few;
      write_few = c.in_ok-write_drive.ensures.few;
    }) (omega arith))
