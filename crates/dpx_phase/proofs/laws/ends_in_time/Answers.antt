use Rattle.std.proofs.Common.{arith}
use Rattle.dpx_phase.proofs.Endings.{recovery_looks_back, equalisation_looks_back}
use Rattle.dpx_phase.proofs.FirstEnd.{ends_within, tenth_ends, fifth_ends}
use Rattle.dpx_phase.proofs.laws.ends_in_time.Goals as goal

pub returns-clause-recovery : goal.returns-clause-recovery
returns-clause-recovery c = ends_within _ 10 (recovery_looks_back c.args.lanes) (tenth_ends c.args.lanes) (omega arith)

pub returns-clause-equalisation : goal.returns-clause-equalisation
returns-clause-equalisation c = ends_within _ 5 (equalisation_looks_back c.args.lanes c.args.drive.registers)
    (fifth_ends c.args.lanes c.args.drive.registers) (omega arith)
