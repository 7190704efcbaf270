use Rattle.dpx_phase.proofs.Suffices.{recovery_suffices, equalisation_suffices}
use Rattle.dpx_phase.proofs.laws.is_answered.Goals as goal

pub returns-clause-recovery : goal.returns-clause-recovery
returns-clause-recovery c = recovery_suffices c.args.link

pub returns-clause-equalisation : goal.returns-clause-equalisation
returns-clause-equalisation c = equalisation_suffices c.args.link c.args.pattern c.args.drive c.args.interval
