use Rattle.dpx_complete.proofs.Deferred.{ends_deferred}
use Rattle.dpx_complete.proofs.TrainingAnswered.{ends_by_plan}
use Rattle.dpx_complete.proofs.laws.training_is_complete.Goals as goal

pub returns-clause-complete : goal.returns-clause-complete
returns-clause-complete c = ends_by_plan

pub returns-clause-deferred : goal.returns-clause-deferred
returns-clause-deferred c = ends_deferred
