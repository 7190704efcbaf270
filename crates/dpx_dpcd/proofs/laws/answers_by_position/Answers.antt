use Rattle.dpx_dpcd.proofs.Positions.{defers_by_position, silent_elsewhere}
use Rattle.dpx_dpcd.proofs.laws.answers_by_position.Goals as goal

pub returns-clause-deferred : goal.returns-clause-deferred
returns-clause-deferred c = defers_by_position

pub returns-clause-silent : goal.returns-clause-silent
returns-clause-silent c = silent_elsewhere
