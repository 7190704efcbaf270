use Rattle.dpx_judge.proofs.Same.{same}
use Rattle.dpx_judge.proofs.taking.passed.Goals as goal

pub returns-in-Go : goal.returns-in-Go
returns-in-Go c = rw c.in-Go.is (same _)

pub returns-in-Stop : goal.returns-in-Stop
returns-in-Stop c = rw c.in-Stop.is (same _)
