-- A schedule, as contracts see it.
use Rattle.std.specs.Prelude.{◌≤◌, ℕ}
use Rattle.dpx_base.specs.Plan.{PlanFacts, IsPlan, clocks}
use Rattle.dpx_frame.specs.declared.counters.Counters.{Counters}
use Rattle.dpx_frame.specs.Counters.{StandsAt}

-- its plan, and the clock whose slot comes next
pub record ScheduleFacts : Type 0 where
  pub plan : PlanFacts
  pub clock : ℕ

-- its counters are those of its clock
pub record IsScheduled (p : PlanFacts) (t : ℕ) (c : Counters) : Type 0 where
  pub planned : IsPlan p
  pub within : t ≤ clocks p
  pub counters : StandsAt p t c
