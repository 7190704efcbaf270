use Rattle.std.proofs.Common.{ℕ, List}
use Rattle.dpx_lane.specs.Team.{TeamRead}
use Rattle.dpx_align.specs.FirstFault.{FirstOf}
use Rattle.dpx_align.proofs.first_fault.first_fault.Given as goal

abbrev pub invariant-loop-lane : goal.invariant-loop-lane
invariant-loop-lane l = (words left : List (List ℕ)) → TeamRead l.team.states words left → FirstOf words l.lane l.best
