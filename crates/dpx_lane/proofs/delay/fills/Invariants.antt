use Rattle.std.proofs.Common.{◌≡◌, replicate}
use Rattle.dpx_lane.proofs.delay.fills.Given as goal

abbrev pub invariant-loop : goal.invariant-loop
invariant-loop l = l.codes.items ≡ replicate l.counter 0
