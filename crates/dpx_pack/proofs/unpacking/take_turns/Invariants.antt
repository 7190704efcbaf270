use Rattle.std.proofs.Common.{◌≡◌, map}
use Rattle.dpx_pack.specs.Lines.{in_turn}
use Rattle.dpx_pack.proofs.unpacking.take_turns.Given as goal

abbrev pub invariant-loop-x : goal.invariant-loop-x
invariant-loop-x l = l.pixels.items ≡ in_turn (map (λ lane. lane.items) l.lanes) l.x
