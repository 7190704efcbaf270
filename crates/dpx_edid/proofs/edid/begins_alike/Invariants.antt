use Rattle.std.proofs.Common.{◌≡◌, ◌+◌, drop, nat_eq}
use Rattle.std.specs.List.{common_prefix_len}
use Rattle.dpx_edid.specs.Edid.{header}
use Rattle.dpx_edid.proofs.edid.begins_alike.Given as goal

-- the bytes before this place are alike
abbrev pub invariant-loop-place : goal.invariant-loop-place
invariant-loop-place l =
    l.place + common_prefix_len nat_eq (drop l.place header) (drop l.place l.block)
    ≡ common_prefix_len nat_eq header l.block
