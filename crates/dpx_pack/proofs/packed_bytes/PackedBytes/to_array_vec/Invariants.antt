use Rattle.std.proofs.Common.{◌≡◌, take}
use Rattle.dpx_pack.proofs.packed_bytes.PackedBytes.to_array_vec.Given as goal

abbrev pub invariant-loop-place : goal.invariant-loop-place
invariant-loop-place l = l.bytes.items ≡ take l.place l.self
