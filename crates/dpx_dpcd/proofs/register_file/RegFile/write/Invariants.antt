use Rattle.std.proofs.Common.{◌≡◌, ℕ, take}
use Rattle.dpx_dpcd.specs.RegFile.{sink_facts, registers_of, written}
use Rattle.dpx_dpcd.proofs.register_file.RegFile.write.Given as goal

-- the first bytes are written
abbrev pub invariant-loop-place : goal.invariant-loop-place
invariant-loop-place l = record {
  registers : (x : ℕ) → registers_of l.self x ≡ written (registers_of l.fn.self) l.address (take l.place l.bytes) x;
  facts : sink_facts l.self ≡ sink_facts l.fn.self;
}
