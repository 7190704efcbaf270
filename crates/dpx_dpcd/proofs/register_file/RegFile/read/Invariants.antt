use Rattle.std.proofs.Common.{◌≡◌, map, take, length}
use Rattle.std.specs.List.{range_with_len}
use Rattle.dpx_dpcd.specs.RegFile.{sink_facts, registers_of, shown}
use Rattle.dpx_dpcd.proofs.register_file.RegFile.read.Given as goal

-- the first places have what is shown there
abbrev pub invariant-loop-place : goal.invariant-loop-place
invariant-loop-place l = record {
  room : length l.bytes ≡ 16;
  read : take l.place l.bytes
      ≡ map (shown (sink_facts l.self) (registers_of l.self)) (range_with_len l.address l.place);
}
