use Rattle.std.proofs.Common.{◌/◌, ◌%◌, ◌^◌}
use Rattle.dpx_pack.proofs.LowBytes.{bytes_and_rest, low_bytes_small}
use Rattle.dpx_pack.proofs.packed_bytes.PackedBytes.of_bits.Goals as goal

pub returns-clause-bytes : goal.returns-clause-bytes
returns-clause-bytes c = low_bytes_small (c.args.count / 8) (c.args.value / 2 ^ (c.args.count % 8))

pub returns-clause-bits : goal.returns-clause-bits
returns-clause-bits c = bytes_and_rest c.args.count c.args.value
