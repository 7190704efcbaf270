use Rattle.std.proofs.Common.{arith}
use Rattle.dpx_pack.proofs.LowBits.{padded_small, padded_bits}
use Rattle.dpx_pack.proofs.bits.filled_up.Goals as goal

pub overflow_cast-result-2 : goal.overflow_cast-result-2
overflow_cast-result-2 c = omega (arith, padded_small c.args.value c.args.left c.requires.left.1 c.requires.value)

pub returns : goal.returns
returns c = padded_bits c.args.value c.args.left c.requires.left.1 c.requires.value
