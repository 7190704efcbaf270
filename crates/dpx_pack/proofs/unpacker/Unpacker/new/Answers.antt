use Rattle.std.proofs.Common.{refl, ◌∙◌}
use Rattle.dpx_pack.specs.Bits.{low_bits}
use Rattle.dpx_pack.proofs.Carried.{nothing_taken}
use Rattle.dpx_pack.proofs.unpacker.Unpacker.new.Goals as goal

pub returns-clause-empty : goal.returns-clause-empty
unfolding low_bits
returns-clause-empty g c = refl

pub returns-clause-stands : goal.returns-clause-stands
returns-clause-stands g c = returns-clause-empty g c ∙ nothing_taken g.row.C
