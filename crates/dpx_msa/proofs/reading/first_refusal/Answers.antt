use Rattle.std.proofs.Common.{arith}
use Rattle.dpx_msa.specs.Reading.{attributes_in}
use Rattle.dpx_msa.proofs.Sizes.{range_shown}
use Rattle.dpx_msa.proofs.reading.first_refusal.Goals as goal

pub returns-else-three_at-eq0-clause-sizes : goal.returns-else-three_at-eq0-clause-sizes
unfolding attributes_in
returns-else-three_at-eq0-clause-sizes c =
    record {
      width = rw (← c.two_at-width.ensures)
          (range_shown 16 8192 c.two_at-width.result c.is_within.result c.is_within.ensures (grind arith));
      height = rw (← c.two_at-height.ensures)
          (range_shown 1 8192 c.two_at-height.result c.is_within-else-not-is_within.result
          c.is_within-else-not-is_within.ensures (grind arith));
      nvid = rw (← c.three_at.ensures) (grind arith);
    }
