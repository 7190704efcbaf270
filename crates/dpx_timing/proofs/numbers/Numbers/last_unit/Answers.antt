use Rattle.std.proofs.Common.{arith}
use Rattle.dpx_base.specs.Timing.{last_unit}
use Rattle.dpx_timing.specs.Numbers.{timing_in}
use Rattle.dpx_timing.proofs.Sizes.{legal_small, last_unit_small}
use Rattle.dpx_timing.proofs.numbers.Numbers.last_unit.Goals as goal

pub returns-clause-few : goal.returns-clause-few
unfolding last_unit
returns-clause-few c =
    let r = timing_in c.args.self in
    rw (c.unit_of.ensures.value, c.symbols.ensures.value) (omega (
      arith,
      last_unit_small r (legal_small r c.requires.small) c.requires.not_too_slow,
      c.symbols.ensures.value,
      c.symbols.ensures.small,
    ))
