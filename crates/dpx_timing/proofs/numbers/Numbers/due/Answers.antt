use Rattle.std.proofs.Common.{arith}
use Rattle.dpx_base.specs.Timing.{due, first_tick}
use Rattle.dpx_timing.specs.Numbers.{timing_in}
use Rattle.dpx_timing.proofs.Sizes.{due_small}
use Rattle.dpx_timing.proofs.numbers.Numbers.due.Goals as goal

pub returns-clause-small : goal.returns-clause-small
unfolding due first_tick
returns-clause-small c =
    omega (
      arith,
      due_small (timing_in c.args.self) c.args.line c.requires.small c.requires.not_too_slow c.requires.line,
    )
