-- What contracts see of a pipe over generated pixels: this project's own.
use Rattle.std.specs.Prelude.{ℕ, ◌+◌, Bool, true, Option, Some, None, Result, Ok, Err}
use Rattle.dpx_base.specs.Beam.{Shown}
use Rattle.dpx_base.specs.Pipe.{PipeState}
use Rattle.dpx_files.specs.Generator.{gen_pixels}

-- the number that its pixels come from, what it was last begun with, how many clocks were called since, and whether a
-- call since was refused
pub record PipeOfNumber : Type 0 where
  pub seed : ℕ
  pub begun : Option Shown
  pub clocks : ℕ
  pub clock : ℕ
  pub refused : Bool

-- it tells its pixels and no sets, and counts no faults
abbrev pub told_of : PipeOfNumber → PipeState
told_of p = record {
  begun = p.begun;
  clocks = p.clocks;
  clock = p.clock;
  refused = p.refused;
  faults = 0;
  pixels = Some (gen_pixels p.seed);
  sets = None;
}

-- the pipe after a clock that gave this
abbrev pub pipe_clocked : {T E : Type 0} → PipeOfNumber → Result T E → PipeOfNumber
pipe_clocked pipe (Ok arrivals) = record pipe { clock = pipe.clock + 1 }
pipe_clocked pipe (Err ended) = record pipe { clock = pipe.clock + 1; refused = true }
