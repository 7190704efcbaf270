-- What contracts see of a pipe in memory: this project's own.
use Rattle.std.specs.Prelude.{ℕ, ◌+◌, ◌++◌, ◌∷◌, [], List, Bool, true, Option, Some, Result, Ok, Err, is_err}
use Rattle.dpx_base.specs.declared.pipe.PipeEnd.{PipeEnd}
use Rattle.dpx_base.specs.declared.pipe.PipeEnd.TheVariants.{Ended, Failed}
use Rattle.dpx_base.specs.declared.pixel.Pixel.{Pixel}
use Rattle.dpx_base.specs.declared.sym.Sym.{Sym}
use Rattle.dpx_base.specs.Beam.{Shown}
use Rattle.dpx_base.specs.Pipe.{PipeState}
use Rattle.dpx_base.specs.Seen.{one_more}

-- Its pixels, which clocks fail, what it was last begun with, how many clocks were called since, whether a call since
-- was refused, the sets that it was handed since, and its count of faults
pub record PipeInMemory : Type 0 where
  pub pixels : List Pixel
  pub fails : List ℕ
  pub begun : Option Shown
  pub clocks : ℕ
  pub clock : ℕ
  pub refused : Bool
  pub sets : List (List Sym)
  pub faults : ℕ

-- it tells its pixels and its sets
abbrev pub told_of : PipeInMemory → PipeState
told_of p = record {
  begun = p.begun;
  clocks = p.clocks;
  clock = p.clock;
  refused = p.refused;
  faults = p.faults;
  pixels = Some p.pixels;
  sets = Some p.sets;
}

-- the pipe after a begin that gave this
abbrev pub pipe_begun : {E : Type 0} → Shown → ℕ → PipeInMemory → Result Unit E → PipeInMemory
pipe_begun shown clocks pipe result =
    record pipe { begun = Some shown; clocks = clocks; clock = 0; refused = is_err result; sets = [] }

-- the pipe after a clock of this set that gave this
abbrev pub pipe_clocked : {T : Type 0} → List Sym → PipeInMemory → Result T PipeEnd → PipeInMemory
pipe_clocked sent pipe (Ok arrivals) = record pipe { clock = pipe.clock + 1; sets = pipe.sets ++ sent ∷ [] }
pipe_clocked sent pipe (Err (Ended n)) =
    record pipe { clock = pipe.clock + 1; sets = pipe.sets ++ sent ∷ []; refused = true }
pipe_clocked sent pipe (Err Failed) =
    record pipe { clock = pipe.clock + 1; sets = pipe.sets ++ sent ∷ []; refused = true; faults = one_more pipe.faults }
