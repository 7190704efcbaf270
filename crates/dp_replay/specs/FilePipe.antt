-- What contracts see of a pipe over a source of records: this project's own.
use Rattle.std.specs.Prelude.{ℕ, Bool, List, Option, None}
use Rattle.dpx_base.specs.Beam.{Shown}
use Rattle.dpx_base.specs.Pipe.{PipeState}

pub record PipeFacts : Type 0 where
  pub begun : Option Shown
  pub clocks : ℕ
  pub clock : ℕ
  pub refused : Bool
  -- the bytes that are left, where the source tells its own
  pub left : Option (List ℕ)
  pub faults : ℕ

-- it tells neither its pixels nor its sets
abbrev pub told_of : PipeFacts → PipeState
told_of p = record {
  begun = p.begun;
  clocks = p.clocks;
  clock = p.clock;
  refused = p.refused;
  faults = p.faults;
  pixels = None;
  sets = None;
}
