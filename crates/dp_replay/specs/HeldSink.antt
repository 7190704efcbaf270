-- What contracts see of the program's own sink, which tells nothing of contents: this project's own.
use Rattle.std.specs.Prelude.{ℕ, Bool, true, false, Option, Some, None}
use Rattle.dp_replay.specs.declared.file_sink.Target.{Target}
use Rattle.dp_replay.specs.declared.file_sink.Target.TheVariants.{File, Output, Discard}

-- whether there is anything to write to, whether that takes every byte and keeps none, and how many writes failed
pub record HeldSink : Type 0 where
  pub holds : Bool
  pub discards : Bool
  pub faults : ℕ

abbrev pub is_discard : Option Target → Bool
is_discard (Some Discard) = true
is_discard other = false
