-- What contracts see of the program's own source, which tells nothing of contents: this project's own.
use Rattle.std.specs.Prelude.{ℕ, Bool, true, false, Option, Some, None}

-- whether there is anything to read from, and how many reads failed
pub record Held : Type 0 where
  pub holds : Bool
  pub faults : ℕ

abbrev pub is_there : {T : Type 0} → Option T → Bool
is_there None = false
is_there (Some file) = true
