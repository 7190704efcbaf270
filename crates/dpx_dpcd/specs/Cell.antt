-- What contracts see of one cell of a modelled channel: this project's own.
use Rattle.std.specs.Prelude.{ℕ, Bool}

-- the lane recovers its clock and equalises where it is driven with this swing and this pre-emphasis
pub record CellFacts : Type 0 where
  pub cr : Bool
  pub eq : Bool
  pub swing : ℕ
  pub emph : ℕ
