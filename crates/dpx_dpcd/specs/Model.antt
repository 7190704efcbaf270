-- What is true of every modelled sink: this project's own.
use Rattle.std.specs.Prelude.{◌≡◌, ℕ, ◌≤◌, List, length, ⊤}
use Rattle.std.specs.List.{AllByRecursion}
use Rattle.dpx_dpcd.specs.declared.plan.SinkPlan.{SinkPlan}
use Rattle.dpx_dpcd.specs.declared.plan.SinkPlan.TheVariants.{Script, Model}
use Rattle.dpx_dpcd.specs.Cell.{CellFacts}

-- a lane asks for a swing and an emphasis of at most 3
abbrev pub IsCell : CellFacts → Type 0
IsCell cell = (cell.swing ≤ 3) × (cell.emph ≤ 3)

-- so many cells
pub record AreCells (count : ℕ) (cells : List CellFacts) : Type 0 where
  pub counted : length cells ≡ count
  pub drives : AllByRecursion IsCell cells

-- blocks of sixteen bytes, and sixteen cells
pub record IsModel (caps extended : List ℕ) (channel : List CellFacts) : Type 0 where
  pub block : length caps ≡ 16
  pub extended_block : length extended ≡ 16
  pub cells : length channel ≡ 16
  pub drives : AllByRecursion IsCell channel

-- the same of what a sink is to answer
abbrev pub IsPlan : SinkPlan → Type 0
IsPlan (Script answers) = ⊤
IsPlan (Model caps extended defers channel) = IsModel caps extended channel
