-- The drive that the cells of a modelled channel ask for: this project's own.
use Rattle.std.specs.Prelude.{◌≡◌, ℕ, ◌-◌, ◌/◌, ◌%◌, min, List, slice_index}
use Rattle.dpx_base.specs.declared.lanes.Lanes.{Lanes}
use Rattle.dpx_base.specs.declared.lanes.Lanes.TheVariants.{One, Two, Four}
use Rattle.dpx_base.specs.declared.link.Link.{Link}
use Rattle.dpx_dpcd.specs.Cell.{CellFacts}
use Rattle.dpx_dpcd.specs.Channel.{channel_cell}

-- a register drives a lane with its cell's swing, and with its emphasis, which is at most 3 less the swing
abbrev pub IsRightByte : CellFacts → ℕ → Type 0
IsRightByte cell byte = (byte % 4 ≡ cell.swing) × (byte / 8 % 4 ≡ min cell.emph (3 - cell.swing))

-- each lane in use is such
abbrev pub EveryLane : Lanes → (ℕ → Type 0) → Type 0
EveryLane One Is = Is 0
EveryLane Two Is = Is 0 × Is 1
EveryLane Four Is = Is 0 × Is 1 × Is 2 × Is 3

-- these registers drive each lane in use as its cell asks for
abbrev pub IsAskedFor : List CellFacts → Link → List ℕ → Type 0
IsAskedFor channel link drive =
    EveryLane link.lanes (λ lane. IsRightByte (channel_cell channel link.rate lane) (slice_index drive lane))
