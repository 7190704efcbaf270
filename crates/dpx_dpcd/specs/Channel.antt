-- A modelled channel, a list of sixteen cells: this project's own.
use Rattle.std.specs.Prelude.{ℕ, ◌+◌, true, List, slice_index_or}
use Rattle.dpx_base.specs.declared.rate.Rate.{Rate}
use Rattle.dpx_base.specs.declared.rate.Rate.TheVariants.{Rbr, Hbr, Hbr2, Hbr3}
use Rattle.dpx_dpcd.specs.Cell.{CellFacts}

-- what a channel that is not described does
abbrev pub good_cell : CellFacts
good_cell = record { cr = true; eq = true; swing = 0; emph = 0 }

-- where a cell stands: four lanes for each rate, RBR first
abbrev pub place_of : Rate → ℕ → ℕ
place_of Rbr lane = lane
place_of Hbr lane = 4 + lane
place_of Hbr2 lane = 8 + lane
place_of Hbr3 lane = 12 + lane

abbrev pub channel_cell : List CellFacts → Rate → ℕ → CellFacts
channel_cell channel rate lane = slice_index_or channel (place_of rate lane) good_cell
