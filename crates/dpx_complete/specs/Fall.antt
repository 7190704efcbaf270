-- Where training ends on a modelled channel, said of the channel's cells and of the order of configurations alone: this
-- project's own.
use Rattle.std.specs.Prelude.{◌≡◌, ℕ, ◌+◌, zero, suc, ◌&&◌, Bool, if◌then◌else◌, List, Option, Some, None}
use Rattle.dpx_base.specs.declared.link.Link.{Link}
use Rattle.dpx_base.specs.Lanes.{every_lane}
use Rattle.dpx_dpcd.specs.Cell.{CellFacts}
use Rattle.dpx_dpcd.specs.Channel.{channel_cell}
use Rattle.dpx_link.specs.Fallback.{after_failed_recovery, after_failed_equalisation}
use Rattle.dpx_link.specs.Training.{attempts_at_most}

-- every lane in use recovers its clock, with the drive that it asks for
abbrev pub all_recover : List CellFacts → Link → Bool
all_recover channel link = every_lane link.lanes (λ lane. (channel_cell channel link.rate lane).cr)

-- every lane in use equalises
abbrev pub all_equalise : List CellFacts → Link → Bool
all_equalise channel link = every_lane link.lanes (λ lane. (channel_cell channel link.rate lane).eq)

-- the configuration that training falls back to, in a training that began with `first`
abbrev pub lower_than : List CellFacts → Link → Link → Option Link
lower_than channel first link =
    if all_recover channel link then after_failed_equalisation link else after_failed_recovery first link

-- along the path, where it goes on
abbrev pub along : (Link → Option Link) → Option Link → Option Link
along more None = None
along more (Some link) = more link

-- the first configuration, of at most so many from this one on, whose lanes recover and equalise
unfoldable pub fall_from : ℕ → List CellFacts → Link → Link → Option Link
fall_from zero channel first link = None
fall_from (suc left) channel first link =
    if all_recover channel link && all_equalise channel link then Some link
    else along (fall_from left channel first) (lower_than channel first link)

-- the first configuration of the fallback path from `first` on whose lanes recover and equalise, if there is one
abbrev pub fall : List CellFacts → Link → Option Link
fall channel first = fall_from attempts_at_most channel first first

-- The path is never cut short: with more configurations allowed it ends at the same one.
abbrev pub FallIsWhole : Type 0
FallIsWhole =
    (more : ℕ) (channel : List CellFacts) (first : Link)
    → fall_from (attempts_at_most + more) channel first first ≡ fall channel first
