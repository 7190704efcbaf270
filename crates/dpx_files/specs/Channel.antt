-- The channel of a modelled sink: this project's own.
use Rattle.std.specs.Prelude.{ℕ, nat_le, if◌then◌else◌, List, [], ◌∷◌, ◌++◌, Option, Some}
use Rattle.std.specs.Prelude.{None, option_and_then, replicate, slice_set}
use Rattle.serde_json.specs.Data.{Data}
use Rattle.serde_json.specs.Find.{get}
use Rattle.dpx_base.specs.declared.rate.Rate.{Rate}
use Rattle.dpx_base.specs.declared.rate.Rate.TheVariants.{Rbr, Hbr, Hbr2, Hbr3}
use Rattle.dpx_dpcd.specs.Cell.{CellFacts}
use Rattle.dpx_dpcd.specs.Channel.{good_cell, place_of}
use Rattle.dpx_files.specs.Members.{whole_number, flag_of, elements, if_object}
use Rattle.dpx_base.specs.Rate.{rate_name}

-- one step, and behind it the next, where each has a value
infixl 10 ◌>>=◌
abbrev pub ◌>>=◌ : {A B : Type 0} → Option A → (A → Option B) → Option B
found >>= next = option_and_then next found

-- 0 to 3
abbrev pub level_from : ℕ → Option ℕ
level_from number = if nat_le number 3 then Some number else None

-- a level is a number
abbrev pub level_of : Data → Option ℕ
level_of value = option_and_then level_from (whole_number value)

-- [cr, eq, swing, emph]
abbrev pub cell_from : List Data → Option CellFacts
cell_from (cr ∷ eq ∷ swing ∷ emph ∷ []) = do
  recovers ← flag_of cr
  equalises ← flag_of eq
  asked_swing ← level_of swing
  asked_emph ← level_of emph
  Some (record { cr = recovers; eq = equalises; swing = asked_swing; emph = asked_emph })
cell_from _ = None

-- a cell is an array
unfoldable pub cell_of : Data → Option CellFacts
cell_of value = option_and_then cell_from (elements value)

-- a cell for each of four lanes
abbrev pub lanes_from : List Data → Option (List CellFacts)
lanes_from (first ∷ second ∷ third ∷ fourth ∷ []) = do
  a ← cell_of first
  b ← cell_of second
  c ← cell_of third
  d ← cell_of fourth
  Some (a ∷ b ∷ c ∷ d ∷ [])
lanes_from _ = None

-- the lanes at one rate; where the rate is absent they are good
abbrev pub lanes_in : Option Data → Option (List CellFacts)
lanes_in None = Some (replicate 4 good_cell)
lanes_in (Some value) = option_and_then lanes_from (elements value)

unfoldable pub lanes_at : Data → Rate → Option (List CellFacts)
lanes_at channel rate = lanes_in (get (rate_name rate) channel)

-- the lanes at each rate, RBR first
unfoldable pub channel_of : Data → Option (List CellFacts)
channel_of value = do
  channel ← if_object value
  rbr ← lanes_at channel Rbr
  hbr ← lanes_at channel Hbr
  hbr2 ← lanes_at channel Hbr2
  hbr3 ← lanes_at channel Hbr3
  Some (rbr ++ hbr ++ hbr2 ++ hbr3)

-- a channel with other lanes at this rate
abbrev pub with_lanes : Rate → List CellFacts → List CellFacts → List CellFacts
with_lanes rate (a ∷ b ∷ c ∷ d ∷ []) channel =
    slice_set
    (slice_set (slice_set (slice_set channel (place_of rate 0) a) (place_of rate 1) b) (place_of rate 2) c)
    (place_of rate 3) d
with_lanes rate _ channel = channel
