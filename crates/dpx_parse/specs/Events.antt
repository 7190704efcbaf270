-- What a set tells a receiver, by the parts that are told before it and with it, newest first.
use Rattle.std.specs.Prelude.{ℕ, ◌==◌, ◌&&◌, if◌then◌else◌, List, [], ◌∷◌, length, is_some, Result, Ok, Err}
use Rattle.dpx_msa.specs.declared.attributes.Attributes.{Attributes}
use Rattle.dpx_msa.specs.declared.msa_bad.MsaBad.{MsaBad}
use Rattle.dpx_grammar.specs.Gathered.{gathered}
use Rattle.dpx_msa.specs.Reading.{read_attributes}
use Rattle.dpx_grammar.specs.Parts.{Part, group, attributes, begins, valid}
use Rattle.dpx_parse.specs.declared.event.Event.{Event}
use Rattle.dpx_parse.specs.declared.event.Event.TheVariants as event
use Rattle.dpx_parse.specs.Faults.{in_force, is_live}

abbrev pub attributes_event : Result Attributes MsaBad → Event
attributes_event (Ok a) = event.Attributes a
attributes_event (Err bad) = event.Nothing

-- of a part that is told after those
abbrev pub part_event : ℕ → List Part → Part → Event
part_event lanes before (group reset) = if is_some (in_force lanes before)
    && is_live before then event.LineEnd else event.Nothing
part_event lanes before (attributes rows) = attributes_event (read_attributes (gathered lanes rows))
part_event lanes before begins = if is_some (in_force lanes before) then event.LineStart else event.Nothing
part_event lanes before (valid row) = if is_some (in_force lanes before) then event.Valid row else event.Nothing
part_event lanes before _ = event.Nothing

abbrev pub newest_event : ℕ → List Part → Event
newest_event lanes [] = event.Nothing
newest_event lanes (part ∷ before) = part_event lanes before part

-- a set that tells no new part tells a receiver nothing
abbrev pub event_told : ℕ → List Part → List Part → Event
event_told lanes old new = if length new == length old then event.Nothing else newest_event lanes new
