-- The events of a job: this project's own.
use Rattle.std.specs.Prelude.{ℕ, if◌then◌else◌, List, codes, Option, Some, None, option_and_then, Result}
use Rattle.std.specs.Str.{bytes_eq}
use Rattle.serde_json.specs.Data.{Data}
use Rattle.serde_json.specs.Find.{as_str}
use Rattle.dpx_base.specs.declared.port_event.PortEvent.{PortEvent}
use Rattle.dpx_base.specs.declared.port_event.PortEvent.TheVariants.{Plug, Interrupt, Loss, Resume}
use Rattle.dpx_files.specs.declared.refusal.Field.{Field}
use Rattle.dpx_files.specs.declared.refusal.Field.TheVariants as field
use Rattle.dpx_files.specs.Items.{items_of}

-- how many events a job has at most
abbrev pub most_events : ℕ
most_events = 64

-- an event by its word
abbrev pub event_from : List ℕ → Option PortEvent
event_from text =
    if bytes_eq text (codes "plug") then Some Plug
    else if bytes_eq text (codes "interrupt") then Some Interrupt
    else if bytes_eq text (codes "loss") then Some Loss
    else if bytes_eq text (codes "resume") then Some Resume
    else None

-- an event is a text
abbrev pub event_of : Data → Option PortEvent
event_of value = option_and_then event_from (as_str value)

-- `events`: a list of at most so many events
unfoldable pub events_of : Data → Result (List PortEvent) Field
events_of = items_of field.Events most_events event_of
