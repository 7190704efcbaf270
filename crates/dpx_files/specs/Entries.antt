-- The recorded history of a job: this project's own.
use Rattle.std.specs.Prelude.{ℕ, List, [], ◌∷◌, Option, Some, None, option_map, option_and_then, Result}
use Rattle.serde_json.specs.Data.{Data}
use Rattle.serde_json.specs.Find.{as_str}
use Rattle.dpx_base.specs.declared.aux_port.Entry.{Entry}
use Rattle.dpx_base.specs.declared.aux_port.Entry.TheVariants.{Asked, Waited}
use Rattle.dpx_files.specs.declared.refusal.Field.{Field}
use Rattle.dpx_files.specs.declared.refusal.Field.TheVariants as field
use Rattle.dpx_files.specs.Items.{items_of}
use Rattle.dpx_files.specs.Members.{elements, number_within}
use Rattle.dpx_files.specs.Script.{answer_of, short_bytes}

-- how many entries a job has at most
abbrev pub most_entries : ℕ
most_entries = 8192

-- the bytes of a request
abbrev pub request_of : Data → Option (List ℕ)
request_of value = option_and_then short_bytes (as_str value)

-- a request and its answer
abbrev pub asked_of : List Data → Option Entry
asked_of (request ∷ answer ∷ []) =
    option_and_then (λ bytes. option_map (λ given. Asked bytes given) (answer_of answer)) (request_of request)
asked_of other = None

-- a list of two texts is a request and its answer, and a number a wait of so many microseconds
abbrev pub entry_from : Option (List Data) → Data → Option Entry
entry_from (Some values) value = asked_of values
entry_from None value = option_map (λ micros. Waited micros) (number_within 0 4294967295 value)

abbrev pub entry_of : Data → Option Entry
entry_of value = entry_from (elements value) value

-- `entries`: a list of at most so many entries
unfoldable pub entries_of : Data → Result (List Entry) Field
entries_of = items_of field.Entries most_entries entry_of
