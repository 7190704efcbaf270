-- What the machine keeps.
use Rattle.std.specs.Prelude.{ℕ, ◌+◌, ◌-◌, ◌^◌, ◌&&◌, true, false, nat_le, min, if◌then◌else◌, List, ◌∷◌, length}
use Rattle.std.specs.Prelude.{replicate, slice_index, Option, Some, None, Result, unwrap_or, is_some}
use Rattle.std.specs.Result.{result_ok}
use Rattle.dpx_msa.specs.declared.attributes.Attributes.{Attributes as MsaAttributes}
use Rattle.dpx_msa.specs.declared.msa_bad.MsaBad.{MsaBad}
use Rattle.dpx_msa.specs.Reading.{read_attributes}
use Rattle.dpx_parse.specs.Columns.{dealt}
use Rattle.dpx_parse.specs.Bytes.{put}
use Rattle.dpx_parse.specs.Events.{attributes_event}
use Rattle.dpx_parse.specs.Faults.{end_fault, begin_fault, valid_fault, head_fault, id_fault}
use Rattle.dpx_parse.specs.declared.bad.ParseWhy.{ParseWhy}
use Rattle.dpx_parse.specs.declared.counts.Counts.{Counts}
use Rattle.dpx_parse.specs.declared.event.Event.{Event}
use Rattle.dpx_parse.specs.declared.event.Event.TheVariants as event
use Rattle.dpx_parse.specs.declared.state.Mark.{Mark}
use Rattle.dpx_parse.specs.declared.state.Mark.TheVariants.{Head, Id, Opens, Number, AttributesEnd, Begins, Valid}
use Rattle.dpx_parse.specs.declared.state.Mark.TheVariants.{Other}

abbrev pub no_counts : Counts
no_counts = record {
  attributes = None;
  lines = 0;
  valids = 0;
  live = false;
  first = None;
  bytes = replicate 36 0;
  taken = 0;
}

-- one more, where the count has room in 32 bits
abbrev pub one_more : ℕ → ℕ
one_more n = min (n + 1) (2 ^ 32 - 1)

abbrev pub headed : Counts → Counts
headed c = record c { lines = if c.live then one_more c.lines else c.lines; live = false; first = None }

abbrev pub with_row : Counts → List ℕ → Counts
with_row c row = if nat_le (c.taken + length row) 36 then record c {
  bytes = put c.bytes c.taken row;
  taken =
      c.taken + length row;
} else c

abbrev pub read_by : ℕ → Counts → Result MsaAttributes MsaBad
read_by lanes c = read_attributes (dealt lanes c.bytes)

abbrev pub kept_ids : Option ℕ → List ℕ → List ℕ
kept_ids None row = row
kept_ids (Some id) row = id ∷ row

abbrev pub first_of : Option ℕ → List ℕ → ℕ
first_of first row = unwrap_or first (slice_index row 0)

abbrev pub after : ℕ → Counts → Mark → List ℕ → Counts
after lanes c Head row = headed c
after lanes c Id row = record c { first = Some (first_of c.first row) }
after lanes c Opens row = record c { taken = 0 }
after lanes c Number row = with_row c row
after lanes c AttributesEnd row = record c { attributes = result_ok (read_by lanes c); lines = 0 }
after lanes c Begins row = record c { live = true; valids = 0 }
after lanes c Valid row = record c { valids = one_more c.valids }
after lanes c Other row = c

abbrev pub fault_by : ℕ → Counts → Mark → List ℕ → Option ParseWhy
fault_by lanes c Head row = head_fault lanes c.attributes c.live c.valids
fault_by lanes c Id row = id_fault (kept_ids c.first row)
fault_by lanes c AttributesEnd row = end_fault c.attributes c.lines (read_by lanes c)
fault_by lanes c Begins row = begin_fault c.attributes c.lines
fault_by lanes c Valid row = valid_fault lanes c.attributes c.valids
fault_by lanes c _ row = None

abbrev pub event_by : ℕ → Counts → Mark → List ℕ → Event
event_by lanes c Head row = if is_some c.attributes && c.live then event.LineEnd else event.Nothing
event_by lanes c AttributesEnd row = attributes_event (read_by lanes c)
event_by lanes c Begins row = if is_some c.attributes then event.LineStart else event.Nothing
event_by lanes c Valid row = if is_some c.attributes then event.Valid row else event.Nothing
event_by lanes c _ row = event.Nothing
