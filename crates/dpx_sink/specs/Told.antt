-- What the events of a list of sets give, event by event.
use Rattle.std.specs.Prelude.{ℕ, ◌+◌, ◌==◌, Bool, false, if◌then◌else◌, List, [], ◌∷◌, ◌++◌}
use Rattle.dpx_msa.specs.declared.attributes.Attributes.{Attributes as MsaAttributes}
use Rattle.dpx_parse.specs.Received.{line_heard}
use Rattle.dpx_parse.specs.declared.event.Event.{Event}
use Rattle.dpx_parse.specs.declared.event.Event.TheVariants.{Nothing, Attributes, LineStart, Valid, LineEnd}
use Rattle.dpx_reception.specs.Due.{pixel_records, attributes_line}

-- No attributes are in force; or these are, and no line is under way; or a line with these rows so far.
pub data Under : Type 0 where
  none : Under
  idle : (a : MsaAttributes) → Under
  live : (a : MsaAttributes) → (rows : List (List ℕ)) → Under

-- behind the next event
abbrev pub after : Under → Event → Under
after under Nothing = under
after under (Attributes a) = idle a
after none LineStart = none
after (idle a) LineStart = live a []
after (live a rows) LineStart = live a []
after none (Valid row) = none
after (idle a) (Valid row) = idle a
after (live a rows) (Valid row) = live a (rows ++ row ∷ [])
after none LineEnd = none
after (idle a) LineEnd = idle a
after (live a rows) LineEnd = idle a

-- the records that an event completes, and the text that it tells
abbrev pub records_of : ℕ → Under → Event → List ℕ
records_of lanes (live a rows) LineEnd = pixel_records (line_heard lanes a rows)
records_of lanes _ _ = []

abbrev pub text_of : Event → List ℕ
text_of (Attributes a) = attributes_line a
text_of _ = []

-- the whole frames that are over, the whole lines of the last frame, and all whole lines
pub record Tally : Type 0 where
  pub closed : ℕ
  pub current : ℕ
  pub lines : ℕ

abbrev pub no_tally : Tally
no_tally = record { closed = 0; current = 0; lines = 0 }

-- the last frame is whole
abbrev pub is_whole : Under → ℕ → Bool
is_whole none current = false
is_whole (idle a) current = current == a.height
is_whole (live a rows) current = current == a.height

-- all whole frames
abbrev pub frames_in : Under → Tally → ℕ
frames_in under t = t.closed + (if is_whole under t.current then 1 else 0)

abbrev pub tallied : Under → Tally → Event → Tally
tallied under t (Attributes a) = record { closed = frames_in under t; current = 0; lines = t.lines }
tallied (live a rows) t LineEnd = record { closed = t.closed; current = t.current + 1; lines = t.lines + 1 }
tallied _ t _ = t

-- the same over a list of events
abbrev pub after_all : Under → List Event → Under
after_all under [] = under
after_all under (e ∷ es) = after_all (after under e) es

abbrev pub records_told : ℕ → Under → List Event → List ℕ
records_told lanes under [] = []
records_told lanes under (e ∷ es) = records_of lanes under e ++ records_told lanes (after under e) es

abbrev pub text_told : List Event → List ℕ
text_told [] = []
text_told (e ∷ es) = text_of e ++ text_told es

abbrev pub tallied_all : Under → Tally → List Event → Tally
tallied_all under t [] = t
tallied_all under t (e ∷ es) = tallied_all (after under e) (tallied under t e) es
