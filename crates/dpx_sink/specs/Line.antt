-- What the line under way stands for.
use Rattle.std.specs.Prelude.{ℕ, ◌≡◌, ◌≤◌, true, false, List, take}
use Rattle.std.specs.Prelude.{Some, None}
use Rattle.dpx_msa.specs.declared.attributes.Attributes.{Attributes as MsaAttributes}
use Rattle.dpx_parse.specs.declared.event.Event.{Event}
use Rattle.dpx_parse.specs.declared.event.Event.TheVariants.{Attributes}
use Rattle.dpx_parse.specs.Stands.{number_of}
use Rattle.dpx_sink.specs.Room.{line_room}
use Rattle.dpx_sink.specs.Told.{Under, none, idle, live, Tally}
use Rattle.dpx_sink.specs.declared.line_store.LineStore.{LineStore}
use Rattle.dpx_sink.specs.declared.lines.Lines.{Lines}

-- the store has the rows of a line, as far as there is room
abbrev pub StoreStands : LineStore → List (List ℕ) → Type 0
StoreStands s rows = s.rows.items ≡ take line_room rows

-- the sizes of a mode at most
abbrev pub IsSized : MsaAttributes → Type 0
IsSized a = (a.width ≤ 8192) × (a.height ≤ 8192)

-- the attributes in force, whether a line is under way, and the rows that the store has of it
abbrev pub HoldsLine : Lines → Under → Type 0
HoldsLine l none = (l.attributes ≡ None) × (l.live ≡ false)
HoldsLine l (idle a) = (l.attributes ≡ Some a) × (l.live ≡ false) × IsSized a
HoldsLine l (live a rows) =
    (l.attributes ≡ Some a) × (l.live ≡ true) × IsSized a × StoreStands l.store rows

-- attributes that an event tells have room
abbrev pub Fits : Event → Type 0
Fits (Attributes a) = IsSized a
Fits _ = Unit {0}

-- and what was counted, as far as 64 bits go
pub record Holds (l : Lines) (under : Under) (t : Tally) : Type 0 where
  pub line : HoldsLine l under
  pub closed : l.closed ≡ number_of t.closed
  pub current : l.current ≡ number_of t.current
  pub lines : l.lines ≡ number_of t.lines
