-- What the events of a list of sets give a receiver.
use Rattle.std.specs.Prelude.{ℕ, ⊤, Bool, true, false, if◌then◌else◌, List, [], ◌∷◌, ◌++◌}
use Rattle.dpx_base.specs.declared.pixel.Pixel.{Pixel}
use Rattle.dpx_base.specs.declared.sym.Sym.{Sym}
use Rattle.dpx_base.specs.Mode.{depth_bits}
use Rattle.dpx_msa.specs.declared.attributes.Attributes.{Attributes as MsaAttributes}
use Rattle.dpx_grammar.specs.Accepted.{Frame}
use Rattle.dpx_grammar.specs.Accepted.{pixels_in_rows}
use Rattle.dpx_parse.specs.FirstFault.{IsEvent}
use Rattle.dpx_parse.specs.declared.event.Event.{Event}
use Rattle.dpx_parse.specs.declared.event.Event.TheVariants.{Nothing, Attributes, LineStart, Valid, LineEnd}

-- the events of sets that follow others, one for each set
abbrev pub AreEvents : Bool → ℕ → List (List Sym) → List (List Sym) → List Event → Type 0
AreEvents enhanced lanes before [] [] = ⊤
AreEvents enhanced lanes before (set ∷ sets) (e ∷ es) =
    IsEvent enhanced lanes before set e × AreEvents enhanced lanes (before ++ set ∷ []) sets es
AreEvents enhanced lanes before _ _ = ⊥

-- without those that say nothing
abbrev pub heard : List Event → List Event
heard [] = []
heard (Nothing ∷ es) = heard es
heard (e ∷ es) = e ∷ heard es

-- behind a line's start: its rows, and whether it ends
abbrev pub rows_heard : List Event → List (List ℕ)
rows_heard (Valid row ∷ es) = row ∷ rows_heard es
rows_heard _ = []

abbrev pub ends : List Event → Bool
ends (Valid row ∷ es) = ends es
ends (LineEnd ∷ es) = true
ends _ = false

abbrev pub line_heard : ℕ → MsaAttributes → List (List ℕ) → List Pixel
line_heard lanes a rows = pixels_in_rows (depth_bits a.depth) lanes a.width rows

-- the lines that end before the next attributes
abbrev pub lines_heard : ℕ → MsaAttributes → List Event → List (List Pixel)
lines_heard lanes a [] = []
lines_heard lanes a (LineStart ∷ es) =
    if ends es then line_heard lanes a (rows_heard es) ∷ lines_heard lanes a es else lines_heard lanes a es
lines_heard lanes a (Attributes b ∷ es) = []
lines_heard lanes a (_ ∷ es) = lines_heard lanes a es

abbrev pub frames_heard : ℕ → List Event → List Frame
frames_heard lanes [] = []
frames_heard lanes (Attributes a ∷ es) = record {
  attributes = a;
  lines =
      lines_heard lanes a es;
} ∷ frames_heard lanes es
frames_heard lanes (_ ∷ es) = frames_heard lanes es
