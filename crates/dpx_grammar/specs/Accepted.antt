-- Which lists of sets a sink accepts, and what it receives of them: the symbols are the standard's, the rules this
-- project's own. A list is accepted where it is a prefix of a list of periods and four conditions hold of the parts
-- that it tells: VB-ID, readings, lines and their lengths.
use Rattle.std.specs.Prelude.{ℕ, suc, ◌≡◌, ◌≤◌, ◌+◌, ◌*◌, ◌/◌, ◌%◌, ⊤, Bool, true, false, if◌then◌else◌, Ok}
use Rattle.std.specs.Prelude.{List, [], ◌∷◌, ◌++◌, map, length, slice_index, slice_index_or}
use Rattle.std.specs.List.{AllByRecursion, flat_map, filter}
use Rattle.dpx_base.specs.declared.pixel.Pixel.{Pixel}
use Rattle.dpx_base.specs.declared.sym.Sym.{Sym}
use Rattle.dpx_base.specs.Mode.{depth_bits}
use Rattle.dpx_base.specs.Timing.{symbols_of}
use Rattle.dpx_base.specs.Unpacking.{unpacked}
use Rattle.dpx_msa.specs.declared.attributes.Attributes.{Attributes}
use Rattle.dpx_msa.specs.Reading.{read_attributes}
use Rattle.dpx_grammar.specs.Gathered.{gathered}
use Rattle.dpx_grammar.specs.Parts.{Part, group, block, attributes, begins, valid, stuffing, sets_of, IsCut, begun}

-- ---- VB-ID: each lane carries triples of VB-ID, Mvid and Maud, so every third row of a block has copies of VB-ID

abbrev pub copies : List (List ℕ) → List ℕ
copies [] = []
copies (first ∷ []) = first
copies (first ∷ second ∷ []) = first
copies (first ∷ second ∷ third ∷ rows) = first ++ copies rows

-- the copies are equal, and bit 2 is 0: no interlaced mode
abbrev pub AreProgressive : List ℕ → Type 0
AreProgressive [] = ⊤
AreProgressive (id ∷ ids) = (id / 4 % 2 ≡ 0) × AllByRecursion (λ other. other ≡ id) ids

abbrev pub HasOneId : Part → Type 0
HasOneId (block rows) = AreProgressive (copies rows)
HasOneId _ = ⊤

-- ---- lines: the rows of the valid sets of active parts

-- an active part: the rows of its valid sets, and whether it is whole
pub record ActivePart : Type 0 where
  pub rows : List (List ℕ)
  pub is_whole : Bool

-- the rows of an active part, by the parts behind its BE
abbrev pub valid_rows : List Part → List (List ℕ)
valid_rows (valid row ∷ parts) = row ∷ valid_rows parts
valid_rows (stuffing rows ∷ parts) = valid_rows parts
valid_rows _ = []

-- it is whole where a group follows it, whose first set is enough
abbrev pub is_ended : List Part → Bool
is_ended (valid row ∷ parts) = is_ended parts
is_ended (stuffing rows ∷ parts) = is_ended parts
is_ended (group reset ∷ parts) = true
is_ended _ = false

-- the active parts before the next attributes
abbrev pub lines_of : List Part → List ActivePart
lines_of [] = []
lines_of (begins ∷ parts) = record { rows = valid_rows parts; is_whole = is_ended parts } ∷ lines_of parts
lines_of (attributes rows ∷ parts) = []
lines_of (_ ∷ parts) = lines_of parts

-- ---- frames

-- an attributes part, and the active parts behind it up to the next one
pub record FrameParts : Type 0 where
  pub rows : List (List ℕ)
  pub lines : List ActivePart

abbrev pub frame_parts : List Part → List FrameParts
frame_parts [] = []
frame_parts (attributes rows ∷ parts) = record { rows = rows; lines = lines_of parts } ∷ frame_parts parts
frame_parts (_ ∷ parts) = frame_parts parts

-- a frame as it is received
pub record Frame : Type 0 where
  pub attributes : Attributes
  pub lines : List (List Pixel)

-- a line has at most so many valid sets, and exactly so many where it is whole
pub record HasLength (symbols : ℕ) (line : ActivePart) : Type 0 where
  pub most : length line.rows ≤ symbols
  pub whole : line.is_whole ≡ true → length line.rows ≡ symbols

-- the symbols on each lane of a line with these attributes
abbrev pub line_length : ℕ → Attributes → ℕ
line_length lanes a = symbols_of a.width lanes (3 * depth_bits a.depth)

-- the pixels of a line of this width that these rows carry
abbrev pub pixels_in_rows : (depth lanes width : ℕ) → List (List ℕ) → List Pixel
pixels_in_rows depth lanes width rows =
    unpacked depth lanes width (λ lane j. slice_index (slice_index_or rows j []) lane)

-- the pixels of the whole lines
abbrev pub pixels_of : ℕ → Attributes → List ActivePart → List (List Pixel)
pixels_of lanes a lines =
    map (λ line. pixels_in_rows (depth_bits a.depth) lanes a.width line.rows) (filter (λ line. line.is_whole) lines)

-- the attributes have a reading, and with the lines behind them are this frame
pub record IsFrame (lanes : ℕ) (told : FrameParts) (frame : Frame) : Type 0 where
  pub read : read_attributes (gathered lanes told.rows) ≡ Ok frame.attributes
  pub lengths : AllByRecursion (HasLength (line_length lanes frame.attributes)) told.lines
  pub lines : frame.lines ≡ pixels_of lanes frame.attributes told.lines

-- each frame but the last has as many lines as its height says, the last at most so many
abbrev pub AreFrames : ℕ → List FrameParts → List Frame → Type 0
AreFrames lanes [] [] = ⊤
AreFrames lanes (t ∷ []) (f ∷ []) = IsFrame lanes t f × (length t.lines ≤ f.attributes.height)
AreFrames lanes (t ∷ u ∷ tolds) (f ∷ frames) =
    IsFrame lanes t f × (length t.lines ≡ f.attributes.height) × AreFrames lanes (u ∷ tolds) frames
AreFrames lanes _ _ = ⊥

-- ---- what is received

-- the sets from the BE on of an active part that no group follows, also where it was passed over; else 0
abbrev pub unfinished : Bool → ℕ → List Part → (front : ℕ) → ℕ
unfinished enhanced lanes [] front = 0
unfinished enhanced lanes (begins ∷ parts) front =
    if is_ended parts then unfinished enhanced lanes parts front
    else suc (length (flat_map (sets_of enhanced lanes) parts) + front)
unfinished enhanced lanes (_ ∷ parts) front = unfinished enhanced lanes parts front

-- a list of sets is accepted; these frames are received of it, and so many sets of an unfinished line
pub record Receives (enhanced : Bool) (lanes : ℕ) (sets : List (List Sym)) (frames : List Frame)
    (tail : ℕ) : Type 0 where
  pub whole : List Part
  pub next : Part
  pub front : List (List Sym)
  pub cut : IsCut enhanced lanes sets whole next front
  pub one_id : AllByRecursion HasOneId (whole ++ begun next front)
  pub are_frames : AreFrames lanes (frame_parts (whole ++ begun next front)) frames
  pub tail_is : tail ≡ unfinished enhanced lanes (whole ++ begun next front) (length front)

abbrev pub IsAccepted : Bool → ℕ → List (List Sym) → Type 0
IsAccepted enhanced lanes sets = (frames : List Frame) × (tail : ℕ) × Receives enhanced lanes sets frames tail
