-- The events give the frames.
use Rattle.std.proofs.Common.{ℕ, ◌≡◌, ◌∙◌, List, [], ◌∷◌, ◌++◌, Option, Some, None, Ok, Bool, true}
use Rattle.std.proofs.Common.{false, reverse, refl, sym, ap, subst, append_assoc}
use Rattle.std.specs.Prelude.{⊤, ◌&&◌, is_some, if◌then◌else◌}
use Rattle.std.specs.Result.{result_ok}
use Rattle.std.specs.List.{AllByRecursion}
use Rattle.std.proofs.lemmas.List.{append-nil, reverse-append}
use Rattle.dpx_base.specs.declared.lanes.Lanes.{Lanes}
use Rattle.dpx_base.specs.declared.pixel.Pixel.{Pixel}
use Rattle.dpx_base.specs.Lanes.{lanes_count}
use Rattle.dpx_msa.specs.declared.attributes.Attributes.{Attributes as MsaAttributes}
use Rattle.dpx_grammar.specs.Accepted.{ActivePart, valid_rows, is_ended, lines_of, FrameParts, frame_parts}
use Rattle.dpx_grammar.specs.Accepted.{Frame, pixels_of, IsFrame, AreFrames}
use Rattle.dpx_grammar.specs.Gathered.{gathered}
use Rattle.dpx_msa.specs.Reading.{read_attributes}
use Rattle.dpx_grammar.specs.Machine.{start}
use Rattle.dpx_grammar.specs.Machine.{Reads}
use Rattle.dpx_grammar.specs.Parts.{Part, group, block, filler, attributes, secondary, begins, valid, stuffing, begun}
use Rattle.dpx_grammar.proofs.Runs.{opening, headed, blanking, showing, Mode}
use Rattle.dpx_parse.specs.Events.{part_event, attributes_event}
use Rattle.dpx_parse.specs.Faults.{in_force, is_live}
use Rattle.dpx_parse.specs.FirstFault.{Tells}
use Rattle.dpx_parse.specs.Laws.{GivesFrames}
use Rattle.dpx_parse.specs.Received.{heard, rows_heard, ends, line_heard, lines_heard, frames_heard}
use Rattle.dpx_parse.specs.declared.event.Event.{Event}
use Rattle.dpx_parse.specs.declared.event.Event.TheVariants.{Nothing, LineStart, Valid, LineEnd}
use Rattle.dpx_parse.proofs.Order.{Order, cut_order}
use Rattle.dpx_parse.proofs.Growing.{heard_of, heard_join, all_heard}

-- ---- first to last

abbrev events_in : ℕ → Option MsaAttributes → Bool → List Part → List Event
events_in lanes o l [] = []
events_in lanes o l (group r ∷ ps) = (if is_some o && l then LineEnd else Nothing) ∷ events_in lanes o false ps
events_in lanes o l (block rows ∷ ps) = Nothing ∷ events_in lanes o l ps
events_in lanes o l (filler x ∷ ps) = Nothing ∷ events_in lanes o l ps
events_in lanes o l (attributes rows ∷ ps) =
    attributes_event (read_attributes (gathered lanes rows)) ∷ events_in lanes (result_ok (read_attributes (gathered lanes rows))) l ps
events_in lanes o l (secondary rows ∷ ps) = Nothing ∷ events_in lanes o l ps
events_in lanes o l (begins ∷ ps) = (if is_some o then LineStart else Nothing) ∷ events_in lanes o true ps
events_in lanes o l (valid x ∷ ps) = (if is_some o then Valid x else Nothing) ∷ events_in lanes o l ps
events_in lanes o l (stuffing rows ∷ ps) = Nothing ∷ events_in lanes o l ps

rev_cons : (x : Part) (xs ys : List Part) → reverse (x ∷ xs) ++ ys ≡ reverse xs ++ (x ∷ ys)
rev_cons x xs ys = ap (λ z. z ++ ys) (reverse-append (x ∷ []) xs) ∙ append_assoc (reverse xs) (x ∷ []) ys

abbrev in_place : ℕ → List Part → List Part → List Event
in_place lanes before ps = events_in lanes (in_force lanes before) (is_live before) ps

cons_heard : (lanes : ℕ) (before : List Part) (x : Part) (ps : List Part) (es : List Event)
    → heard_of lanes (reverse ps ++ (x ∷ before)) ≡ heard_of lanes (x ∷ before) ++ heard es
    → heard_of lanes (reverse (x ∷ ps) ++ before) ≡ heard_of lanes before ++ heard (part_event lanes before x ∷ es)
cons_heard lanes before x ps es h =
    ap (heard_of lanes) (rev_cons x ps before) ∙ h
    ∙ append_assoc (heard_of lanes before) (heard (part_event lanes before x ∷ [])) (heard es)
    ∙ ap (λ z. heard_of lanes before ++ z) (sym (heard_join (part_event lanes before x ∷ []) es))

forward : (lanes : ℕ) (before ps : List Part)
    → heard_of lanes (reverse ps ++ before) ≡ heard_of lanes before ++ heard (in_place lanes before ps)
forward lanes before [] = sym (append-nil (heard_of lanes before))
forward lanes before (group r ∷ ps) = cons_heard lanes before (group r) ps (in_place lanes (group r ∷ before) ps)
    (forward lanes (group r ∷ before) ps)
forward lanes before (block r ∷ ps) = cons_heard lanes before (block r) ps (in_place lanes (block r ∷ before) ps)
    (forward lanes (block r ∷ before) ps)
forward lanes before (filler r ∷ ps) = cons_heard lanes before (filler r) ps (in_place lanes (filler r ∷ before) ps)
    (forward lanes (filler r ∷ before) ps)
forward lanes before (attributes r ∷ ps) =
    cons_heard lanes before (attributes r) ps (in_place lanes (attributes r ∷ before) ps)
    (forward lanes (attributes r ∷ before) ps)
forward lanes before (secondary r ∷ ps) = cons_heard lanes before (secondary r) ps
    (in_place lanes (secondary r ∷ before) ps) (forward lanes (secondary r ∷ before) ps)
forward lanes before (begins ∷ ps) = cons_heard lanes before begins ps (in_place lanes (begins ∷ before) ps)
    (forward lanes (begins ∷ before) ps)
forward lanes before (valid r ∷ ps) = cons_heard lanes before (valid r) ps (in_place lanes (valid r ∷ before) ps)
    (forward lanes (valid r ∷ before) ps)
forward lanes before (stuffing r ∷ ps) = cons_heard lanes before (stuffing r) ps
    (in_place lanes (stuffing r ∷ before) ps) (forward lanes (stuffing r ∷ before) ps)

-- ---- the parts' events are the frames

abbrev Fitting : Mode → Part → Type 0
Fitting m x = Order m (x ∷ [])

abbrev HasReading : ℕ → Part → Type 0
HasReading lanes (attributes rows) = (a : MsaAttributes) × (read_attributes (gathered lanes rows) ≡ Ok a)
HasReading lanes _ = ⊤

first_frame : (lanes : ℕ) (t : FrameParts) (ts : List FrameParts) (f : Frame) (fs : List Frame)
    → AreFrames lanes (t ∷ ts) (f ∷ fs) → IsFrame lanes t f × AreFrames lanes ts fs
first_frame lanes t [] f [] h = (h.0, tt)
first_frame lanes t [] f (g ∷ fs) h = absurd h
first_frame lanes t (u ∷ ts) f fs h = (h.0, h.2)

all_read : (lanes : ℕ) (ps : List Part) (frames : List Frame) → AreFrames lanes (frame_parts ps) frames
    → AllByRecursion (HasReading lanes) ps
all_read lanes [] fs h = tt
all_read lanes (group r ∷ ps) fs h = (tt, all_read lanes ps fs h)
all_read lanes (block r ∷ ps) fs h = (tt, all_read lanes ps fs h)
all_read lanes (filler r ∷ ps) fs h = (tt, all_read lanes ps fs h)
all_read lanes (secondary r ∷ ps) fs h = (tt, all_read lanes ps fs h)
all_read lanes (begins ∷ ps) fs h = (tt, all_read lanes ps fs h)
all_read lanes (valid r ∷ ps) fs h = (tt, all_read lanes ps fs h)
all_read lanes (stuffing r ∷ ps) fs h = (tt, all_read lanes ps fs h)
all_read lanes (attributes rows ∷ ps) [] h = absurd (none lanes _ (frame_parts ps) h)
  where
    none : (lanes : ℕ) (t : FrameParts) (ts : List FrameParts) → AreFrames lanes (t ∷ ts) [] → ⊥
    none lanes t [] h = h
    none lanes t (u ∷ ts) h = h
all_read lanes (attributes rows ∷ ps) (f ∷ fs) h =
    let x = first_frame lanes (record { rows = rows; lines = lines_of ps }) (frame_parts ps) f fs h in
    ((f.attributes, x.0.read), all_read lanes ps fs x.1)

-- behind a line's start
rows_are : (lanes : ℕ) (a : MsaAttributes) (ps : List Part) → Order showing ps
    → (rows_heard (heard (events_in lanes (Some a) true ps)) ≡ valid_rows ps)
    × (ends (heard (events_in lanes (Some a) true ps)) ≡ is_ended ps)
rows_are lanes a [] w = (refl, refl)
rows_are lanes a (group r ∷ ps) w = (refl, refl)
rows_are lanes a (valid x ∷ ps) w = let i = rows_are lanes a ps w.1 in (ap (λ z. x ∷ z) i.0, i.1)
rows_are lanes a (stuffing x ∷ ps) w = rows_are lanes a ps w.1
rows_are lanes a (block x ∷ ps) w = absurd w.0
rows_are lanes a (filler x ∷ ps) w = absurd w.0
rows_are lanes a (attributes x ∷ ps) w = absurd w.0
rows_are lanes a (secondary x ∷ ps) w = absurd w.0
rows_are lanes a (begins ∷ ps) w = absurd w.0

abbrev line_pixels : ℕ → MsaAttributes → ActivePart → List Pixel
line_pixels lanes a line = line_heard lanes a line.rows

line_more : (lanes : ℕ) (a : MsaAttributes) (e : Bool) (rows : List (List ℕ)) (ls : List ActivePart) (es : List Event)
    (v : Bool) (r : List (List ℕ)) → v ≡ e → r ≡ rows
    → lines_heard lanes a es ≡ pixels_of lanes a ls
    → (if v then line_heard lanes a r ∷ lines_heard lanes a es else lines_heard lanes a es)
    ≡ pixels_of lanes a (record { rows = rows; is_whole = e } ∷ ls)
line_more lanes a true rows ls es v r f g h =
    rw f (ap (λ z. line_heard lanes a z ∷ lines_heard lanes a es) g ∙ ap (λ z. line_heard lanes a rows ∷ z) h)
line_more lanes a false rows ls es v r f g h = rw f h

lines_are : (lanes : ℕ) (a : MsaAttributes) (l : Bool) (m : Mode) (ps : List Part) → Order m ps
    → AllByRecursion (HasReading lanes) ps
    → lines_heard lanes a (heard (events_in lanes (Some a) l ps)) ≡ pixels_of lanes a (lines_of ps)
lines_are lanes a l m [] w k = refl
lines_are lanes a true m (group r ∷ ps) w k = lines_are lanes a false headed ps w.1 k.1
lines_are lanes a false m (group r ∷ ps) w k = lines_are lanes a false headed ps w.1 k.1
lines_are lanes a l m (block r ∷ ps) w k = lines_are lanes a l blanking ps w.1 k.1
lines_are lanes a l m (filler r ∷ ps) w k = lines_are lanes a l blanking ps w.1 k.1
lines_are lanes a l m (secondary r ∷ ps) w k = lines_are lanes a l blanking ps w.1 k.1
lines_are lanes a l m (attributes rows ∷ ps) w k =
    subst (λ x. lines_heard lanes a (heard (attributes_event x ∷ events_in lanes (result_ok x) l ps)) ≡ [])
    (sym k.0.1) refl
lines_are lanes a l m (begins ∷ ps) w k =
    let r = rows_are lanes a ps w.1 in
    line_more lanes a (is_ended ps) (valid_rows ps) (lines_of ps) (heard (events_in lanes (Some a) true ps)) _ _ r.1 r.0
    (lines_are lanes a true showing ps w.1 k.1)
lines_are lanes a l m (valid x ∷ ps) w k = lines_are lanes a l showing ps w.1 k.1
lines_are lanes a l m (stuffing x ∷ ps) w k = lines_are lanes a l showing ps w.1 k.1

skip_end : (lanes : ℕ) (b : Bool) (es : List Event)
    → frames_heard lanes (heard ((if b then LineEnd else Nothing) ∷ es)) ≡ frames_heard lanes (heard es)
skip_end lanes true es = refl
skip_end lanes false es = refl

skip_start : (lanes : ℕ) (b : Bool) (es : List Event)
    → frames_heard lanes (heard ((if b then LineStart else Nothing) ∷ es)) ≡ frames_heard lanes (heard es)
skip_start lanes true es = refl
skip_start lanes false es = refl

skip_valid : (lanes : ℕ) (b : Bool) (x : List ℕ) (es : List Event)
    → frames_heard lanes (heard ((if b then Valid x else Nothing) ∷ es)) ≡ frames_heard lanes (heard es)
skip_valid lanes true x es = refl
skip_valid lanes false x es = refl

frame_is : (f : Frame) (a : MsaAttributes) (ls : List (List Pixel)) → f.attributes ≡ a → f.lines ≡ ls
    → f ≡ record { attributes = a; lines = ls }
frame_is f a ls d e = ap (λ x. frame_of x f.lines) d ∙ ap (λ y. frame_of a y) e
  where
    frame_of : MsaAttributes → List (List Pixel) → Frame
    frame_of x y = record { attributes = x; lines = y }

frames_are : (lanes : ℕ) (o : Option MsaAttributes) (l : Bool) (m : Mode) (ps : List Part) (frames : List Frame)
    → Order m ps → AllByRecursion (HasReading lanes) ps
    → AreFrames lanes (frame_parts ps) frames → frames ≡ frames_heard lanes (heard (events_in lanes o l ps))
frames_are lanes o l m [] [] w k h = refl
frames_are lanes o l m [] (f ∷ fs) w k h = absurd h
frames_are lanes o l m (group r ∷ ps) fs w k h =
    frames_are lanes o false headed ps fs w.1 k.1 h ∙ sym (skip_end lanes (is_some o && l) (events_in lanes o false ps))
frames_are lanes o l m (block r ∷ ps) fs w k h = frames_are lanes o l blanking ps fs w.1 k.1 h
frames_are lanes o l m (filler r ∷ ps) fs w k h = frames_are lanes o l blanking ps fs w.1 k.1 h
frames_are lanes o l m (secondary r ∷ ps) fs w k h = frames_are lanes o l blanking ps fs w.1 k.1 h
frames_are lanes o l m (begins ∷ ps) fs w k h =
    frames_are lanes o true showing ps fs w.1 k.1 h ∙ sym (skip_start lanes (is_some o) (events_in lanes o true ps))
frames_are lanes o l m (valid x ∷ ps) fs w k h =
    frames_are lanes o l showing ps fs w.1 k.1 h ∙ sym (skip_valid lanes (is_some o) x (events_in lanes o l ps))
frames_are lanes o l m (stuffing x ∷ ps) fs w k h = frames_are lanes o l showing ps fs w.1 k.1 h
frames_are lanes o l m (attributes rows ∷ ps) [] w k h = absurd (none lanes _ (frame_parts ps) h)
  where
    none : (lanes : ℕ) (t : FrameParts) (ts : List FrameParts) → AreFrames lanes (t ∷ ts) [] → ⊥
    none lanes t [] h = h
    none lanes t (u ∷ ts) h = h
frames_are lanes o l m (attributes rows ∷ ps) (f ∷ fs) w k h =
    let x = first_frame lanes (record { rows = rows; lines = lines_of ps }) (frame_parts ps) f fs h in
    let i = frames_are lanes (Some f.attributes) l blanking ps fs w.1 k.1 x.1 in
    let j = lines_are lanes f.attributes l blanking ps w.1 k.1 in
    subst (λ r. f ∷ fs ≡ frames_heard lanes (heard (attributes_event r ∷ events_in lanes (result_ok r) l ps)))
    (sym x.0.read)
    (ap (λ g. g ∷ fs) (frame_is f f.attributes
    (lines_heard lanes f.attributes (heard (events_in lanes (Some f.attributes) l ps))) refl (x.0.lines ∙ sym j))
    ∙ ap (λ gs. record {
      attributes = f.attributes;
      lines =
          lines_heard lanes f.attributes (heard (events_in lanes (Some f.attributes) l ps));
    } ∷ gs) i)

nothing_read : (l : Lanes) (en : Bool) → Reads en (lanes_count l) [] [] start
nothing_read l en = record { tokens = []; sets_are = refl; uniform = tt; reached = refl }

pub gives_frames : GivesFrames
gives_frames en l sets es frames tail h r =
    let parts : List Part = r.whole ++ begun r.next r.front in
    let t : Tells en (lanes_count l) sets (r.whole ++ begun r.next r.front) =
    record { whole = r.whole; next = r.next; front = r.front; cut = r.cut; parts_are = refl } in
    let a : heard_of (lanes_count l) (reverse (r.whole ++ begun r.next r.front)) ≡ heard es =
    all_heard l en [] sets es [] start (r.whole ++ begun r.next r.front) (nothing_read l en) tt h t in
    let b : heard_of (lanes_count l) (reverse (r.whole ++ begun r.next r.front) ++ [])
    ≡ heard (events_in (lanes_count l) None false (r.whole ++ begun r.next r.front)) =
    forward (lanes_count l) [] (r.whole ++ begun r.next r.front) in
    frames_are (lanes_count l) None false opening (r.whole ++ begun r.next r.front) frames
    (cut_order en (lanes_count l) sets r.whole r.next r.front r.cut)
    (all_read (lanes_count l) (r.whole ++ begun r.next r.front) frames r.are_frames) r.are_frames
    ∙ ap (frames_heard (lanes_count l)) (sym b
    ∙ ap (heard_of (lanes_count l)) (append-nil (reverse (r.whole ++ begun r.next r.front))) ∙ a)
