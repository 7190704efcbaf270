-- What holds of a list of sets holds of its fronts.
use Rattle.std.proofs.Common.{ℕ, ◌≤◌, ◌≡◌, ◌∙◌, true, false, List, [], ◌∷◌, ◌++◌, length, refl, sym, ap, subst, arith}
use Rattle.std.proofs.Common.{append_assoc}
use Rattle.std.specs.Prelude.{⊤}
use Rattle.std.specs.List.{AllByRecursion}
use Rattle.std.proofs.lemmas.List.{append-nil}
use Rattle.dpx_grammar.specs.Parts.{Part, group, block, filler, attributes, secondary, begins, valid, stuffing}
use Rattle.dpx_grammar.specs.Accepted.{copies, AreProgressive, HasOneId, valid_rows, is_ended, lines_of, FrameParts}
use Rattle.dpx_grammar.specs.Accepted.{frame_parts, Frame, HasLength, line_length, pixels_of, IsFrame, AreFrames}
use Rattle.dpx_grammar.proofs.Lists.{all_append}

-- what is told before the last part
pub all_front : {X : Type 0} (P : X → Type 0) (xs ys : List X) → AllByRecursion P (xs ++ ys) → AllByRecursion P xs
all_front P [] ys h = tt
all_front P (x ∷ xs) ys h = (h.0, all_front P xs ys h.1)

pub all_back : {X : Type 0} (P : X → Type 0) (xs ys : List X) → AllByRecursion P (xs ++ ys) → AllByRecursion P ys
all_back P [] ys h = h
all_back P (x ∷ xs) ys h = all_back P xs ys h.1

-- ---- lines

rows_front : (w : List Part) (x : Part) → length (valid_rows w) ≤ length (valid_rows (w ++ x ∷ []))
rows_front [] x = omega arith
rows_front (valid row ∷ w) x = omega (arith, rows_front w x)
rows_front (stuffing rows ∷ w) x = rows_front w x
rows_front (group reset ∷ w) x = omega arith
rows_front (block rows ∷ w) x = omega arith
rows_front (filler row ∷ w) x = omega arith
rows_front (attributes rows ∷ w) x = omega arith
rows_front (secondary rows ∷ w) x = omega arith
rows_front (begins ∷ w) x = omega arith

ended_front : (w : List Part) (x : Part) → is_ended w ≡ true
    → (is_ended (w ++ x ∷ []) ≡ true) × (valid_rows (w ++ x ∷ []) ≡ valid_rows w)
ended_front [] x h = absurd (different h)
  where
    different : false ≡ true → ⊥
    different e = cc
ended_front (valid row ∷ w) x h = let e = ended_front w x h in (e.0, ap (λ rows. row ∷ rows) e.1)
ended_front (stuffing rows ∷ w) x h = ended_front w x h
ended_front (group reset ∷ w) x h = (refl, refl)
ended_front (block rows ∷ w) x h = (h, refl)
ended_front (filler row ∷ w) x h = (h, refl)
ended_front (attributes rows ∷ w) x h = (h, refl)
ended_front (secondary rows ∷ w) x h = (h, refl)
ended_front (begins ∷ w) x h = (h, refl)

line_front : (symbols : ℕ) (w : List Part) (x : Part)
    → HasLength symbols (record { rows = valid_rows (w ++ x ∷ []); is_whole = is_ended (w ++ x ∷ []) })
    → HasLength symbols (record { rows = valid_rows w; is_whole = is_ended w })
line_front symbols w x h = record {
  most = omega (arith, rows_front w x, h.most);
  whole = λ e. let f = ended_front w x e in ap length (sym f.1) ∙ h.whole f.0;
}

lines_front : (symbols : ℕ) (w : List Part) (x : Part) → AllByRecursion (HasLength symbols) (lines_of (w ++ x ∷ []))
    → AllByRecursion (HasLength symbols) (lines_of w) × (length (lines_of w) ≤ length (lines_of (w ++ x ∷ [])))
lines_front symbols [] x h = (tt, omega arith)
lines_front symbols (begins ∷ w) x h =
    let t = lines_front symbols w x h.1 in
    ((line_front symbols w x h.0, t.0), omega (arith, t.1))
lines_front symbols (attributes rows ∷ w) x h = (tt, omega arith)
lines_front symbols (group reset ∷ w) x h = lines_front symbols w x h
lines_front symbols (block rows ∷ w) x h = lines_front symbols w x h
lines_front symbols (filler row ∷ w) x h = lines_front symbols w x h
lines_front symbols (secondary rows ∷ w) x h = lines_front symbols w x h
lines_front symbols (valid row ∷ w) x h = lines_front symbols w x h
lines_front symbols (stuffing rows ∷ w) x h = lines_front symbols w x h

-- ---- where attributes follow, the lines before them are told

abbrev Tells : List FrameParts → Type 0
Tells [] = ⊥
Tells (t ∷ ts) = ⊤

told_rows : (w : List Part) (x : Part) → Tells (frame_parts w)
    → (valid_rows (w ++ x ∷ []) ≡ valid_rows w) × (is_ended (w ++ x ∷ []) ≡ is_ended w)
told_rows [] x h = absurd h
told_rows (valid row ∷ w) x h = let e = told_rows w x h in (ap (λ rows. row ∷ rows) e.0, e.1)
told_rows (stuffing rows ∷ w) x h = told_rows w x h
told_rows (group reset ∷ w) x h = (refl, refl)
told_rows (block rows ∷ w) x h = (refl, refl)
told_rows (filler row ∷ w) x h = (refl, refl)
told_rows (attributes rows ∷ w) x h = (refl, refl)
told_rows (secondary rows ∷ w) x h = (refl, refl)
told_rows (begins ∷ w) x h = (refl, refl)

told_lines : (w : List Part) (x : Part) → Tells (frame_parts w) → length (lines_of (w ++ x ∷ [])) ≡ length (lines_of w)
told_lines [] x h = absurd h
told_lines (begins ∷ w) x h = omega (arith, told_lines w x h)
told_lines (attributes rows ∷ w) x h = refl
told_lines (group reset ∷ w) x h = told_lines w x h
told_lines (block rows ∷ w) x h = told_lines w x h
told_lines (filler row ∷ w) x h = told_lines w x h
told_lines (secondary rows ∷ w) x h = told_lines w x h
told_lines (valid row ∷ w) x h = told_lines w x h
told_lines (stuffing rows ∷ w) x h = told_lines w x h

tells_more : (w : List Part) (x : Part) → Tells (frame_parts w) → Tells (frame_parts (w ++ x ∷ []))
tells_more [] x h = absurd h
tells_more (attributes rows ∷ w) x h = tt
tells_more (begins ∷ w) x h = tells_more w x h
tells_more (group reset ∷ w) x h = tells_more w x h
tells_more (block rows ∷ w) x h = tells_more w x h
tells_more (filler row ∷ w) x h = tells_more w x h
tells_more (secondary rows ∷ w) x h = tells_more w x h
tells_more (valid row ∷ w) x h = tells_more w x h
tells_more (stuffing rows ∷ w) x h = tells_more w x h

-- ---- frames

record IsFirst (lanes : ℕ) (t : FrameParts) (ts : List FrameParts) (f : Frame) (fs : List Frame) : Type 0 where
  frame : IsFrame lanes t f
  most : length t.lines ≤ f.attributes.height
  whole : Tells ts → length t.lines ≡ f.attributes.height
  rest : AreFrames lanes ts fs

first_of : (lanes : ℕ) (t : FrameParts) (ts : List FrameParts) (f : Frame) (fs : List Frame)
    → AreFrames lanes (t ∷ ts) (f ∷ fs) → IsFirst lanes t ts f fs
first_of lanes t [] f [] h = record { frame = h.0; most = h.1; whole = λ e. absurd e; rest = tt }
first_of lanes t [] f (g ∷ fs) h = absurd h
first_of lanes t (u ∷ ts) f fs h = record { frame = h.0; most = omega (arith, h.1); whole = λ e. h.1; rest = h.2 }

made_of : (lanes : ℕ) (t : FrameParts) (ts : List FrameParts) (f : Frame) (fs : List Frame) → IsFirst lanes t ts f fs
    → AreFrames lanes (t ∷ ts) (f ∷ fs)
made_of lanes t [] f [] h = (h.frame, h.most)
made_of lanes t [] f (g ∷ fs) h = absurd h.rest
made_of lanes t (u ∷ ts) f fs h = (h.frame, h.whole tt, h.rest)

pub frames_front : (lanes : ℕ) (w : List Part) (x : Part) (fs : List Frame)
    → AreFrames lanes (frame_parts (w ++ x ∷ [])) fs
    → (gs : List Frame) × AreFrames lanes (frame_parts w) gs
frames_front lanes [] x fs h = ([], tt)
frames_front lanes (attributes rows ∷ w) x [] h = absurd (none lanes _ _ h)
  where
    none : (lanes : ℕ) (t : FrameParts) (ts : List FrameParts) → AreFrames lanes (t ∷ ts) [] → ⊥
    none lanes t [] h = h
    none lanes t (u ∷ ts) h = h
frames_front lanes (attributes rows ∷ w) x (f ∷ fs) h =
    let a : IsFirst lanes (record { rows = rows; lines = lines_of (w ++ x ∷ []) }) (frame_parts (w ++ x ∷ [])) f fs =
    first_of lanes (record { rows = rows; lines = lines_of (w ++ x ∷ []) }) (frame_parts (w ++ x ∷ [])) f fs h in
    let r = frames_front lanes w x fs a.rest in
    let l = lines_front (line_length lanes f.attributes) w x a.frame.lengths in
    let g : Frame = record { attributes = f.attributes; lines = pixels_of lanes f.attributes (lines_of w) } in (
      g ∷ r.0,
      made_of lanes (record { rows = rows; lines = lines_of w }) (frame_parts w)
          (record { attributes = f.attributes; lines = pixels_of lanes f.attributes (lines_of w) }) r.0 (record {
            frame = record { read = a.frame.read; lengths = l.0; lines = refl };
            most = omega (arith, l.1, a.most);
            whole = λ e. sym (told_lines w x e) ∙ a.whole (tells_more w x e);
            rest = r.1;
          }),
    )
frames_front lanes (begins ∷ w) x fs h = frames_front lanes w x fs h
frames_front lanes (group reset ∷ w) x fs h = frames_front lanes w x fs h
frames_front lanes (block rows ∷ w) x fs h = frames_front lanes w x fs h
frames_front lanes (filler row ∷ w) x fs h = frames_front lanes w x fs h
frames_front lanes (secondary rows ∷ w) x fs h = frames_front lanes w x fs h
frames_front lanes (valid row ∷ w) x fs h = frames_front lanes w x fs h
frames_front lanes (stuffing rows ∷ w) x fs h = frames_front lanes w x fs h

-- ---- blocks

copies_more : (rows : List (List ℕ)) (r : List ℕ) → (extra : List ℕ) × (copies (rows ++ r ∷ []) ≡ copies rows ++ extra)
copies_more [] r = (r, refl)
copies_more (a ∷ []) r = ([], sym (append-nil a))
copies_more (a ∷ b ∷ []) r = ([], refl)
copies_more (a ∷ b ∷ c ∷ rows) r =
    let m = copies_more rows r in
    (m.0, ap (λ xs. a ++ xs) m.1 ∙ sym (append_assoc a (copies rows) m.0))

progressive_front : (xs ys : List ℕ) → AreProgressive (xs ++ ys) → AreProgressive xs
progressive_front [] ys h = tt
progressive_front (x ∷ xs) ys h = (h.0, all_front (λ other. other ≡ x) xs ys h.1)

rows_block : (w : List Part) (a b : List (List ℕ))
    → (valid_rows (w ++ block a ∷ []) ≡ valid_rows (w ++ block b ∷ []))
    × (is_ended (w ++ block a ∷ []) ≡ is_ended (w ++ block b ∷ []))
rows_block [] a b = (refl, refl)
rows_block (valid row ∷ w) a b = let e = rows_block w a b in (ap (λ rows. row ∷ rows) e.0, e.1)
rows_block (stuffing rows ∷ w) a b = rows_block w a b
rows_block (group reset ∷ w) a b = (refl, refl)
rows_block (block rows ∷ w) a b = (refl, refl)
rows_block (filler row ∷ w) a b = (refl, refl)
rows_block (attributes rows ∷ w) a b = (refl, refl)
rows_block (secondary rows ∷ w) a b = (refl, refl)
rows_block (begins ∷ w) a b = (refl, refl)

lines_block : (w : List Part) (a b : List (List ℕ)) → lines_of (w ++ block a ∷ []) ≡ lines_of (w ++ block b ∷ [])
lines_block [] a b = refl
lines_block (begins ∷ w) a b = let e = rows_block w a b in rw (e.0, e.1, lines_block w a b) refl
lines_block (attributes rows ∷ w) a b = refl
lines_block (group reset ∷ w) a b = lines_block w a b
lines_block (block rows ∷ w) a b = lines_block w a b
lines_block (filler row ∷ w) a b = lines_block w a b
lines_block (secondary rows ∷ w) a b = lines_block w a b
lines_block (valid row ∷ w) a b = lines_block w a b
lines_block (stuffing rows ∷ w) a b = lines_block w a b

told_block : (w : List Part) (a b : List (List ℕ)) → frame_parts (w ++ block a ∷ []) ≡ frame_parts (w ++ block b ∷ [])
told_block [] a b = refl
told_block (attributes rows ∷ w) a b =
    ap (λ l. record { rows = rows; lines = l } ∷ frame_parts (w ++ block a ∷ [])) (lines_block w a b)
    ∙ ap (λ t. record { rows = rows; lines = lines_of (w ++ block b ∷ []) } ∷ t) (told_block w a b)
told_block (begins ∷ w) a b = told_block w a b
told_block (group reset ∷ w) a b = told_block w a b
told_block (block rows ∷ w) a b = told_block w a b
told_block (filler row ∷ w) a b = told_block w a b
told_block (secondary rows ∷ w) a b = told_block w a b
told_block (valid row ∷ w) a b = told_block w a b
told_block (stuffing rows ∷ w) a b = told_block w a b

-- ---- the rules

pub record Holds (lanes : ℕ) (told : List Part) : Type 0 where
  pub ids : AllByRecursion HasOneId told
  pub frames : List Frame
  pub are : AreFrames lanes (frame_parts told) frames

pub holds_front : (lanes : ℕ) (w : List Part) (x : Part) → Holds lanes (w ++ x ∷ []) → Holds lanes w
holds_front lanes w x h =
    let f = frames_front lanes w x h.frames h.are in
    record { ids = all_front HasOneId w (x ∷ []) h.ids; frames = f.0; are = f.1 }

pub holds_block : (lanes : ℕ) (w : List Part) (rows : List (List ℕ)) (r : List ℕ)
    → Holds lanes (w ++ block (rows ++ r ∷ []) ∷ []) → Holds lanes (w ++ block rows ∷ [])
holds_block lanes w rows r h =
    let m = copies_more rows r in
    let last : HasOneId (block (rows ++ r ∷ [])) = (all_back HasOneId w (block (rows ++ r ∷ []) ∷ []) h.ids).0 in
    record {
      ids =
          all_append HasOneId w (block rows ∷ []) (all_front HasOneId w (block (rows ++ r ∷ []) ∷ []) h.ids)
          (progressive_front (copies rows) m.0 (subst (λ xs. AreProgressive xs) m.1 last), tt);
      frames = h.frames;
      are = subst (λ ts. AreFrames lanes ts h.frames) (told_block w (rows ++ r ∷ []) rows) h.are;
    }
