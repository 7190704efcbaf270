-- What events tell is what their frames give.
use Rattle.std.proofs.Common.{ℕ, ◌≡◌, ◌∙◌, ◌+◌, Bool, true, false, List, [], ◌∷◌, ◌++◌, length, refl, sym, ap, subst}
use Rattle.std.proofs.Common.{arith, append_assoc}
use Rattle.std.specs.Prelude.{if◌then◌else◌, ◌==◌}
use Rattle.std.specs.List.{flat_map, filter}
use Rattle.std.proofs.lemmas.List.{append-nil}
use Rattle.std.proofs.lemmas.List.Sums.{sum_by-cons}
use Rattle.dpx_base.specs.declared.pixel.Pixel.{Pixel}
use Rattle.dpx_grammar.specs.Accepted.{Frame}
use Rattle.dpx_msa.specs.declared.attributes.Attributes.{Attributes as MsaAttributes}
use Rattle.dpx_parse.specs.Received.{heard, ends, rows_heard, line_heard, lines_heard, frames_heard}
use Rattle.dpx_parse.specs.declared.event.Event.{Event}
use Rattle.dpx_parse.specs.declared.event.Event.TheVariants.{Nothing, Attributes, LineStart, Valid, LineEnd}
use Rattle.dpx_reception.specs.Due.{pixel_records, attributes_line, records_due, lines_due, whole_frames, whole_lines}
use Rattle.dpx_sink.specs.Told.{Under, none, idle, live, records_told, text_told, after_all}
use Rattle.dpx_sink.specs.Told.{Tally, no_tally, tallied_all, frames_in}

one_more : (b : Bool) (line : List Pixel) (lines : List (List Pixel)) (rest : List ℕ)
    → (if b then pixel_records line else []) ++ (flat_map pixel_records lines ++ rest)
    ≡ flat_map pixel_records (if b then line ∷ lines else lines) ++ rest
one_more true line lines rest = sym (append_assoc (pixel_records line) (flat_map pixel_records lines) rest)
one_more false line lines rest = refl

-- ---- records

mutual
  unfolding records_due

  idle_gives : (lanes : ℕ) (a : MsaAttributes) (es : List Event)
      → records_told lanes (idle a) es
      ≡ flat_map pixel_records (lines_heard lanes a (heard es)) ++ records_due (frames_heard lanes (heard es))
  idle_gives lanes a [] = refl
  idle_gives lanes a (Nothing ∷ es) = idle_gives lanes a es
  idle_gives lanes a (Attributes b ∷ es) = idle_gives lanes b es
  idle_gives lanes a (LineStart ∷ es) =
      live_gives lanes a [] es
      ∙ one_more (ends (heard es)) (line_heard lanes a (rows_heard (heard es))) (lines_heard lanes a (heard es))
      (records_due (frames_heard lanes (heard es)))
  idle_gives lanes a (Valid row ∷ es) = idle_gives lanes a es
  idle_gives lanes a (LineEnd ∷ es) = idle_gives lanes a es

  live_gives : (lanes : ℕ) (a : MsaAttributes) (rows : List (List ℕ)) (es : List Event)
      → records_told lanes (live a rows) es
      ≡ (if ends (heard es) then pixel_records (line_heard lanes a (rows ++ rows_heard (heard es))) else [])
      ++ (flat_map pixel_records (lines_heard lanes a (heard es)) ++ records_due (frames_heard lanes (heard es)))
  live_gives lanes a rows [] = refl
  live_gives lanes a rows (Nothing ∷ es) = live_gives lanes a rows es
  live_gives lanes a rows (Attributes b ∷ es) = idle_gives lanes b es
  live_gives lanes a rows (LineStart ∷ es) =
      live_gives lanes a [] es
      ∙ one_more (ends (heard es)) (line_heard lanes a (rows_heard (heard es))) (lines_heard lanes a (heard es))
      (records_due (frames_heard lanes (heard es)))
  live_gives lanes a rows (Valid row ∷ es) =
      live_gives lanes a (rows ++ row ∷ []) es
      ∙ ap (λ xs. (if ends (heard es) then pixel_records (line_heard lanes a xs) else [])
      ++ (flat_map pixel_records (lines_heard lanes a (heard es)) ++ records_due (frames_heard lanes (heard es))))
      (append_assoc rows (row ∷ []) (rows_heard (heard es)))
  live_gives lanes a rows (LineEnd ∷ es) =
      ap (λ xs. pixel_records (line_heard lanes a rows) ++ xs) (idle_gives lanes a es)
      ∙ ap (λ xs. pixel_records (line_heard lanes a xs)
      ++ (flat_map pixel_records (lines_heard lanes a (heard es)) ++ records_due (frames_heard lanes (heard es))))
      (sym (append-nil rows))

pub none_gives : (lanes : ℕ) (es : List Event)
    → records_told lanes none es ≡ records_due (frames_heard lanes (heard es))
unfolding records_due
none_gives lanes [] = refl
none_gives lanes (Nothing ∷ es) = none_gives lanes es
none_gives lanes (Attributes b ∷ es) = idle_gives lanes b es
none_gives lanes (LineStart ∷ es) = none_gives lanes es
none_gives lanes (Valid row ∷ es) = none_gives lanes es
none_gives lanes (LineEnd ∷ es) = none_gives lanes es

-- ---- text

pub text_gives : (lanes : ℕ) (es : List Event) → text_told es ≡ lines_due (frames_heard lanes (heard es))
unfolding lines_due
text_gives lanes [] = refl
text_gives lanes (Nothing ∷ es) = text_gives lanes es
text_gives lanes (Attributes b ∷ es) = ap (λ xs. attributes_line b ++ xs) (text_gives lanes es)
text_gives lanes (LineStart ∷ es) = text_gives lanes es
text_gives lanes (Valid row ∷ es) = text_gives lanes es
text_gives lanes (LineEnd ∷ es) = text_gives lanes es

-- ---- counts

abbrev one_if : Bool → ℕ
one_if b = if b then 1 else 0

frame_more : (a : MsaAttributes) (lines : List (List Pixel)) (frames : List Frame)
    → whole_frames (record { attributes = a; lines = lines } ∷ frames)
    ≡ one_if (length lines == a.height) + whole_frames frames
unfolding whole_frames
frame_more a lines frames =
    by_test (length lines == a.height) (record { attributes = a; lines = lines })
    (filter (λ frame. length frame.lines == frame.attributes.height) frames)
  where
    by_test : (b : Bool) (f : Frame) (fs : List Frame)
        → length (if b then f ∷ fs else fs) ≡ one_if b + length fs
    by_test true f fs = omega arith
    by_test false f fs = omega arith

lines_more : (a : MsaAttributes) (lines : List (List Pixel)) (frames : List Frame)
    → whole_lines (record { attributes = a; lines = lines } ∷ frames) ≡ length lines + whole_lines frames
unfolding whole_lines
lines_more a lines frames =
    sum_by-cons (λ (frame : Frame). length frame.lines) (record { attributes = a; lines = lines }) frames

line_more : (b : Bool) (line : List Pixel) (lines : List (List Pixel))
    → length (if b then line ∷ lines else lines) ≡ one_if b + length lines
line_more true line lines = omega arith
line_more false line lines = omega arith

-- what is counted of events, where so many more lines of the frame of these attributes end in them
abbrev CountsTo : (lanes : ℕ) → Under → Tally → MsaAttributes → (more : ℕ) → List Event → Type 0
CountsTo lanes under t a more es =
    (frames_in (after_all under es) (tallied_all under t es)
    ≡ t.closed + one_if (t.current + more == a.height) + whole_frames (frames_heard lanes (heard es)))
    × ((tallied_all under t es).lines ≡ t.lines + more + whole_lines (frames_heard lanes (heard es)))

no_frames : whole_frames [] ≡ 0
unfolding whole_frames
no_frames = refl

no_lines : whole_lines [] ≡ 0
unfolding whole_lines
no_lines = refl

same_count : (a : MsaAttributes) (n m : ℕ) → n ≡ m → one_if (n == a.height) ≡ one_if (m == a.height)
same_count a n m e = ap (λ k. one_if (k == a.height)) e

-- no event more
ended : (lanes : ℕ) (under : Under) (t : Tally) (a : MsaAttributes)
    → frames_in under t ≡ t.closed + one_if (t.current == a.height) → CountsTo lanes under t a 0 []
ended lanes under t a e = (
  omega (arith, e, same_count a t.current (t.current + 0) (omega arith), no_frames),
  omega (arith, no_lines),
)

-- the lines of a frame that is over, and of the one that begins
abbrev begun : MsaAttributes → Tally → Tally
begun a t = record { closed = t.closed + one_if (t.current == a.height); current = 0; lines = t.lines }

-- a frame begins
frame_begins : (lanes : ℕ) (under : Under) (t : Tally) (a b : MsaAttributes) (es : List Event)
    → CountsTo lanes (idle b) (begun a t) b (length (lines_heard lanes b (heard es))) es
    → (frames_in (after_all (idle b) es) (tallied_all (idle b) (begun a t) es)
    ≡ t.closed + one_if (t.current + 0 == a.height) + whole_frames (frames_heard lanes (Attributes b ∷ heard es)))
    × ((tallied_all (idle b) (begun a t) es).lines
    ≡ t.lines + 0 + whole_lines (frames_heard lanes (Attributes b ∷ heard es)))
frame_begins lanes under t a b es h =
    let lines = lines_heard lanes b (heard es) in
    let frames = frames_heard lanes (heard es) in (
      omega (
        arith,
        h.0,
        same_count a t.current (t.current + 0) (omega arith),
        same_count b (0 + length lines) (length lines) (omega arith),
        frame_more b lines frames,
      ),
      omega (arith, h.1, lines_more b lines frames),
    )

-- the same, by another number of lines
counts_by : (lanes : ℕ) (under : Under) (t : Tally) (a : MsaAttributes) (more other : ℕ) (es : List Event)
    → more ≡ other
    → CountsTo lanes under t a more es → CountsTo lanes under t a other es
counts_by lanes under t a more other es e h = subst (λ n. CountsTo lanes under t a n es) e h

-- a line has ended
line_ended : (lanes : ℕ) (under : Under) (t : Tally) (a : MsaAttributes) (more : ℕ) (es : List Event)
    → CountsTo lanes under (record { closed = t.closed; current = t.current + 1; lines = t.lines + 1 }) a more es
    → (frames_in (after_all under es)
    (tallied_all under (record { closed = t.closed; current = t.current + 1; lines = t.lines + 1 }) es)
    ≡ t.closed + one_if (t.current + (1 + more) == a.height) + whole_frames (frames_heard lanes (heard es)))
    × ((tallied_all under (record { closed = t.closed; current = t.current + 1; lines = t.lines + 1 }) es).lines
    ≡ t.lines + (1 + more) + whole_lines (frames_heard lanes (heard es)))
line_ended lanes under t a more es h = (
  omega (arith, h.0, same_count a (t.current + 1 + more) (t.current + (1 + more)) (omega arith)),
  omega (arith, h.1),
)

mutual
  idle_counts : (lanes : ℕ) (a : MsaAttributes) (t : Tally) (es : List Event)
      → CountsTo lanes (idle a) t a (length (lines_heard lanes a (heard es))) es
  idle_counts lanes a t [] = ended lanes (idle a) t a refl
  idle_counts lanes a t (Nothing ∷ es) = idle_counts lanes a t es
  idle_counts lanes a t (Attributes b ∷ es) =
      frame_begins lanes (idle a) t a b es (idle_counts lanes b (begun a t) es)
  idle_counts lanes a t (LineStart ∷ es) =
      counts_by lanes (live a []) t a (one_if (ends (heard es)) + length (lines_heard lanes a (heard es)))
      (length (lines_heard lanes a (LineStart ∷ heard es))) es
      (sym (line_more (ends (heard es)) (line_heard lanes a (rows_heard (heard es))) (lines_heard lanes a (heard es))))
      (live_counts lanes a [] t es)
  idle_counts lanes a t (Valid row ∷ es) = idle_counts lanes a t es
  idle_counts lanes a t (LineEnd ∷ es) = idle_counts lanes a t es

  live_counts : (lanes : ℕ) (a : MsaAttributes) (rows : List (List ℕ)) (t : Tally) (es : List Event)
      → CountsTo lanes (live a rows) t a (one_if (ends (heard es)) + length (lines_heard lanes a (heard es))) es
  live_counts lanes a rows t [] =
      counts_by lanes (live a rows) t a 0 (0 + 0) [] (omega arith) (ended lanes (live a rows) t a refl)
  live_counts lanes a rows t (Nothing ∷ es) = live_counts lanes a rows t es
  live_counts lanes a rows t (Attributes b ∷ es) =
      let h = frame_begins lanes (live a rows) t a b es (idle_counts lanes b (begun a t) es) in (
        omega (arith, h.0, same_count a (t.current + 0) (t.current + (0 + 0)) (omega arith)),
        omega (arith, h.1),
      )
  live_counts lanes a rows t (LineStart ∷ es) =
      counts_by lanes (live a []) t a (one_if (ends (heard es)) + length (lines_heard lanes a (heard es)))
      (0 + length (lines_heard lanes a (LineStart ∷ heard es))) es
      (sym (line_more (ends (heard es)) (line_heard lanes a (rows_heard (heard es))) (lines_heard lanes a (heard es)))
      ∙ omega arith)
      (live_counts lanes a [] t es)
  live_counts lanes a rows t (Valid row ∷ es) = live_counts lanes a (rows ++ row ∷ []) t es
  live_counts lanes a rows t (LineEnd ∷ es) =
      line_ended lanes (idle a) t a (length (lines_heard lanes a (heard es))) es
      (idle_counts lanes a (record { closed = t.closed; current = t.current + 1; lines = t.lines + 1 }) es)

none_counts : (lanes : ℕ) (t : Tally) (es : List Event)
    → (frames_in (after_all none es) (tallied_all none t es)
    ≡ t.closed + whole_frames (frames_heard lanes (heard es)))
    × ((tallied_all none t es).lines ≡ t.lines + whole_lines (frames_heard lanes (heard es)))
none_counts lanes t [] = (omega (arith, no_frames), omega (arith, no_lines))
none_counts lanes t (Nothing ∷ es) = none_counts lanes t es
none_counts lanes t (Attributes b ∷ es) =
    let lines = lines_heard lanes b (heard es) in
    let frames = frames_heard lanes (heard es) in
    let h = idle_counts lanes b (record { closed = t.closed + 0; current = 0; lines = t.lines }) es in (
      omega (
        arith,
        h.0,
        same_count b (0 + length lines) (length lines) (omega arith),
        frame_more b lines frames,
      ),
      omega (arith, h.1, lines_more b lines frames),
    )
none_counts lanes t (LineStart ∷ es) = none_counts lanes t es
none_counts lanes t (Valid row ∷ es) = none_counts lanes t es
none_counts lanes t (LineEnd ∷ es) = none_counts lanes t es

-- what was counted of all events is what their frames count
pub counts_are : (lanes : ℕ) (es : List Event)
    → (frames_in (after_all none es) (tallied_all none no_tally es) ≡ whole_frames (frames_heard lanes (heard es)))
    × ((tallied_all none no_tally es).lines ≡ whole_lines (frames_heard lanes (heard es)))
counts_are lanes es =
    let h = none_counts lanes no_tally es in
    (omega (arith, h.0), omega (arith, h.1))
