-- What is due of frames that were sent.
use Rattle.std.proofs.Common.{◌≡◌, ◌==◌, ℕ, zero, suc, ◌+◌, ◌*◌, Bool, true, List, [], ◌∷◌, ◌++◌, length, map}
use Rattle.std.proofs.Common.{replicate}
use Rattle.std.proofs.Common.{refl, sym, ap, ◌∙◌, arith, cond}
use Rattle.std.specs.List.{range_with_len, flat_map, filter, sum_by}
use Rattle.std.proofs.lemmas.Bool.{eq-eqb}
use Rattle.std.proofs.lemmas.Grind.{flat_map-append}
use Rattle.std.proofs.lemmas.List.FromFn.{length-map-range_with_len}
use Rattle.std.proofs.lemmas.List.Sums.{sum_by-cons}
use Rattle.dpx_base.specs.PixelRecord.{pixel_record}
use Rattle.dpx_base.specs.Plan.{PlanFacts}
use Rattle.dpx_base.specs.declared.pixel.Pixel.{Pixel}
use Rattle.dpx_grammar.specs.Accepted.{Frame}
use Rattle.dpx_inversion.specs.Laws.{pixels_in, row_of_pixels, sent_frames}
use Rattle.dpx_msa.specs.Reading.{attributes_of}
use Rattle.dpx_msa.specs.declared.attributes.Attributes.{Attributes}
use Rattle.dpx_reception.specs.Due.{pixel_records, records_due, attributes_line, lines_due, whole_frames, whole_lines}

line_records : (lines : List (List Pixel))
    → flat_map pixel_records lines ≡ pixel_records (flat_map (λ line. line) lines)
unfolding pixel_records
line_records [] = refl
line_records (line ∷ lines) =
    ap (λ rest. flat_map pixel_record line ++ rest) (line_records lines)
    ∙ sym (flat_map-append pixel_record line (flat_map (λ l. l) lines))

-- the records of frames are those of their pixels
pub frame_records : (frames : List Frame) → records_due frames ≡ pixel_records (pixels_in frames)
unfolding records_due pixel_records
frame_records [] = refl
frame_records (frame ∷ frames) =
    ap (λ front. front ++ records_due frames) (line_records frame.lines)
    ∙ (ap (λ rest. pixel_records (flat_map (λ l. l) frame.lines) ++ rest) (frame_records frames)
    ∙ sym (flat_map-append pixel_record (flat_map (λ l. l) frame.lines) (pixels_in frames)))

same_text : (f : ℕ → Frame) (a : Attributes) (s n : ℕ) → ((k : ℕ) → (f k).attributes ≡ a)
    → flat_map (λ frame. attributes_line frame.attributes) (map f (range_with_len s n))
    ≡ flat_map (λ line. line) (replicate n (attributes_line a))
same_text f a s zero h = refl
same_text f a s (suc n) h =
    ap (λ front. front ++ flat_map (λ frame. attributes_line frame.attributes) (map f (range_with_len (s + 1) n)))
    (ap attributes_line (h s))
    ∙ ap (λ rest. attributes_line a ++ rest) (same_text f a (s + 1) n h)

all_whole : (f : ℕ → Frame) (s n : ℕ)
    → ((k : ℕ) → (length (f k).lines == (f k).attributes.height) ≡ true)
    → length (filter (λ frame. length frame.lines == frame.attributes.height) (map f (range_with_len s n))) ≡ n
all_whole f s zero h = refl
all_whole f s (suc n) h =
    let rest = filter (λ (frame : Frame). length frame.lines == frame.attributes.height)
    (map f (range_with_len (s + 1) n)) in
    ap (λ (b : Bool). length (cond b (f s ∷ rest) rest)) (h s) ∙ ap suc (all_whole f (s + 1) n h)

same_sum : (f : ℕ → Frame) (s n height : ℕ) → ((k : ℕ) → length (f k).lines ≡ height)
    → sum_by (λ frame. length frame.lines) (map f (range_with_len s n)) ≡ n * height
same_sum f s zero height h = omega arith
same_sum f s (suc n) height h =
    omega (
      arith,
      sum_by-cons (λ (frame : Frame). length frame.lines) (f s) (map f (range_with_len (s + 1) n)),
      h s,
      same_sum f (s + 1) n height h,
    )

abbrev sent_frame : PlanFacts → List Pixel → ℕ → Frame
sent_frame p pixels f = record {
  attributes = attributes_of p.mode p.link;
  lines = map (λ y. row_of_pixels p pixels (f * p.mode.height + y)) (range_with_len 0 p.mode.height);
}

frame_lines : (p : PlanFacts) (pixels : List Pixel) (f : ℕ) → length (sent_frame p pixels f).lines ≡ p.mode.height
frame_lines p pixels f =
    length-map-range_with_len (λ y. row_of_pixels p pixels (f * p.mode.height + y)) 0 p.mode.height

same_number : (n : ℕ) → (n == n) ≡ true
same_number n = eq-eqb n n refl

pub sent_text : (p : PlanFacts) (pixels : List Pixel) → lines_due (sent_frames p pixels)
    ≡ flat_map (λ line. line) (replicate p.frames (attributes_line (attributes_of p.mode p.link)))
unfolding lines_due sent_frames
sent_text p pixels = same_text (sent_frame p pixels) (attributes_of p.mode p.link) 0 p.frames (λ k. refl)

pub sent_whole : (p : PlanFacts) (pixels : List Pixel) → whole_frames (sent_frames p pixels) ≡ p.frames
unfolding whole_frames sent_frames
sent_whole p pixels =
    all_whole (sent_frame p pixels) 0 p.frames
    (λ k. ap (λ n. n == p.mode.height) (frame_lines p pixels k) ∙ same_number p.mode.height)

pub sent_lines : (p : PlanFacts) (pixels : List Pixel) → whole_lines (sent_frames p pixels) ≡ p.frames * p.mode.height
unfolding whole_lines sent_frames
sent_lines p pixels = same_sum (sent_frame p pixels) 0 p.frames p.mode.height (frame_lines p pixels)
