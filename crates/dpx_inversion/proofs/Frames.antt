-- What is told is the frames that were sent.
use Rattle.std.proofs.Common.{ℕ, zero, suc, ◌+◌, ◌-◌, ◌*◌, ◌/◌, ◌%◌, ◌<◌, ◌≡◌, ◌∙◌, true, List, [], ◌∷◌, map, length}
use Rattle.std.proofs.Common.{get_or, refl, sym, ap, arith}
use Rattle.std.specs.List.{AllByRecursion, range_with_len, filter}
use Rattle.std.proofs.lemmas.List.FromFn.{length-map-range_with_len}
use Rattle.std.proofs.lemmas.Nat.{div-mul-add, mod-mul-add}
use Rattle.std.proofs.Math.Pow.{pow_pos}
use Rattle.dpx_base.specs.declared.pixel.Pixel.{Pixel}
use Rattle.dpx_base.specs.Mode.{depth_bits}
use Rattle.dpx_base.specs.Plan.{PlanFacts, timing, IsPlan}
use Rattle.dpx_base.specs.Sets.{black, first_pixel, line_of, line_bytes}
use Rattle.dpx_base.specs.Timing.{symbols, symbols_of}
use Rattle.dpx_grammar.specs.Accepted.{ActivePart, Frame, HasLength, IsFrame, AreFrames, pixels_of}
use Rattle.dpx_msa.specs.Reading.{attributes_of}
use Rattle.dpx_inversion.specs.Laws.{row_of_pixels, sent_frames}
use Rattle.dpx_inversion.specs.Source.{plan_lanes}
use Rattle.dpx_grammar.specs.Accepted.{pixels_in_rows}
use Rattle.dpx_base.specs.Unpacking.{InRange}
use Rattle.dpx_grammar.proofs.Lists.{map_range_same, map_map, all_map_range}
use Rattle.dpx_inversion.proofs.Packs.{row_of, rows_of, line_back}
use Rattle.dpx_inversion.proofs.Plans.{count_pos}
use Rattle.dpx_inversion.proofs.Tolds.{sent_line, sent_lines, told_frame}
use Rattle.dpx_inversion.proofs.Trip.{read_back}

-- the line that is active line y of frame f
here : PlanFacts → (f y : ℕ) → ℕ
here p f y = f * p.mode.vtotal + (p.mode.vtotal - p.mode.height) + y

symbols_are : (p : PlanFacts) → symbols (timing p)
    ≡ symbols_of p.mode.width (plan_lanes p) (3 * depth_bits p.mode.depth)
unfolding symbols
symbols_are p = refl

pixel_fits : (depth : ℕ) (pixels : List Pixel) (k : ℕ) → AllByRecursion (InRange depth) pixels
    → InRange depth (get_or pixels k black)
pixel_fits depth [] k all = record { r = pow_pos depth; g = pow_pos depth; b = pow_pos depth }
pixel_fits depth (x ∷ xs) zero all = all.0
pixel_fits depth (x ∷ xs) (suc k) all = pixel_fits depth xs k all.1

first_is : (p : PlanFacts) (f y : ℕ) → IsPlan p → y < p.mode.height
    → first_pixel p (here p f y) ≡ (f * p.mode.height + y) * p.mode.width
unfolding here
first_is p f y plan within =
    let i : ℕ = p.mode.vtotal - p.mode.height + y in
    let room : i < p.mode.vtotal = omega (arith, plan.mode.vtotal.0) in
    let e : f * p.mode.vtotal + (p.mode.vtotal - p.mode.height) + y ≡ f * p.mode.vtotal + i = omega arith in
    let d : (f * p.mode.vtotal + i) / p.mode.vtotal ≡ f = div-mul-add f p.mode.vtotal i room in
    let m : (f * p.mode.vtotal + i) % p.mode.vtotal ≡ i = mod-mul-add f p.mode.vtotal i room in
    let s : i - (p.mode.vtotal - p.mode.height) ≡ y = omega arith in
    ap (first_pixel p) e
    ∙ ap (λ z. (z * p.mode.height + ((f * p.mode.vtotal + i) % p.mode.vtotal - (p.mode.vtotal - p.mode.height))) *
    p.mode.width) d
    ∙ ap (λ z. (f * p.mode.height + (z - (p.mode.vtotal - p.mode.height))) * p.mode.width) m
    ∙ ap (λ z. (f * p.mode.height + z) * p.mode.width) s

rows_are : (p : PlanFacts) (pixels : List Pixel) (line : ℕ)
    → map (line_bytes p pixels line) (range_with_len 0 (symbols (timing p))) ≡ rows_of (line_of p pixels line)
unfolding rows_of row_of
rows_are p pixels line = ap (λ n. map (line_bytes p pixels line) (range_with_len 0 n)) (symbols_are p)

-- the rows of a line are read as its pixels
line_read : (p : PlanFacts) (pixels : List Pixel) (f y : ℕ) → IsPlan p
    → AllByRecursion (InRange (depth_bits p.mode.depth)) pixels → y < p.mode.height
    → pixels_in_rows (depth_bits p.mode.depth) (plan_lanes p) p.mode.width
    (map (line_bytes p pixels (here p f y)) (range_with_len 0 (symbols (timing p))))
    ≡ row_of_pixels p pixels (f * p.mode.height + y)
unfolding row_of_pixels
line_read p pixels f y plan all within =
    ap (pixels_in_rows (depth_bits p.mode.depth) (plan_lanes p) p.mode.width) (rows_are p pixels (here p f y))
    ∙ line_back (line_of p pixels (here p f y)) (count_pos p.link.lanes)
    (λ x l. pixel_fits (depth_bits p.mode.depth) pixels (first_pixel p (here p f y) + x) all)
    ∙ ap (λ k. map (λ x. get_or pixels (k + x) black) (range_with_len 0 p.mode.width)) (first_is p f y plan within)

whole_kept : (g : ℕ → List (List ℕ)) (xs : List ℕ)
    → filter (λ line. line.is_whole) (map (λ z. (let l : ActivePart = record { rows = g z; is_whole = true } in l)) xs)
    ≡ map (λ z. (let l : ActivePart = record { rows = g z; is_whole = true } in l)) xs
whole_kept g [] = refl
whole_kept g (x ∷ xs) = ap (λ ls. (let l : ActivePart = record { rows = g x; is_whole = true } in l) ∷ ls)
    (whole_kept g xs)

lines_read : (p : PlanFacts) (pixels : List Pixel) (f : ℕ) → IsPlan p
    → AllByRecursion (InRange (depth_bits p.mode.depth)) pixels
    → map (λ y. row_of_pixels p pixels (f * p.mode.height + y)) (range_with_len 0 p.mode.height)
    ≡ pixels_of (plan_lanes p) (attributes_of p.mode p.link) (sent_lines p pixels f 0 p.mode.height)
unfolding sent_lines sent_line here
lines_read p pixels f plan all =
    let rows = λ (y : ℕ). map (line_bytes p pixels (here p f y)) (range_with_len 0 (symbols (timing p))) in
    let read = λ (line : ActivePart). pixels_in_rows (depth_bits p.mode.depth) (plan_lanes p) p.mode.width line.rows in
    map_range_same (λ y. row_of_pixels p pixels (f * p.mode.height + y))
    (λ y. pixels_in_rows (depth_bits p.mode.depth) (plan_lanes p) p.mode.width
    (map (line_bytes p pixels (here p f y)) (range_with_len 0 (symbols (timing p))))) 0 0 p.mode.height
    (λ y l. let z : 0 + y ≡ y = omega arith in rw z (sym (line_read p pixels f y plan all l)))
    ∙ sym (map_map read (sent_line_of rows) (range_with_len 0 p.mode.height))
    ∙ ap (map read) (sym (whole_kept rows (range_with_len 0 p.mode.height)))
  where
    sent_line_of : (ℕ → List (List ℕ)) → ℕ → ActivePart
    sent_line_of rows y = record { rows = rows y; is_whole = true }

-- ---- frames

sent_frame : PlanFacts → List Pixel → ℕ → Frame
sent_frame p pixels f = record {
  attributes = attributes_of p.mode p.link;
  lines = map (λ y. row_of_pixels p pixels (f * p.mode.height + y)) (range_with_len 0 p.mode.height);
}

lines_length : (p : PlanFacts) (pixels : List Pixel) (f n : ℕ) → length (sent_lines p pixels f 0 n) ≡ n
unfolding sent_lines
lines_length p pixels f n = length-map-range_with_len
    (λ z. sent_line p pixels (f * p.mode.vtotal + (p.mode.vtotal - p.mode.height) + z)) 0 n

line_long : (p : PlanFacts) (pixels : List Pixel) (line : ℕ)
    → HasLength (symbols_of p.mode.width (plan_lanes p) (3 * depth_bits p.mode.depth)) (sent_line p pixels line)
unfolding sent_line
line_long p pixels line =
    let n : length (map (line_bytes p pixels line) (range_with_len 0 (symbols (timing p)))) ≡ symbols (timing p) =
    length-map-range_with_len (line_bytes p pixels line) 0 (symbols (timing p)) in
    record {
      most = omega (arith, symbols_are p);
      whole = λ _. n ∙ symbols_are p;
    }

lines_long : (p : PlanFacts) (pixels : List Pixel) (f : ℕ)
    → AllByRecursion (HasLength (symbols_of p.mode.width (plan_lanes p) (3 * depth_bits p.mode.depth)))
    (sent_lines p pixels f 0 p.mode.height)
unfolding sent_lines
lines_long p pixels f =
    all_map_range (HasLength (symbols_of p.mode.width (plan_lanes p) (3 * depth_bits p.mode.depth)))
    (λ z. sent_line p pixels (f * p.mode.vtotal + (p.mode.vtotal - p.mode.height) + z)) 0 p.mode.height
    (λ i l. line_long p pixels (f * p.mode.vtotal + (p.mode.vtotal - p.mode.height) + (0 + i)))

is_frame : (p : PlanFacts) (pixels : List Pixel) (f : ℕ) → IsPlan p
    → AllByRecursion (InRange (depth_bits p.mode.depth)) pixels
    → IsFrame (plan_lanes p) (told_frame p pixels f) (sent_frame p pixels f)
unfolding told_frame sent_frame
is_frame p pixels f plan all = record {
  read = read_back p plan.mode;
  lengths = lines_long p pixels f;
  lines = lines_read p pixels f plan all;
}

frame_length : (p : PlanFacts) (pixels : List Pixel) (f : ℕ)
    → length (told_frame p pixels f).lines ≡ (sent_frame p pixels f).attributes.height
unfolding told_frame sent_frame
frame_length p pixels f = lines_length p pixels f p.mode.height

are_frames_from : (p : PlanFacts) (pixels : List Pixel) (f m : ℕ) → IsPlan p
    → AllByRecursion (InRange (depth_bits p.mode.depth)) pixels
    → AreFrames (plan_lanes p) (map (told_frame p pixels) (range_with_len f (suc m)))
    (map (sent_frame p pixels) (range_with_len f (suc m)))
are_frames_from p pixels f zero plan all = (is_frame p pixels f plan all, omega (arith, frame_length p pixels f))
are_frames_from p pixels f (suc m) plan all =
    (is_frame p pixels f plan all, frame_length p pixels f, are_frames_from p pixels (f + 1) m plan all)

pub frames_are : (p : PlanFacts) (pixels : List Pixel) (m : ℕ) → IsPlan p
    → AllByRecursion (InRange (depth_bits p.mode.depth)) pixels → p.frames ≡ suc m
    → AreFrames (plan_lanes p) (map (told_frame p pixels) (range_with_len 0 (suc m))) (sent_frames p pixels)
unfolding sent_frames sent_frame
frames_are p pixels m plan all e =
    let sent : sent_frames p pixels ≡ map (sent_frame p pixels) (range_with_len 0 (suc m)) =
    ap (λ n. map (sent_frame p pixels) (range_with_len 0 n)) e in
    rw sent (are_frames_from p pixels 0 m plan all)
