-- What is received is what was sent, pixel by pixel.
use Rattle.std.proofs.Common.{ℕ, zero, suc, ◌+◌, ◌*◌, ◌≡◌, ◌∙◌, List, [], ◌∷◌, ◌++◌, map, get_or, refl, sym, ap, arith}
use Rattle.std.specs.List.{range_with_len, flat_map}
use Rattle.dpx_base.specs.declared.pixel.Pixel.{Pixel}
use Rattle.dpx_base.specs.Plan.{PlanFacts}
use Rattle.dpx_base.specs.Sets.{black}
use Rattle.dpx_grammar.specs.Accepted.{Frame}
use Rattle.dpx_msa.specs.Reading.{attributes_of}
use Rattle.dpx_inversion.specs.Laws.{AreWhole, IsReceived, pixels_in, sent_frames, row_of_pixels}
use Rattle.dpx_inversion.proofs.Given.{inverts}
use Rattle.dpx_grammar.proofs.Lists.{map_range_cut, map_range_is, map_range_shift}
use Rattle.dpx_grammar.proofs.Unique.{is_one}

-- rows of w, one behind the other
joined : {X : Type 0} (g : ℕ → X) (w a n : ℕ) (f : ℕ → List X) → ((y : ℕ) → f y ≡ map g (range_with_len (y * w) w))
    → flat_map f (range_with_len a n) ≡ map g (range_with_len (a * w) (n * w))
joined g w a zero f h = let e : 0 * w ≡ 0 = omega arith in ap (λ n. map g (range_with_len (a * w) n)) (sym e)
joined g w a (suc n) f h =
    let e : suc n * w ≡ w + n * w = omega arith in
    let b : (a + 1) * w ≡ a * w + w = omega arith in
    ap (λ xs. xs ++ flat_map f (range_with_len (a + 1) n)) (h a)
    ∙ ap (λ xs. map g (range_with_len (a * w) w) ++ xs) (joined g w (a + 1) n f h)
    ∙ sym (map_range_cut g (a * w) w (suc n * w) ((a + 1) * w) (n * w) e b)

flat_of_map : {X Y : Type 0} (h : Y → List X) (k : ℕ → Y) (xs : List ℕ)
    → flat_map h (map k xs) ≡ flat_map (λ x. h (k x)) xs
flat_of_map h k [] = refl
flat_of_map h k (x ∷ xs) = ap (λ ys. h (k x) ++ ys) (flat_of_map h k xs)

flat_moved : {X : Type 0} (f : ℕ → List X) (a b n : ℕ)
    → flat_map (λ y. f (a + y)) (range_with_len b n) ≡ flat_map f (range_with_len (a + b) n)
flat_moved f a b zero = refl
flat_moved f a b (suc n) =
    let e : a + (b + 1) ≡ a + b + 1 = omega arith in
    ap (λ xs. f (a + b) ++ xs) (flat_moved f a (b + 1) n ∙ ap (λ z. flat_map f (range_with_len z n)) e)

pixel : List Pixel → ℕ → Pixel
pixel pixels k = get_or pixels k black

row_is : (p : PlanFacts) (pixels : List Pixel) (y : ℕ)
    → row_of_pixels p pixels y ≡ map (pixel pixels) (range_with_len (y * p.mode.width) p.mode.width)
unfolding row_of_pixels pixel
row_is p pixels y = sym (map_range_shift (pixel pixels) (y * p.mode.width) p.mode.width)

frame_is : (p : PlanFacts) (pixels : List Pixel) (f : ℕ)
    → flat_map (λ line. line) (map (λ y. row_of_pixels p pixels (f * p.mode.height + y))
    (range_with_len 0 p.mode.height))
    ≡ map (pixel pixels) (range_with_len (f * (p.mode.height * p.mode.width)) (p.mode.height * p.mode.width))
frame_is p pixels f =
    let z : f * p.mode.height + 0 ≡ f * p.mode.height = omega arith in
    let e : f * p.mode.height * p.mode.width ≡ f * (p.mode.height * p.mode.width) = omega arith in
    flat_of_map (λ line. line) (λ y. row_of_pixels p pixels (f * p.mode.height + y)) (range_with_len 0 p.mode.height)
    ∙ flat_moved (row_of_pixels p pixels) (f * p.mode.height) 0 p.mode.height
    ∙ ap (λ a. flat_map (row_of_pixels p pixels) (range_with_len a p.mode.height)) z
    ∙ joined (pixel pixels) p.mode.width (f * p.mode.height) p.mode.height (row_of_pixels p pixels) (row_is p pixels)
    ∙ ap (λ a. map (pixel pixels) (range_with_len a (p.mode.height * p.mode.width))) e

pub gives_back : (p : PlanFacts) (pixels : List Pixel) → AreWhole p pixels → pixels_in (sent_frames p pixels) ≡ pixels
unfolding sent_frames pixel
gives_back p pixels all =
    let z : 0 * (p.mode.height * p.mode.width) ≡ 0 = omega arith in
    let n : p.frames * (p.mode.height * p.mode.width) ≡ p.frames * p.mode.height * p.mode.width = omega arith in
    flat_of_map (λ (frame : Frame). flat_map (λ line. line) frame.lines) (frame_of p pixels) (range_with_len 0 p.frames)
    ∙ joined (pixel pixels) (p.mode.height * p.mode.width) 0 p.frames
    (λ f. flat_map (λ line. line) (map (λ y. row_of_pixels p pixels (f * p.mode.height + y))
    (range_with_len 0 p.mode.height))) (frame_is p pixels)
    ∙ ap (λ a. map (pixel pixels) (range_with_len a (p.frames * (p.mode.height * p.mode.width)))) z
    ∙ map_range_is (pixel pixels) 0 (p.frames * (p.mode.height * p.mode.width)) pixels black (all.count ∙ sym n)
    (λ i l. let e : 0 + i ≡ i = omega arith in ap (pixel pixels) e)
  where
    frame_of : PlanFacts → List Pixel → ℕ → Frame
    frame_of p pixels f = record {
      attributes = attributes_of p.mode p.link;
      lines = map (λ y. row_of_pixels p pixels (f * p.mode.height + y)) (range_with_len 0 p.mode.height);
    }

pub is_received : IsReceived
is_received p pixels frames tail source all given =
    let one = is_one p.link.enhanced p.link.lanes _ frames (sent_frames p pixels) tail 0 given
    (inverts p pixels source all) in
    (one.0, ap pixels_in one.0 ∙ gives_back p pixels all, one.1)
