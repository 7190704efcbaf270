-- Records of pixels, compared one by one with a number's pixels.
use Rattle.std.proofs.Common.{◌≡◌, ℕ, zero, suc, ◌+◌, ◌*◌, ◌/◌, ◌<◌, ◌≤◌, Bool, true, false, nat_eq, arith, refl, sym, ap, ◌∙◌}
use Rattle.std.proofs.Common.{List, [], ◌∷◌, ◌++◌, length, length-append, take, drop, get_or, map, add-one, subst}
use Rattle.std.specs.Prelude.{if◌then◌else◌}
use Rattle.std.specs.List.{filter, flat_map, range_with_len}
use Rattle.std.proofs.Math.Seq.{drop-append-add, take-append_seam}
use Rattle.std.specs.Str.{bytes_eq}
use Rattle.std.proofs.lemmas.Slice.Eq.{bytes_eq-Decides}
use Rattle.std.proofs.lemmas.List.FromFn.{get_or-map-range_with_len, length-map-range_with_len}
use Rattle.dpx_base.specs.declared.pixel.Pixel.{Pixel}
use Rattle.dpx_base.specs.PixelRecord.{pixel_record}
use Rattle.dpx_files.specs.Generator.{gen_count, gen_pixel, gen_pixels, gen_shape}
use Rattle.dpx_reception.specs.Due.{pixel_records}
use Rattle.dpx_cli.specs.Generating.{equal_pixels}

abbrev pub one_if : Bool → ℕ
one_if b = if b then 1 else 0

at_most_one : (b : Bool) → one_if b ≤ 1
at_most_one true = omega arith
at_most_one false = omega arith

-- tests that hold of some numbers from the first on, counted
module _ (test : ℕ → Bool) where
  abbrev pub counted : (first count : ℕ) → ℕ
  counted first count = length (filter test (range_with_len first count))

  at_first : (n : ℕ) (rest : List ℕ) → length (filter test (n ∷ rest)) ≡ one_if (test n) + length (filter test rest)
  at_first n rest = by_test (test n) refl
    where
      by_test : (b : Bool) → test n ≡ b → length (filter test (n ∷ rest)) ≡ one_if b + length (filter test rest)
      by_test true e = rw e (omega arith)
      by_test false e = rw e (omega arith)

  counted_more : (first count : ℕ) → counted first (suc count) ≡ counted first count + one_if (test (first + count))
  counted_more first zero =
      let same : first + 0 ≡ first = omega arith in
      omega (arith, at_first first [], ap (λ n. one_if (test n)) same)
  counted_more first (suc count) =
      let next : first + suc count ≡ first + 1 + count = omega arith in
      omega (
        arith,
        at_first first (range_with_len (first + 1) (suc count)),
        at_first first (range_with_len (first + 1) count),
        counted_more (first + 1) count,
        ap (λ n. one_if (test n)) next,
      )

  pub counted_one_more : (count : ℕ) → counted 0 (count + 1) ≡ counted 0 count + one_if (test count)
  counted_one_more count =
      let next : 0 + count ≡ count = omega arith in
      ap (λ n. counted 0 n) (add-one count) ∙ (counted_more 0 count ∙ ap (λ n. counted 0 count + one_if (test n)) next)

  pub few_counted : (first count : ℕ) → counted first count ≤ count
  few_counted first zero = omega arith
  few_counted first (suc count) =
      omega (
        arith,
        at_first first (range_with_len (first + 1) count),
        at_most_one (test first),
        few_counted (first + 1) count,
      )

  pub all_counted : (first count : ℕ) → ((k : ℕ) → first ≤ k → k < first + count → test k ≡ true)
      → counted first count ≡ count
  all_counted first zero each = refl
  all_counted first (suc count) each =
      let rest : counted (first + 1) count ≡ count =
      all_counted (first + 1) count (λ k from to. each k (omega (arith, from)) (omega (arith, to))) in
      omega (
        arith,
        at_first first (range_with_len (first + 1) count),
        ap one_if (each first (omega arith) (omega arith)),
        rest,
      )

six : (pixel : Pixel) → length (pixel_record pixel) ≡ 6
six pixel = refl

pub records_long : (pixels : List Pixel) → length (flat_map pixel_record pixels) ≡ 6 * length pixels
records_long [] = refl
records_long (p ∷ pixels) = omega (arith, length-append (pixel_record p) (flat_map pixel_record pixels), records_long pixels)

-- the records of pixels stand one behind the other
pub record_at : (pixels : List Pixel) (number : ℕ) (other : Pixel) → number < length pixels
    → take 6 (drop (6 * number) (flat_map pixel_record pixels)) ≡ pixel_record (get_or pixels number other)
record_at [] number other within = absurd (omega (arith, within))
record_at (p ∷ pixels) zero other within = take-append_seam (pixel_record p) (flat_map pixel_record pixels)
record_at (p ∷ pixels) (suc number) other within =
    let far : 6 * suc number ≡ 6 + 6 * number = omega arith in
    ap (λ n. take 6 (drop n (pixel_record p ++ flat_map pixel_record pixels))) far
    ∙ (ap (λ xs. take 6 xs) (drop-append-add (pixel_record p) (flat_map pixel_record pixels) (6 * number))
    ∙ record_at pixels number other (omega (arith, within)))

-- a test of the records of pixels, each at its place
module _ (f : ℕ → Pixel) (count : ℕ) where
  abbrev records : List ℕ
  records = flat_map pixel_record (map f (range_with_len 0 count))

  equal_there : (k : ℕ) → 0 ≤ k → k < 0 + count → bytes_eq (take 6 (drop (6 * k) records)) (pixel_record (f k)) ≡ true
  equal_there k from to =
      let within : k < length (map f (range_with_len 0 count)) = omega (arith, to, length-map-range_with_len f 0 count) in
      let there : get_or (map f (range_with_len 0 count)) k (f 0) ≡ f k = get_or-map-range_with_len f 0 count k k (f 0) (omega (arith, to)) (omega arith) in
      (bytes_eq-Decides _ _).1 (record_at (map f (range_with_len 0 count)) k (f 0) within ∙ ap pixel_record there)

  -- all of them are equal
  pub all_equal : counted (λ k. bytes_eq (take 6 (drop (6 * k) records)) (pixel_record (f k))) 0 (length records / 6) ≡ count
  all_equal =
      let long : length records / 6 ≡ count =
      omega (arith, records_long (map f (range_with_len 0 count)), length-map-range_with_len f 0 count) in
      ap (λ n. counted (λ k. bytes_eq (take 6 (drop (6 * k) records)) (pixel_record (f k))) 0 n) long
      ∙ all_counted _ 0 count equal_there

-- the records of a number's pixels
pub all_come_back : (seed : ℕ)
    → equal_pixels seed (gen_shape seed).mode.depth (pixel_records (gen_pixels seed)) ≡ gen_count seed
unfolding equal_pixels pixel_records gen_pixels
all_come_back seed = all_equal (gen_pixel seed (gen_shape seed).mode.depth) (gen_count seed)
