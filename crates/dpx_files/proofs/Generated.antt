-- The next pixels of those that a number gives.
use Rattle.std.proofs.Common.{◌≡◌, ℕ, zero, suc, ◌+◌, ◌-◌, ◌<◌, ◌≤◌, List, length, map, take, drop}
use Rattle.std.proofs.Common.{refl, arith, ap, ◌∙◌}
use Rattle.std.specs.Prelude.{Ok, Err}
use Rattle.std.specs.List.{range_with_len}
use Rattle.std.proofs.lemmas.Bool.{lt-ltb, le-ltb}
use Rattle.std.proofs.lemmas.List.{drop-map}
use Rattle.std.proofs.lemmas.List.FromFn.{length-map-range_with_len, take-map-range_with_len}
use Rattle.dpx_base.specs.declared.pixel.Pixel.{Pixel}
use Rattle.dpx_base.specs.declared.pipe.PipeEnd.TheVariants.{Ended}
use Rattle.dpx_base.specs.Pipe.{handed_over}

-- the numbers behind the first ones
drop_range : (k a n : ℕ) → k ≤ n → drop k (range_with_len a n) ≡ range_with_len (a + k) (n - k)
drop_range zero a n few =
    let start : a ≡ a + 0 = omega arith in
    let all : n ≡ n - 0 = omega arith in
    ap (λ z. range_with_len z n) start ∙ ap (λ z. range_with_len (a + 0) z) all
drop_range (suc k) a zero few = absurd (omega arith)
drop_range (suc k) a (suc n) few =
    let same : drop k (range_with_len (a + 1) n) ≡ range_with_len (a + 1 + k) (n - k) = drop_range k (a + 1) n (omega arith) in
    let start : a + 1 + k ≡ a + suc k = omega arith in
    let left : n - k ≡ suc n - suc k = omega arith in
    same ∙ ap (λ z. range_with_len z (n - k)) start ∙ ap (λ z. range_with_len (a + suc k) z) left

handed_few : (pixels : List Pixel) (given due : ℕ) → length pixels < given + due
    → handed_over pixels given due ≡ Err (Ended (length pixels))
handed_few pixels given due few = rw (lt-ltb (length pixels) (given + due) few) refl

handed_all : (pixels : List Pixel) (given due : ℕ) → given + due ≤ length pixels
    → handed_over pixels given due ≡ Ok (take due (drop given pixels))
handed_all pixels given due enough = rw (le-ltb (length pixels) (given + due) enough) refl

-- there are not so many left
pub too_few : (f : ℕ → Pixel) (count given due : ℕ) → count < given + due
    → handed_over (map f (range_with_len 0 count)) given due ≡ Err (Ended count)
too_few f count given due few =
    let long : length (map f (range_with_len 0 count)) ≡ count = length-map-range_with_len f 0 count in
    handed_few _ given due (omega arith) ∙ ap (λ z. Err (Ended z)) long

-- there are so many left
pub enough : (f : ℕ → Pixel) (count given due : ℕ) → given + due ≤ count
    → handed_over (map f (range_with_len 0 count)) given due ≡ Ok (map f (range_with_len given due))
enough f count given due many =
    let long : length (map f (range_with_len 0 count)) ≡ count = length-map-range_with_len f 0 count in
    let first : 0 + given ≡ given = omega arith in
    let behind : drop given (range_with_len 0 count) ≡ range_with_len given (count - given) =
    drop_range given 0 count (omega arith) ∙ ap (λ z. range_with_len z (count - given)) first in
    let next : take due (map f (range_with_len given (count - given))) ≡ map f (range_with_len given due) =
    take-map-range_with_len f given (count - given) due (omega arith) in
    handed_all _ given due (omega arith)
    ∙ ap (λ z. Ok (take due z)) (drop-map f given (range_with_len 0 count))
    ∙ ap (λ z. Ok (take due (map f z))) behind
    ∙ ap Ok next
