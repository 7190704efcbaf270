-- Pixels, record by record.
use Rattle.std.proofs.Common.{◌≡◌, ℕ, zero, suc, ◌+◌, ◌*◌, ◌/◌, ◌<◌, List, [], ◌∷◌, ◌++◌, length, take, drop, refl}
use Rattle.std.proofs.Common.{Option, Some, None, sym, ap, ◌∙◌, arith, length-append}
use Rattle.std.proofs.lemmas.List.{take_all, length-drop, take-append-le, drop-append-le}
use Rattle.std.specs.Io.KnownBytes.{Consumes, IsAtEnd}
use Rattle.dpx_base.specs.declared.pixel.Pixel.{Pixel}
use Rattle.dpx_base.specs.PixelRecord.{pixel_from}
use Rattle.dp_replay.specs.Records.{HasRecords, HoldsInAll, TakesPixels, pixels_from}
use Rattle.std.proofs.KnownBytes.{Consumes-nil, Consumes-trans}

pixels_more : (n : ℕ) (bytes more : List ℕ) → length bytes ≡ 6 * n → length more ≡ 6
    → pixels_from (suc n) (bytes ++ more) ≡ pixels_from n bytes ++ pixel_from more ∷ []
pixels_more zero [] more size six = ap (λ (xs : List ℕ). pixel_from xs ∷ []) (take_all 6 more (omega (arith, six)))
pixels_more zero (x ∷ bytes) more size six = absurd (omega (arith, size))
pixels_more (suc n) bytes more size six =
    let first : take 6 (bytes ++ more) ≡ take 6 bytes = take-append-le 6 bytes more (omega (arith, size)) in
    let rest : drop 6 (bytes ++ more) ≡ drop 6 bytes ++ more = drop-append-le 6 bytes more (omega (arith, size)) in
    let left : length (drop 6 bytes) ≡ 6 * n = length-drop 6 bytes ∙ omega (arith, size) in
    ap (λ (xs : List ℕ). pixel_from xs ∷ pixels_from (suc n) (drop 6 (bytes ++ more))) first
    ∙ ap (λ (ps : List Pixel). pixel_from (take 6 bytes) ∷ ps)
    (ap (pixels_from (suc n)) rest ∙ pixels_more n (drop 6 bytes) more left six)

pub none_taken : (left : Option (List ℕ)) → TakesPixels 0 left left []
none_taken left = record { bytes = []; size = refl; consumed = Consumes-nil left; pixels_are = refl }

pub one_more : (n : ℕ) → suc n ≡ n + 1
one_more n = omega arith

-- one more record
pub one_taken : (due : ℕ) (first middle last : Option (List ℕ)) (pixels : List Pixel) (bytes : List ℕ)
    → TakesPixels due first middle pixels → Consumes middle last bytes → length bytes ≡ 6
    → TakesPixels (due + 1) first last (pixels ++ pixel_from bytes ∷ [])
one_taken due first middle last pixels bytes t consumed six = record {
  bytes = t.bytes ++ bytes;
  size = length-append t.bytes bytes ∙ omega (arith, t.size, six);
  consumed = Consumes-trans first middle last t.bytes bytes t.consumed consumed;
  pixels_are = ap (λ (ps : List Pixel). ps ++ pixel_from bytes ∷ []) t.pixels_are
      ∙ (sym (pixels_more due t.bytes bytes t.size six)
      ∙ ap (λ (n : ℕ). pixels_from n (t.bytes ++ bytes)) (one_more due));
}

-- behind so many records there is no whole one
pub records_end : (due : ℕ) (first middle last : Option (List ℕ)) (pixels : List Pixel) (bytes : List ℕ)
    → TakesPixels due first middle pixels → Consumes middle last bytes → length bytes < 6 → IsAtEnd last
    → HasRecords due first
records_end due None middle last pixels bytes t consumed few at_end = tt
records_end due (Some xs) None last pixels bytes t consumed few at_end = absurd t.consumed
records_end due (Some xs) (Some ys) None pixels bytes t consumed few at_end = absurd consumed
records_end due (Some xs) (Some ys) (Some zs) pixels bytes t consumed few at_end =
    let all : xs ≡ t.bytes ++ (bytes ++ zs) = t.consumed ∙ ap (λ (rest : List ℕ). t.bytes ++ rest) consumed in
    let end : length zs ≡ 0 = ap length at_end in
    let size : length xs ≡ 6 * due + length bytes =
    ap length all ∙ simp length-append (omega (arith, t.size, end)) in
    ap (λ (n : ℕ). n / 6) size ∙ omega (arith, few)

pub held_in_all : (given whole : ℕ) (left : Option (List ℕ)) → HasRecords whole left
    → HoldsInAll given (given + whole) left
held_in_all given whole None has = tt
held_in_all given whole (Some bytes) has = omega (arith, has)
