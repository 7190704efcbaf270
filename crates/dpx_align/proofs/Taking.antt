-- The rings after a batch.
use Rattle.std.proofs.Common.{◌≡◌, ℕ, suc, ◌<◌, ◌≤◌, ◌+◌, Bool, true, false, List, [], ◌∷◌, ◌++◌, length, take, map}
use Rattle.std.proofs.Common.{refl, sym, ap, ◌∙◌, arith, append-nil, length-append}
use Rattle.std.proofs.lemmas.List.{length-take-le, get_or-map, length-map, take-map}
use Rattle.std.specs.Prelude.{slice_index_or}
use Rattle.dpx_base.specs.declared.sym.Sym.{Sym}
use Rattle.dpx_lane.specs.Codes.{symbol_of}
use Rattle.dpx_align.proofs.Answered.{as_many_seeking}
use Rattle.dpx_align.proofs.LockStays.{lane_of-lengthened, length-lengthened}
use Rattle.dpx_align.proofs.Seeking.{lane_of-map}
use Rattle.dpx_align.proofs.Steps.{seeking_on, locked_on}
use Rattle.dpx_align.specs.Lock.{lane_of}
use Rattle.dpx_align.specs.Search.{lengthened, decoded, Even, Level, Holds}

lengthened_none : (old : List (List Sym)) → lengthened old [] ≡ old
lengthened_none [] = refl
lengthened_none (x ∷ old) = refl

pub lengthened_is : (old rows new : List (List Sym)) → length new ≡ length old
    → ((j : ℕ) → j < length old → lane_of new j ≡ lane_of old j ++ lane_of rows j) → new ≡ lengthened old rows
lengthened_is [] rows [] e h = refl
lengthened_is [] rows (n ∷ new) e h = absurd (omega arith)
lengthened_is (x ∷ old) rows [] e h = absurd (omega arith)
lengthened_is (x ∷ old) [] (n ∷ new) e h =
    let f : n ≡ x = h 0 (omega arith) ∙ append-nil x in
    let g : new ≡ lengthened old [] = lengthened_is old [] new (omega arith) (λ j l. h (suc j) (omega arith)) in
    let k : lengthened old [] ≡ old = lengthened_none old in
    cc
lengthened_is (x ∷ old) (y ∷ rows) (n ∷ new) e h =
    let f : n ≡ x ++ y = h 0 (omega arith) in
    let g : new ≡ lengthened old rows = lengthened_is old rows new (omega arith) (λ j l. h (suc j) (omega arith)) in
    cc

pub pushed : (old rows new : List (List Sym)) (count n : ℕ) → length old ≤ n → n ≤ length rows → length new ≡ length old
    → length old ≤ n → ((j : ℕ) → j < length old → j < n → lane_of new j ≡ lane_of old j ++ take count (lane_of rows j))
    → new ≡ lengthened old (map (λ row. take count row) rows)
pushed old rows new count n a b e l h =
    lengthened_is old (map (λ row. take count row) rows) new e
    (λ j i.
    let f : List Sym → List Sym = λ r. lane_of old j ++ r in
    h j i (omega arith) ∙ ap f (sym (lane_of-map (λ row. take count row) rows j (omega arith))))

-- how long each ring is after it
pub len_lengthened : (rings rows : List (List Sym)) (count j : ℕ) → j < length rings → length rings ≤ length rows
    → count ≤ length (lane_of rows j) → length (lane_of (lengthened rings (map (λ row. take count row) rows)) j)
    ≡ length (lane_of rings j) + count
len_lengthened rings rows count j l m k =
    ap length (lane_of-lengthened rings (map (λ row. take count row) rows) j l)
    ∙ (length-append (lane_of rings j) (lane_of (map (λ row. take count row) rows) j)
    ∙ ap (λ (n : ℕ). length (lane_of rings j) + n)
    (ap length (lane_of-map (λ row. take count row) rows j (omega arith)) ∙ length-take-le count (lane_of rows j) k))

pub size_lengthened : (rings rows : List (List Sym)) (count : ℕ)
    → length (lengthened rings (map (λ row. take count row) rows)) ≡ length rings
size_lengthened rings rows count = length-lengthened rings (map (λ row. take count row) rows)

pub even_lengthened : (rings rows : List (List Sym)) (count : ℕ) → 0 < length rings → length rings ≤ length rows
    → ((j : ℕ) → j < length rings → count ≤ length (lane_of rows j)) → Even rings
    → Even (lengthened rings (map (λ row. take count row) rows))
even_lengthened rings rows count z m k h j l =
    let i : j < length rings = omega (arith, size_lengthened rings rows count) in
    omega (arith, len_lengthened rings rows count j i m (k j i), len_lengthened rings rows count 0 z m (k 0 z), h j i)

pub level_lengthened : (rings rows : List (List Sym)) (count : ℕ) → length rings ≤ length rows
    → ((j : ℕ) → j < length rings → count ≤ length (lane_of rows j)) → Level rings
    → Level (lengthened rings (map (λ row. take count row) rows))
level_lengthened rings rows count m k h i j a b =
    let x : i < length rings = omega (arith, size_lengthened rings rows count) in
    let y : j < length rings = omega (arith, size_lengthened rings rows count) in
    omega (
      arith,
      len_lengthened rings rows count i x m (k i x),
      len_lengthened rings rows count j y m (k j y),
      h i j x y,
    )

pub holds_on : (locked : Bool) (group : List Sym) (lanes rings rows : List (List Sym)) (given count : ℕ)
    → 0 < length group → length rings ≤ length rows → ((j : ℕ) → j < length rings → count ≤ length (lane_of rows j))
    → Holds locked group lanes rings given → Holds locked group (lengthened lanes (map (λ row. take count row) rows))
    (lengthened rings (map (λ row. take count row) rows)) given
holds_on false group lanes rings rows given count q m k h = (
  h.0,
  seeking_on group lanes rings (map (λ row. take count row) rows) count q h.1
      (λ j l.
      let i : j < length rings = omega (arith, as_many_seeking group lanes rings h.1) in
      ap length (lane_of-map (λ row. take count row) rows j (omega arith))
      ∙ length-take-le count (lane_of rows j) (k j i)),
)
holds_on true group lanes rings rows given count q m k h =
    locked_on group lanes rings (map (λ row. take count row) rows) given q h

pub lane_of-decoded : (rows : List (List ℕ)) (j : ℕ) → j < length rows
    → lane_of (decoded rows) j ≡ map symbol_of (slice_index_or rows j [])
lane_of-decoded rows j l = get_or-map (λ (row : List ℕ). map symbol_of row) rows j [] [] l

pub length-decoded : (rows : List (List ℕ)) → length (decoded rows) ≡ length rows
length-decoded rows = length-map rows (λ (row : List ℕ). map symbol_of row)

-- enough codes are enough symbols
pub enough : (rings : List (List Sym)) (rows : List (List ℕ)) (count : ℕ) → length rings ≤ length rows
    → ((j : ℕ) → j < length rings → count ≤ length (slice_index_or rows j [])) → (j : ℕ) → j < length rings
    → count ≤ length (lane_of (decoded rows) j)
enough rings rows count m h j l =
    omega (
      arith,
      h j l,
      ap length (lane_of-decoded rows j (omega arith)),
      length-map (slice_index_or rows j []) symbol_of,
    )

pub pushed_codes : (old : List (List Sym)) (rows : List (List ℕ)) (new : List (List Sym)) (count n : ℕ)
    → length old ≤ length rows → length new ≡ length old → length old ≤ n
    → ((j : ℕ) → j < length old → j < n → lane_of new j
    ≡ lane_of old j ++ map symbol_of (take count (slice_index_or rows j [])))
    → new ≡ lengthened old (map (λ row. take count row) (decoded rows))
pushed_codes old rows new count n a e l h =
    lengthened_is old (map (λ row. take count row) (decoded rows)) new e
    (λ j i.
    let k : j < length rows = omega arith in
    let f : List Sym → List Sym = λ r. lane_of old j ++ r in
    h j i (omega arith)
    ∙ ap f (sym (lane_of-map (λ row. take count row) (decoded rows) j (omega (arith, length-decoded rows))
    ∙ (ap (take count) (lane_of-decoded rows j k) ∙ take-map symbol_of count (slice_index_or rows j [])))))
