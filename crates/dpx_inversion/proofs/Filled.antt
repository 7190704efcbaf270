-- The units of a line as valid sets and stuffing.
use Rattle.std.proofs.Common.{ℕ, zero, suc, ◌+◌, ◌-◌, ◌<◌, ◌≤◌, ◌≡◌, ◌∙◌, List, [], ◌∷◌, ◌++◌, map, length, replicate}
use Rattle.std.proofs.Common.{Some, None, refl, sym, ap, arith, Bool}
use Rattle.std.specs.List.{AllByRecursion, range_with_len, flat_map}
use Rattle.std.proofs.lemmas.List.FromFn.{map-range_with_len_more}
use Rattle.std.proofs.lemmas.List.{append-nil}
use Rattle.dpx_base.specs.declared.sym.Sym.{Sym}
use Rattle.dpx_base.specs.Symbols.{fs, fe}
use Rattle.dpx_grammar.specs.Parts.{Part, valid, stuffing, sets_of, data_set, control_set, AreRows, IsActive}
use Rattle.dpx_grammar.specs.Accepted.{valid_rows}
use Rattle.dpx_inversion.proofs.Quiet.{IsShown}

-- the valid sets of n rows from a place on
unfoldable pub shown : (ℕ → List ℕ) → ℕ → ℕ → List Part
shown row a n = map (λ j. valid (row j)) (range_with_len a n)

-- what fills up w clocks
unfoldable pub stuffing_of : List ℕ → ℕ → List Part
stuffing_of empty zero = []
stuffing_of empty (suc zero) = stuffing None ∷ []
stuffing_of empty (suc (suc n)) = stuffing (Some (replicate n empty)) ∷ []

pub shown_sets : (enhanced : Bool) (lanes : ℕ) (row : ℕ → List ℕ) (a n : ℕ)
    → flat_map (sets_of enhanced lanes) (shown row a n) ≡ map (λ j. data_set (row j)) (range_with_len a n)
unfolding shown
shown_sets enhanced lanes row a zero = refl
shown_sets enhanced lanes row a (suc n) = ap (λ xs. data_set (row a) ∷ xs) (shown_sets enhanced lanes row (a + 1) n)

pub shown_are : (row : ℕ → List ℕ) (a n : ℕ) → AllByRecursion IsShown (shown row a n)
unfolding shown
shown_are row a zero = tt
shown_are row a (suc n) = (tt, shown_are row (a + 1) n)

pub shown_rows : (row : ℕ → List ℕ) (a n : ℕ) → valid_rows (shown row a n) ≡ map row (range_with_len a n)
unfolding shown
shown_rows row a zero = refl
shown_rows row a (suc n) = ap (λ xs. row a ∷ xs) (shown_rows row (a + 1) n)

pub shown_active : (lanes : ℕ) (row : ℕ → List ℕ) (a n : ℕ) → ((j : ℕ) → length (row j) ≡ lanes)
    → AllByRecursion (IsActive lanes) (shown row a n)
unfolding shown
shown_active lanes row a zero h = tt
shown_active lanes row a (suc n) h = (h a, shown_active lanes row (a + 1) n h)

pub stuffing_are : (empty : List ℕ) (w : ℕ) → AllByRecursion IsShown (stuffing_of empty w)
unfolding stuffing_of
stuffing_are empty zero = tt
stuffing_are empty (suc zero) = (tt, tt)
stuffing_are empty (suc (suc n)) = (tt, tt)

pub stuffing_rows : (empty : List ℕ) (w : ℕ) → valid_rows (stuffing_of empty w) ≡ []
unfolding stuffing_of
stuffing_rows empty zero = refl
stuffing_rows empty (suc zero) = refl
stuffing_rows empty (suc (suc n)) = refl

pub rows_alike : (lanes : ℕ) (empty : List ℕ) (n : ℕ) → length empty ≡ lanes → AreRows lanes (replicate n empty)
rows_alike lanes empty zero h = tt
rows_alike lanes empty (suc n) h = (h, rows_alike lanes empty n h)

pub stuffing_active : (lanes : ℕ) (empty : List ℕ) (w : ℕ) → length empty ≡ lanes
    → AllByRecursion (IsActive lanes) (stuffing_of empty w)
unfolding stuffing_of
stuffing_active lanes empty zero h = tt
stuffing_active lanes empty (suc zero) h = (tt, tt)
stuffing_active lanes empty (suc (suc n)) h = (rows_alike lanes empty n h, tt)

pub shown_all : (P : Part → Type 0) (row : ℕ → List ℕ) (a n : ℕ) → ((j : ℕ) → P (valid (row j)))
    → AllByRecursion P (shown row a n)
unfolding shown
shown_all P row a zero h = tt
shown_all P row a (suc n) h = (h a, shown_all P row (a + 1) n h)

pub stuffing_all : (P : Part → Type 0) (empty : List ℕ) (w : ℕ) → P (stuffing None)
    → ((n : ℕ) → P (stuffing (Some (replicate n empty))))
    → AllByRecursion P (stuffing_of empty w)
unfolding stuffing_of
stuffing_all P empty zero one more = tt
stuffing_all P empty (suc zero) one more = (one, tt)
stuffing_all P empty (suc (suc n)) one more = (more n, tt)

-- the same set over and over
pub constant : (at : ℕ → List Sym) (a n : ℕ) (row : List ℕ) → ((i : ℕ) → i < n → at (a + i) ≡ data_set row)
    → map at (range_with_len a n) ≡ map data_set (replicate n row)
constant at a zero row h = refl
constant at a (suc n) row h =
    let z : a + 0 ≡ a = omega arith in
    let first : at a ≡ data_set row = ap at (sym z) ∙ h 0 (omega arith) in
    let rest : map at (range_with_len (a + 1) n) ≡ map data_set (replicate n row) =
    constant at (a + 1) n row (λ i l. let e : a + 1 + i ≡ a + suc i = omega arith in
    ap at e ∙ h (suc i) (omega arith)) in
    ap (λ s. s ∷ map at (range_with_len (a + 1) n)) first ∙ ap (λ s. data_set row ∷ s) rest

-- the sets that fill up w clocks
pub record Stuffs (lanes : ℕ) (empty : List ℕ) (at : ℕ → List Sym) (a w : ℕ) : Type 0 where
  pub last : 1 ≤ w → at (a + w - 1) ≡ control_set lanes fe
  pub first : 2 ≤ w → at a ≡ control_set lanes fs
  pub middle : (i : ℕ) → 1 ≤ i → i + 1 < w → at (a + i) ≡ data_set empty

pub stuffing_sets : (enhanced : Bool) (lanes : ℕ) (empty : List ℕ) (at : ℕ → List Sym) (a w : ℕ)
    → Stuffs lanes empty at a w
    → map at (range_with_len a w) ≡ flat_map (sets_of enhanced lanes) (stuffing_of empty w)
unfolding stuffing_of
stuffing_sets enhanced lanes empty at a zero h = refl
stuffing_sets enhanced lanes empty at a (suc zero) h =
    let e : a + 1 - 1 ≡ a = omega arith in
    ap (λ s. s ∷ []) (ap at (sym e) ∙ h.last (omega arith))
stuffing_sets enhanced lanes empty at a (suc (suc n)) h =
    let e : a + suc (suc n) - 1 ≡ a + 1 + n = omega arith in
    let n1 : suc n ≡ n + 1 = omega arith in
    let first : at a ≡ control_set lanes fs = h.first (omega arith) in
    let last : at (a + 1 + n) ≡ control_set lanes fe = ap at (sym e) ∙ h.last (omega arith) in
    let middle : map at (range_with_len (a + 1) n) ≡ map data_set (replicate n empty) =
    constant at (a + 1) n empty (λ i l. let g : a + 1 + i ≡ a + suc i = omega arith in
    ap at g ∙ h.middle (suc i) (omega arith) (omega arith)) in
    let split : map at (range_with_len (a + 1) (suc n)) ≡ map at (range_with_len (a + 1) n) ++ at (a + 1 + n) ∷ [] =
    ap (λ k. map at (range_with_len (a + 1) k)) n1 ∙ map-range_with_len_more at (a + 1) n (a + 1 + n) refl in
    let back : map at (range_with_len (a + 1) (suc n)) ≡ map data_set (replicate n empty) ++ control_set lanes fe ∷ [] =
    split ∙ ap (λ s. s ++ at (a + 1 + n) ∷ []) middle ∙ ap (λ s. map data_set (replicate n empty) ++ s ∷ []) last in
    ap (λ s. s ∷ map at (range_with_len (a + 1) (suc n))) first
    ∙ ap (λ s. control_set lanes fs ∷ s) back
    ∙ sym (append-nil (control_set lanes fs ∷ (map data_set (replicate n empty) ++ control_set lanes fe ∷ [])))
