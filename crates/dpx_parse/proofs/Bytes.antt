-- Rows of bytes, one behind the other.
use Rattle.std.proofs.Common.{ℕ, zero, suc, ◌+◌, ◌*◌, ◌/◌, ◌%◌, ◌<◌, ◌≤◌, ◌≡◌, ◌≢◌, ◌∙◌, List, [], ◌∷◌, ◌++◌, Bool}
use Rattle.std.proofs.Common.{true, false, ◌&&◌, Option, Some, None, length, take, get_or, unwrap_or, refl, sym, ap}
use Rattle.std.proofs.Common.{subst, arith, length-append, length-set, append_assoc}
use Rattle.std.specs.Prelude.{slice_index, slice_index_or, slice_set, ◌==◌, if◌then◌else◌}
use Rattle.std.proofs.lemmas.List.{take_more_set, append-nil, get_or-set_same, get_or-set_other}
use Rattle.dpx_base.specs.declared.lanes.Lanes.{Lanes}
use Rattle.dpx_base.specs.declared.lanes.Lanes.TheVariants.{One, Two, Four}
use Rattle.dpx_base.specs.Lanes.{lanes_count}
use Rattle.dpx_grammar.specs.Accepted.{copies}
use Rattle.dpx_grammar.specs.Gathered.{gathered}
use Rattle.dpx_grammar.specs.Parts.{AreRows}
use Rattle.dpx_grammar.proofs.Lists.{map_range_same}
use Rattle.dpx_parse.specs.declared.bad.ParseWhy.{ParseWhy}
use Rattle.dpx_parse.specs.declared.bad.ParseWhy.TheVariants.{Interlaced, VbIdDiffers}
use Rattle.dpx_parse.specs.Columns.{dealt, dealt_place}
use Rattle.dpx_parse.specs.Bytes.{put, flat}
use Rattle.dpx_parse.specs.Counts.{kept_ids}
use Rattle.dpx_parse.specs.Faults.{all_are, id_fault, first_in}

-- ---- writing

pub put_length : (bytes : List ℕ) (place : ℕ) (row : List ℕ) → length (put bytes place row) ≡ length bytes
put_length bytes place [] = refl
put_length bytes place (b ∷ row) = put_length (slice_set bytes place b) (place + 1) row ∙ length-set bytes place b

pub put_take : (bytes : List ℕ) (place : ℕ) (row : List ℕ) → place + length row ≤ length bytes
    → take (place + length row) (put bytes place row) ≡ take place bytes ++ row
put_take bytes place [] h = let e : place + 0 ≡ place = omega arith in
    ap (λ n. take n bytes) e ∙ sym (append-nil (take place bytes))
put_take bytes place (b ∷ row) h =
    let e : place + suc (length row) ≡ place + 1 + length row = omega arith in
    let l : place + 1 + length row ≤ length (slice_set bytes place b) = omega (arith, h, length-set bytes place b) in
    ap (λ n. take n (put (slice_set bytes place b) (place + 1) row)) e
    ∙ put_take (slice_set bytes place b) (place + 1) row l
    ∙ ap (λ xs. xs ++ row) (take_more_set bytes place b (omega (arith, h)))
    ∙ append_assoc (take place bytes) (b ∷ []) row

-- ---- rows

pub flat_more : (rows : List (List ℕ)) (row : List ℕ) → flat (rows ++ row ∷ []) ≡ flat rows ++ row
flat_more [] row = append-nil row
flat_more (r ∷ rows) row = ap (λ xs. r ++ xs) (flat_more rows row) ∙ sym (append_assoc r (flat rows) row)

pub flat_length : (lanes : ℕ) (rows : List (List ℕ)) → AreRows lanes rows → length (flat rows) ≡ length rows * lanes
flat_length lanes [] h = omega arith
flat_length lanes (r ∷ rows) h =
    let i : length (flat rows) ≡ length rows * lanes = flat_length lanes rows h.1 in
    let m : suc (length rows) * lanes ≡ lanes + length rows * lanes = omega arith in
    length-append r (flat rows) ∙ ap (λ n. n + length (flat rows)) h.0 ∙ ap (λ n. lanes + n) i ∙ sym m

front_at : (xs ys : List ℕ) (i : ℕ) → i < length xs → get_or (xs ++ ys) i 0 ≡ get_or xs i 0
front_at [] ys i h = absurd (omega arith)
front_at (x ∷ xs) ys zero h = refl
front_at (x ∷ xs) ys (suc i) h = front_at xs ys i (omega arith)

back_at : (xs ys : List ℕ) (i : ℕ) → get_or (xs ++ ys) (length xs + i) 0 ≡ get_or ys i 0
back_at [] ys i = let e : 0 + i ≡ i = omega arith in ap (λ n. get_or ys n 0) e
back_at (x ∷ xs) ys i = let e : suc (length xs) + i ≡ suc (length xs + i) = omega arith in
    ap (λ n. get_or (x ∷ (xs ++ ys)) n 0) e ∙ back_at xs ys i

pub flat_at : (lanes : ℕ) (rows : List (List ℕ)) (r l : ℕ) → AreRows lanes rows → r < length rows → l < lanes
    → slice_index (flat rows) (r * lanes + l) ≡ slice_index (slice_index_or rows r []) l
flat_at lanes [] r l h a b = absurd (omega arith)
flat_at lanes (row ∷ rows) zero l h a b =
    let e : 0 * lanes + l ≡ l = omega arith in
    ap (λ n. get_or (row ++ flat rows) n 0) e ∙ front_at row (flat rows) l (subst (λ n. l < n) (sym h.0) b)
flat_at lanes (row ∷ rows) (suc r) l h a b =
    let e : suc r * lanes + l ≡ lanes + (r * lanes + l) = omega arith in
    ap (λ n. get_or (row ++ flat rows) n 0) (e ∙ ap (λ n. n + (r * lanes + l)) (sym h.0))
    ∙ back_at row (flat rows) (r * lanes + l)
    ∙ flat_at lanes rows r l h.1 (omega arith) b

row_below : (lanes : Lanes) (i : ℕ) → i < 36
    → (i / 9 / lanes_count lanes * 9 + i % 9 < 36 / lanes_count lanes) × (i / 9 % lanes_count lanes < lanes_count lanes)
row_below One i h = (omega arith, omega arith)
row_below Two i h = (omega arith, omega arith)
row_below Four i h = (omega arith, omega arith)

pub dealt_is : (lanes : Lanes) (rows : List (List ℕ)) → AreRows (lanes_count lanes) rows
    → length rows ≡ 36 / lanes_count lanes
    → dealt (lanes_count lanes) (flat rows) ≡ gathered (lanes_count lanes) rows
unfolding dealt gathered
dealt_is lanes rows h n =
    map_range_same (λ place. slice_index (flat rows) (dealt_place (lanes_count lanes) place))
    (λ place. slice_index (slice_index_or rows (place / 9 / lanes_count lanes * 9 + place % 9) [])
    (place / 9 % lanes_count lanes)) 0 0 36
    (λ i l.
    let e : 0 + i ≡ i = omega arith in
    let b = row_below lanes i l in
    subst
    (λ j. slice_index (flat rows) (dealt_place (lanes_count lanes) j)
    ≡ slice_index (slice_index_or rows (j / 9 / lanes_count lanes * 9 + j % 9) []) (j / 9 % lanes_count lanes))
    (sym e)
    (flat_at (lanes_count lanes) rows (i / 9 / lanes_count lanes * 9 + i % 9) (i / 9 % lanes_count lanes) h
    (subst (λ m. i / 9 / lanes_count lanes * 9 + i % 9 < m) (sym n) b.0) b.1))

-- ---- copies of VB-ID

pub copies_new : (rows : List (List ℕ)) (row : List ℕ) → length rows % 3 ≡ 0
    → copies (rows ++ row ∷ []) ≡ copies rows ++ row
copies_new [] row h = refl
copies_new (a ∷ []) row h = absurd (omega arith)
copies_new (a ∷ b ∷ []) row h = absurd (omega arith)
copies_new (a ∷ b ∷ c ∷ rows) row h =
    ap (λ xs. a ++ xs) (copies_new rows row (omega arith)) ∙ sym (append_assoc a (copies rows) row)

pub copies_old : (rows : List (List ℕ)) (row : List ℕ) → 1 ≤ length rows % 3 → copies (rows ++ row ∷ []) ≡ copies rows
copies_old [] row h = absurd (omega arith)
copies_old (a ∷ []) row h = refl
copies_old (a ∷ b ∷ []) row h = append-nil a
copies_old (a ∷ b ∷ c ∷ rows) row h = ap (λ xs. a ++ xs) (copies_old rows row (omega arith))

all_are_join : (id : ℕ) (xs ys : List ℕ) → all_are id (xs ++ ys) ≡ (all_are id xs && all_are id ys)
all_are_join id [] ys = refl
all_are_join id (x ∷ xs) ys = both (x == id) (all_are id (xs ++ ys)) (all_are id xs) (all_are id ys)
    (all_are_join id xs ys)
  where
    both : (a b c d : Bool) → b ≡ (c && d) → (a && b) ≡ ((a && c) && d)
    both true b c d e = e
    both false b c d e = refl

abbrev named : Bool → Bool → Option ParseWhy
named i a = if i then Some Interlaced else if a then None else Some VbIdDiffers

-- the copies so far are right, and what the next ones do is told by the first
pub id_fault_more : (xs row : List ℕ) → id_fault xs ≡ None
    → id_fault (xs ++ row) ≡ id_fault (kept_ids (first_in xs) row)
id_fault_more [] row h = refl
id_fault_more (id ∷ ids) row h = go (id / 4 % 2 == 1) (all_are id ids) (all_are id (ids ++ row)) (all_are id row) h
    (all_are_join id ids row)
  where
    go : (i a b c : Bool) → named i a ≡ None → b ≡ (a && c) → named i b ≡ named i c
    go true a b c h e = absurd (cc)
    go false true b c h e = rw e refl
    go false false b c h e = absurd (cc)

pub first_more : (xs : List ℕ) (b : ℕ) (row : List ℕ) → first_in (xs ++ b ∷ row) ≡ Some (unwrap_or (first_in xs) b)
first_more [] b row = refl
first_more (x ∷ xs) b row = refl

-- a list written place by place
pub set_more : (f : ℕ → ℕ) (xs : List ℕ) (place y : ℕ) → place < length xs → y ≡ f place
    → ((i : ℕ) → i < place → slice_index xs i ≡ f i) → (i : ℕ) → i < place + 1
    → slice_index (slice_set xs place y) i ≡ f i
set_more f xs place y h e all i l = go (i == place) refl
  where
    go : (b : Bool) → (i == place) ≡ b → slice_index (slice_set xs place y) i ≡ f i
    go true q = let s : i ≡ place = grind arith in rw s (get_or-set_same xs place y 0 h ∙ e)
    go false q = let n : i ≢ place = grind arith in get_or-set_other xs place i y 0 n ∙ let b : i < place =
        grind arith in all i b
