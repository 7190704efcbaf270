-- A lane's row, and where its first SR group stands.
use Rattle.std.proofs.Common.{◌≡◌, ℕ, ◌<◌, ◌≤◌, ◌+◌, ◌-◌, ◌*◌, ⊎_elim, Bool, true, false, List, [], ◌∷◌, ◌++◌, length}
use Rattle.std.proofs.Common.{take, drop, map, replicate, refl, sym, ap, ◌∙◌, arith, append_assoc, length-append}
use Rattle.std.specs.Prelude.{slice_index_or}
use Rattle.std.proofs.lemmas.List.{drop_at, take_at, get_or-drop, get_or_append_left, get_or-append_right}
use Rattle.std.proofs.lemmas.List.{length-replicate, length-map, map-append, get_or-replicate, get_or-map}
use Rattle.std.proofs.lemmas.Bool.{cases_lt, both_ways}
use Rattle.dpx_base.specs.Key.{is_reset}
use Rattle.dpx_base.specs.Words.{fill, lane_row, column}
use Rattle.dpx_base.specs.declared.sym.Sym.{Sym}
use Rattle.dpx_align.specs.Lock.{sr_group, HasAt, FirstFrom}
use Rattle.dpx_align.specs.Sent.{FirstGroup}

-- the group begins with SR
pub sr_starts : (enhanced : Bool) (xs : List Sym) → take (length (sr_group enhanced)) xs ≡ sr_group enhanced
    → is_reset (slice_index_or xs 0 fill) ≡ true
sr_starts true [] h = cc
sr_starts true (x ∷ xs) h =
    let e : x ≡ record { control = true; byte = 28 } = cc in
    ap is_reset e
sr_starts false [] h = cc
sr_starts false (x ∷ xs) h =
    let e : x ≡ record { control = true; byte = 28 } = cc in
    ap is_reset e

-- no SR in the list
abbrev pub Quiet : List Sym → Type 0
Quiet xs = (k : ℕ) → k < length xs → is_reset (slice_index_or xs k fill) ≡ false

pub has_group : (group p more : List Sym) → HasAt group (p ++ (group ++ more)) (length p)
has_group group p more =
    ap (take (length group)) (drop_at p (group ++ more) (length p) refl) ∙ take_at group more (length group) refl

pub none_before : (enhanced : Bool) (p rest : List Sym) (k : ℕ) → Quiet p → HasAt (sr_group enhanced) (p ++ rest) k
    → length p ≤ k
none_before enhanced p rest k q h =
    ⊎_elim
    (λ (l : k < length p).
    let a = sr_starts enhanced (drop k (p ++ rest)) h in
    let f : slice_index_or (drop k (p ++ rest)) 0 fill ≡ slice_index_or p k fill =
    get_or-drop k (p ++ rest) 0 fill
    ∙ (ap (λ (i : ℕ). slice_index_or (p ++ rest) i fill) (omega arith)
    ∙ get_or_append_left p rest fill k l) in
    absurd (both_ways (is_reset (slice_index_or p k fill)) (q k l) (sym (ap is_reset f) ∙ a)))
    (λ (l : length p ≤ k). l)
    (cases_lt k (length p))

pub first_group : (enhanced : Bool) (p more : List Sym) (m : ℕ) → Quiet p → m ≤ length p
    → FirstFrom (sr_group enhanced) (p ++ (sr_group enhanced ++ more)) m (length p)
first_group enhanced p more m q l = record {
  from = l;
  there = has_group (sr_group enhanced) p more;
  first = λ k a b h.
      let c = none_before enhanced p (sr_group enhanced ++ more) k q h in
      absurd (omega arith);
}

pub column_group : (lanes j : ℕ) (group : List Sym) → j < lanes → column j (map (λ s. replicate lanes s) group) ≡ group
column_group lanes j [] l = refl
column_group lanes j (s ∷ group) l =
    let e = get_or-replicate lanes j s fill l in
    let f = column_group lanes j group l in
    cc

pub column-append : (j : ℕ) (a b : List (List Sym)) → column j (a ++ b) ≡ column j a ++ column j b
column-append j a b = map-append (λ (set : List Sym). slice_index_or set j fill) a b

-- what stands before the group on lane j
abbrev pub front : ℕ → List (List Sym) → List Sym
front j before = replicate (2 * j) fill ++ column j before

pub length-front : (j : ℕ) (before : List (List Sym)) → length (front j before) ≡ 2 * j + length before
length-front j before =
    omega (
      arith,
      length-append (replicate (2 * j) fill) (column j before),
      length-replicate (2 * j) fill,
      length-map before (λ (set : List Sym). slice_index_or set j fill),
    )

pub quiet_front : (j : ℕ) (before : List (List Sym))
    → ((k : ℕ) → k < length before → is_reset (slice_index_or (slice_index_or before k []) j fill) ≡ false)
    → Quiet (front j before)
quiet_front j before h k l =
    let n = length-replicate (2 * j) fill in
    let size = length-front j before in
    ⊎_elim
    (λ (a : k < 2 * j).
    let e : slice_index_or (front j before) k fill ≡ fill =
    get_or_append_left (replicate (2 * j) fill) (column j before) fill k (omega (arith, n))
    ∙ get_or-replicate (2 * j) k fill fill a in
    ap is_reset e)
    (λ (a : 2 * j ≤ k).
    let i : k - 2 * j < length before = omega arith in
    let e : slice_index_or (front j before) k fill ≡ slice_index_or (slice_index_or before (k - 2 * j) []) j fill =
    get_or-append_right (replicate (2 * j) fill) (column j before) (2 * j) k fill n a
    ∙ get_or-map (λ (set : List Sym). slice_index_or set j fill) before (k - 2 * j) [] fill i in
    ap is_reset e ∙ h (k - 2 * j) i)
    (cases_lt k (2 * j))

-- the fills behind lane j's symbols
abbrev pub back : ℕ → ℕ → List Sym
back lanes j = replicate (2 * ((lanes - 1) - j)) fill

-- lane j's row: what stands before the group, and the sets from it on
pub row_parts : (enhanced : Bool) (lanes j : ℕ) (sets : List (List Sym)) (g : FirstGroup enhanced lanes sets)
    → j < lanes → lane_row lanes j (column j sets)
    ≡ front j g.before ++ (sr_group enhanced ++ (column j g.rest ++ back lanes j))
row_parts enhanced lanes j sets g l =
    let group = sr_group enhanced in
    let fills = replicate (2 * j) fill in
    let wide = map (λ (s : Sym). replicate lanes s) group in
    let a : column j sets ≡ column j g.before ++ (group ++ column j g.rest) =
    ap (column j) g.parts
    ∙ (column-append j g.before (wide ++ g.rest)
    ∙ ap (λ (x : List Sym). column j g.before ++ x)
    (column-append j wide g.rest ∙ ap (λ (x : List Sym). x ++ column j g.rest) (column_group lanes j group l))) in
    let b : column j sets ++ back lanes j ≡ column j g.before ++ (group ++ (column j g.rest ++ back lanes j)) =
    ap (λ (x : List Sym). x ++ back lanes j) a
    ∙ (append_assoc (column j g.before) (group ++ column j g.rest) (back lanes j)
    ∙ ap (λ (x : List Sym). column j g.before ++ x) (append_assoc group (column j g.rest) (back lanes j))) in
    ap (λ (x : List Sym). fills ++ x) b ∙ sym
    (append_assoc fills (column j g.before) (group ++ (column j g.rest ++ back lanes j)))
