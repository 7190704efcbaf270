-- A period: a line's header, and what comes before the next one's.
use Rattle.std.proofs.Common.{ℕ, zero, suc, ◌+◌, ◌-◌, ◌*◌, ◌/◌, ◌%◌, ◌<◌, ◌≤◌, ◌≡◌, ◌∙◌, Bool, true, false, List, []}
use Rattle.std.proofs.Common.{◌∷◌, ◌++◌, map, length, get_or, replicate, refl, sym, ap, arith, length-append}
use Rattle.std.specs.Prelude.{if◌then◌else◌}
use Rattle.std.specs.List.{range_with_len, flat_map}
use Rattle.std.proofs.lemmas.List.{length-map, length-append}
use Rattle.std.proofs.lemmas.List.FromFn.{length-map-range_with_len}
use Rattle.std.proofs.lemmas.Nat.{div-add-mod', mod-mul-add}
use Rattle.dpx_base.specs.declared.pixel.Pixel.{Pixel}
use Rattle.dpx_base.specs.declared.sym.Sym.{Sym}
use Rattle.dpx_base.specs.Attributes.{attributes_bytes, column_symbol}
use Rattle.dpx_base.specs.Plan.{group_length, PlanFacts, timing, lines, IsPlan}
use Rattle.dpx_base.specs.Sets.{line_bytes}
use Rattle.dpx_base.specs.Slots.{is_active, begins_frame}
use Rattle.dpx_base.specs.Symbols.{be, se}
use Rattle.dpx_base.specs.Timing.{start, line_end, gap}
use Rattle.dpx_grammar.specs.Parts.{Part, group, block, filler, attributes, begins, sets_of, data_set, control_set}
use Rattle.dpx_grammar.specs.Parts.{group_code, group_sets}
use Rattle.dpx_inversion.specs.Source.{IsTable, plan_lanes, zero_row, resets, id_row, attribute_rows, attribute_sets}
use Rattle.dpx_inversion.specs.Source.{head_at, header_length}
use Rattle.dpx_grammar.proofs.Lists.{map_range_cut, map_range_same, map_range_is, map_map, flat_map_append}
use Rattle.dpx_inversion.proofs.Filled.{constant}
use Rattle.dpx_inversion.proofs.Actives.{IsLine, shown_line, line_at}
use Rattle.dpx_inversion.proofs.Plans.{possible, started, room, apart}

unfoldable pub id_rows : PlanFacts → ℕ → List (List ℕ)
id_rows p line = map (id_row p line) (range_with_len 0 (12 / plan_lanes p))

unfoldable pub blank_of : PlanFacts → Bool → ℕ → List Part
blank_of p true n = attributes (attribute_rows p) ∷ replicate n (filler (zero_row p))
blank_of p false n = replicate n (filler (zero_row p))

unfoldable pub active_of : PlanFacts → List Pixel → ℕ → Bool → List Part
active_of p pixels line true = begins ∷ shown_line (timing p) (line_bytes p pixels line) (zero_row p)
active_of p pixels line false = []

-- the clocks of the attributes, and of the next line with its BE
unfoldable pub told_length : PlanFacts → Bool → ℕ
told_length p first = if first then 3 + 36 / plan_lanes p else 0

unfoldable pub line_length : PlanFacts → Bool → ℕ
line_length p active = if active then line_end (timing p) + 1 else 0

-- what is left for filling
unfoldable pub spare : PlanFacts → ℕ → ℕ
spare p line =
    head_at p (line + 1) - head_at p line - header_length p line - line_length p (is_active p (line + 1))

unfoldable pub period : PlanFacts → List Pixel → ℕ → List Part
period p pixels line =
    group (resets line) ∷ block (id_rows p line)
    ∷ (blank_of p (begins_frame p line) (spare p line) ++ active_of p pixels (line + 1) (is_active p (line + 1)))

fillers : (enhanced : Bool) (lanes n : ℕ) (row : List ℕ)
    → flat_map (sets_of enhanced lanes) (replicate n (filler row)) ≡ map data_set (replicate n row)
fillers enhanced lanes zero row = refl
fillers enhanced lanes (suc n) row = ap (λ xs. data_set row ∷ xs) (fillers enhanced lanes n row)

attribute_rows_length : (p : PlanFacts) → length (attribute_rows p) ≡ 36 / plan_lanes p
unfolding attribute_rows
attribute_rows_length p =
    length-map-range_with_len
    (λ index. map (λ lane. get_or (attributes_bytes p.mode p.link) (column_symbol p.link.lanes lane index) 0)
    (range_with_len 0 (plan_lanes p)))
    0 (36 / plan_lanes p)

attribute_sets_length : (p : PlanFacts) → length (attribute_sets p) ≡ 3 + 36 / plan_lanes p
attribute_sets_length p =
    omega (
      arith,
      length-append (map data_set (attribute_rows p)) (control_set (plan_lanes p) se ∷ []),
      length-map (attribute_rows p) data_set,
      attribute_rows_length p,
    )

group_sets_length : (enhanced : Bool) (lanes x : ℕ) → length (group_sets enhanced lanes x) ≡ (if enhanced then 4 else 1)
group_sets_length true lanes x = refl
group_sets_length false lanes x = refl

-- ---- its sets, piece by piece

pub head_sets : (p : PlanFacts) (pixels : List Pixel) (at : ℕ → List Sym) (line : ℕ) → IsTable p pixels at
    → line < lines p
    → map at (range_with_len (head_at p line) (group_length p.link))
    ≡ sets_of p.link.enhanced (plan_lanes p) (group (resets line))
head_sets p pixels at line table within =
    map_range_is at (head_at p line) (group_length p.link)
    (group_sets p.link.enhanced (plan_lanes p) (group_code (resets line))) []
    (group_sets_length p.link.enhanced (plan_lanes p) (group_code (resets line))) (λ i l. table.headed line i within l)

pub id_sets : (p : PlanFacts) (pixels : List Pixel) (at : ℕ → List Sym) (line : ℕ) → IsTable p pixels at
    → line < lines p
    → map at (range_with_len (head_at p line + group_length p.link) (12 / plan_lanes p))
    ≡ sets_of p.link.enhanced (plan_lanes p) (block (id_rows p line))
unfolding id_rows
id_sets p pixels at line table within =
    map_range_same at (λ i. data_set (id_row p line i)) (head_at p line + group_length p.link) 0 (12 / plan_lanes p)
    (λ i l. let z : 0 + i ≡ i = omega arith in rw z (table.identified line i within l))
    ∙ sym (map_map data_set (id_row p line) (range_with_len 0 (12 / plan_lanes p)))

blank_sets : (p : PlanFacts) (at : ℕ → List Sym) (a n : ℕ) (first : Bool)
    → (first ≡ true → (i : ℕ) → i < 3 + 36 / plan_lanes p → at (a + i) ≡ get_or (attribute_sets p) i [])
    → ((i : ℕ) → i < n → at (a + told_length p first + i) ≡ data_set (zero_row p))
    → map at (range_with_len a (told_length p first + n))
    ≡ flat_map (sets_of p.link.enhanced (plan_lanes p)) (blank_of p first n)
unfolding blank_of told_length
blank_sets p at a n true told filled =
    map_range_cut at a (3 + 36 / plan_lanes p) (3 + 36 / plan_lanes p + n) (a + (3 + 36 / plan_lanes p)) n refl refl
    ∙ ap (λ xs. xs ++ map at (range_with_len (a + (3 + 36 / plan_lanes p)) n))
    (map_range_is at a (3 + 36 / plan_lanes p) (attribute_sets p) [] (attribute_sets_length p) (told refl))
    ∙ ap (λ xs. attribute_sets p ++ xs)
    (constant at (a + (3 + 36 / plan_lanes p)) n (zero_row p) filled
    ∙ sym (fillers p.link.enhanced (plan_lanes p) n (zero_row p)))
blank_sets p at a n false told filled =
    let e : 0 + n ≡ n = omega arith in
    let f : a + 0 ≡ a = omega arith in
    ap (λ k. map at (range_with_len a k)) e
    ∙ constant at a n (zero_row p) (λ i l. ap (λ z. at (z + i)) (sym f) ∙ filled i l)
    ∙ sym (fillers p.link.enhanced (plan_lanes p) n (zero_row p))

line_in : (p : PlanFacts) (pixels : List Pixel) (at : ℕ → List Sym) (line : ℕ) → IsTable p pixels at → line < lines p
    → is_active p line ≡ true
    → IsLine p (line_bytes p pixels line) at line
line_in p pixels at line table within active = record {
  begun = table.begun line within active;
  valid = λ j h. table.valid line j within active h;
  stuffed = λ k i h v u. table.stuffed line k i within active h v u;
}

active_sets : (p : PlanFacts) (pixels : List Pixel) (at : ℕ → List Sym) (line : ℕ) (active : Bool) → IsPlan p
    → IsTable p pixels at → line < lines p
    → is_active p line ≡ active
    → map at (range_with_len (head_at p line - line_length p active) (line_length p active))
    ≡ flat_map (sets_of p.link.enhanced (plan_lanes p)) (active_of p pixels line active)
unfolding active_of line_length head_at
active_sets p pixels at line true plan table within is =
    let s : ℕ = start (timing p) line in
    let b : start (timing p) line + line_end (timing p) - (line_end (timing p) + 1) ≡ start (timing p) line - 1 =
    omega (arith, started p line plan) in
    let is_line : IsLine p (line_bytes p pixels line) at line = line_in p pixels at line table within is in
    ap (λ k. map at (range_with_len k (line_end (timing p) + 1))) b
    ∙ map_range_cut at (start (timing p) line - 1) 1 (line_end (timing p) + 1) (start (timing p) line)
    (line_end (timing p)) (omega arith) (omega (arith, started p line plan))
    ∙ ap (λ x. x ∷ map at (range_with_len (start (timing p) line) (line_end (timing p)))) is_line.begun
    ∙ ap (λ xs. control_set (plan_lanes p) be ∷ xs)
    (line_at p (line_bytes p pixels line) at line (possible p plan) plan.fits is_line)
active_sets p pixels at line false plan table within is = refl

pub next_in_frame : (total line i : ℕ) → i + 1 < total → line % total ≡ i → (line + 1) % total ≡ i + 1
next_in_frame total line i room is =
    let e : line + 1 ≡ line / total * total + (i + 1) = omega (arith, div-add-mod' line total) in
    ap (λ z. z % total) e ∙ mod-mul-add (line / total) total (i + 1) room

-- a frame's first line is blank, and so is the next one
pub not_both : (p : PlanFacts) (line : ℕ) → IsPlan p → begins_frame p line ≡ true → is_active p (line + 1) ≡ false
not_both p line plan first =
    let z : line % p.mode.vtotal ≡ 0 = grind (arith, first) in
    let two : 2 ≤ p.mode.vtotal - p.mode.height = omega (arith, plan.mode.vtotal.0) in
    let n : (line + 1) % p.mode.vtotal ≡ 1 = next_in_frame p.mode.vtotal line 0 (omega (arith, plan.mode.vtotal.0)) z in
    rw n (grind arith)

pub spared : (p : PlanFacts) (line : ℕ) → IsPlan p
    → (header_length p line + line_length p (is_active p (line + 1)) ≤ head_at p (line + 1) - head_at p line)
    × (head_at p line ≤ head_at p (line + 1))
unfolding line_length
spared p line plan =
    let r : header_length p line + (if is_active p (line + 1) then line_end (timing p) + 1 else 0) ≤ gap (timing p) =
    room p line (begins_frame p line) (is_active p (line + 1)) plan refl (not_both p line plan) in
    (omega (arith, apart p line plan), omega (arith, apart p line plan))

header_is : (p : PlanFacts) (line : ℕ) → header_length p line
    ≡ group_length p.link + 12 / plan_lanes p + told_length p (begins_frame p line)
unfolding header_length told_length
header_is p line = refl

total : (p : PlanFacts) (line : ℕ) → IsPlan p
    → head_at p (line + 1) - head_at p line
    ≡ group_length p.link + (12 / plan_lanes p +
    (told_length p (begins_frame p line) + spare p line + line_length p (is_active p (line + 1))))
unfolding spare
total p line plan = omega (arith, (spared p line plan).0, (spared p line plan).1, header_is p line)

before : (p : PlanFacts) (line i : ℕ) → IsPlan p → i < spare p line
    → head_at p line + group_length p.link + 12 / plan_lanes p + told_length p (begins_frame p line) + i
    + (if is_active p (line + 1) then line_end (timing p) + 1 else 0) < head_at p (line + 1)
unfolding line_length
before p line i plan l =
    let e : line_length p (is_active p (line + 1)) ≡ (if is_active p (line + 1) then line_end (timing p) + 1 else 0) =
    refl in
    omega (arith, total p line plan, (spared p line plan).1, e)

pub period_sets : (p : PlanFacts) (pixels : List Pixel) (at : ℕ → List Sym) (line : ℕ) → IsPlan p → IsTable p pixels at
    → line + 1 < lines p
    → map at (range_with_len (head_at p line) (head_at p (line + 1) - head_at p line))
    ≡ flat_map (sets_of p.link.enhanced (plan_lanes p)) (period p pixels line)
unfolding period
period_sets p pixels at line plan table within =
    let h : ℕ = head_at p line in
    let g : ℕ = group_length p.link in
    let q : ℕ = 12 / plan_lanes p in
    let first : Bool = begins_frame p line in
    let active : Bool = is_active p (line + 1) in
    let n : ℕ = spare p line in
    let w : ℕ = line_length p (is_active p (line + 1)) in
    let tl : ℕ = told_length p (begins_frame p line) in
    let here : line < lines p = omega arith in
    let sum : head_at p (line + 1) - head_at p line ≡ g + (q + (tl + n + w)) = total p line plan in
    let last : h + g + q + (tl + n) ≡ head_at p (line + 1) - w = omega (arith, sum, (spared p line plan).1) in
    map_range_cut at h g (head_at p (line + 1) - head_at p line) (h + g) (q + (tl + n + w)) sum refl
    ∙ ap (λ xs. xs ++ map at (range_with_len (h + g) (q + (tl + n + w)))) (head_sets p pixels at line table here)
    ∙ ap (λ xs. sets_of p.link.enhanced (plan_lanes p) (group (resets line)) ++ xs) (
    map_range_cut at (h + g) q (q + (tl + n + w)) (h + g + q) (tl + n + w) refl refl
    ∙ ap (λ xs. xs ++ map at (range_with_len (h + g + q) (tl + n + w))) (id_sets p pixels at line table here)
    ∙ ap (λ xs. sets_of p.link.enhanced (plan_lanes p) (block (id_rows p line)) ++ xs) (
    map_range_cut at (h + g + q) (tl + n) (tl + n + w) (head_at p (line + 1) - w) w refl (sym last)
    ∙ ap (λ xs. xs ++ map at (range_with_len (head_at p (line + 1) - w) w))
    (blank_sets p at (h + g + q) n first (λ f i l. table.attributed line i within f l)
    (λ i l. table.filled line (h + g + q + tl + i) within (omega (arith, header_is p line)) (before p line i plan l)))
    ∙ ap (λ xs. flat_map (sets_of p.link.enhanced (plan_lanes p)) (blank_of p first n) ++ xs)
    (active_sets p pixels at (line + 1) active plan table within refl)
    ∙ sym (flat_map_append (sets_of p.link.enhanced (plan_lanes p)) (blank_of p first n)
    (active_of p pixels (line + 1) active))))
