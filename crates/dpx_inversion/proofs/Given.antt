-- The sets of a source are what the table says.
use Rattle.std.proofs.Common.{ℕ, zero, suc, ◌+◌, ◌-◌, ◌*◌, ◌/◌, ◌%◌, ◌<◌, ◌≤◌, ◌≡◌, ◌∙◌, Bool, true, false, List, []}
use Rattle.std.proofs.Common.{◌∷◌, ◌++◌, map, length, get_or, replicate, refl, sym, ap, subst, arith, inl, inr}
use Rattle.std.proofs.Math.Nat.{mul-le-mul}
use Rattle.std.specs.Prelude.{◌&&◌, ◌==◌, if◌then◌else◌, not, nat_lt}
use Rattle.std.specs.List.{range_with_len}
use Rattle.std.proofs.lemmas.Bool.{cases_lt}
use Rattle.std.proofs.lemmas.List.{get_or_append_left, get_or_at, get_or-map, length-map}
use Rattle.std.proofs.lemmas.List.FromFn.{get_or-map-range_with_len, length-map-range_with_len}
use Rattle.dpx_base.specs.declared.pixel.Pixel.{Pixel}
use Rattle.dpx_base.specs.declared.slot.Slot.TheVariants.{Fill, Group, VbId, Msa, Be, Valid, Stuff}
use Rattle.dpx_base.specs.declared.slot.Stuffing.TheVariants.{Fs, Zero, Fe}
use Rattle.dpx_base.specs.declared.sym.Sym.{Sym}
use Rattle.dpx_base.specs.Attributes.{attributes_bytes, column_symbol, block_byte}
use Rattle.dpx_base.specs.Plan.{lines, PlanFacts, timing, group_length, block_length, clocks, IsPlan}
use Rattle.dpx_base.specs.Sets.{bytes_at, set_of, set_at, attribute_symbol, group_symbol}
use Rattle.dpx_base.specs.Slots.{is_active, header_start, attributes_length, stuffing_of}
use Rattle.dpx_base.specs.Symbols.{data_symbol, control_symbol, be, fs, fe, ss, se, bs, sr}
use Rattle.dpx_base.specs.Timing.{carried, place, start}
use Rattle.dpx_grammar.specs.Parts.{data_set, control_set, group_code, group_sets}
use Rattle.dpx_inversion.specs.Laws.{Inverts, StartsAtSr, StartsWithGroup, sent_frames}
use Rattle.dpx_inversion.specs.Source.{IsTable, plan_lanes, zero_row, id_row, resets, attribute_sets, attribute_rows}
use Rattle.dpx_inversion.specs.Source.{stuffing_set, head_at}
use Rattle.dpx_grammar.proofs.Lists.{map_map, map_range_same, map_range_cut}
use Rattle.dpx_inversion.proofs.Filled.{constant}
use Rattle.dpx_inversion.proofs.Periods.{head_sets}
use Rattle.dpx_inversion.proofs.Rows.{bytes_found}
use Rattle.dpx_inversion.proofs.Table.{slot_early, slot_begun, slot_shown, slot_stuffed, headers, slot_headed}
use Rattle.dpx_inversion.proofs.Table.{slot_identified, slot_attributed, slot_filled, head_is, first_clock, lasts}
use Rattle.dpx_inversion.proofs.Whole.{inverts_table, drop_front}

alike : (n byte : ℕ) → replicate n (data_symbol byte) ≡ data_set (replicate n byte)
alike zero byte = refl
alike (suc n) byte = ap (λ xs. data_symbol byte ∷ xs) (alike n byte)

constant_row : (f : ℕ → Sym) (s : Sym) (a n : ℕ) → ((i : ℕ) → f i ≡ s) → map f (range_with_len a n) ≡ replicate n s
constant_row f s a zero h = refl
constant_row f s a (suc n) h = ap (λ x. x ∷ map f (range_with_len (a + 1) n)) (h a)
    ∙ ap (λ xs. s ∷ xs) (constant_row f s (a + 1) n h)

-- ---- the set of each slot

stuffed_as : (p : PlanFacts) (bytes : List ℕ) (a b : Bool)
    → set_of p (Stuff (if a then Fe else if b then Fs else Zero)) bytes
    ≡ (if a then control_set (plan_lanes p) fe else if b then control_set (plan_lanes p) fs else data_set (zero_row p))
unfolding set_of zero_row
stuffed_as p bytes true b = refl
stuffed_as p bytes false true = refl
stuffed_as p bytes false false = alike (plan_lanes p) 0

set_stuffed : (p : PlanFacts) (bytes : List ℕ) (v i : ℕ)
    → set_of p (Stuff (stuffing_of p.unit v i)) bytes ≡ stuffing_set p v i
unfolding stuffing_set
set_stuffed p bytes v i = stuffed_as p bytes (i + 1 == p.unit) (i == v)

set_begun : (p : PlanFacts) (bytes : List ℕ) → set_of p Be bytes ≡ control_set (plan_lanes p) be
unfolding set_of
set_begun p bytes = refl

set_shown : (p : PlanFacts) (bytes : List ℕ) → set_of p Valid bytes ≡ data_set bytes
unfolding set_of
set_shown p bytes = refl

set_filled : (p : PlanFacts) (bytes : List ℕ) → set_of p Fill bytes ≡ data_set (zero_row p)
unfolding set_of zero_row
set_filled p bytes = alike (plan_lanes p) 0

head_symbol : (lanes : ℕ) (reset : Bool) → replicate lanes (if reset then control_symbol sr else control_symbol bs)
    ≡ control_set lanes (if reset then sr else bs)
head_symbol lanes true = refl
head_symbol lanes false = refl

-- symbol i of a group
group_set : (enhanced : Bool) (lanes i : ℕ) (reset : Bool) → i < (if enhanced then 4 else 1)
    → replicate lanes (group_symbol i reset) ≡ get_or (group_sets enhanced lanes (group_code reset)) i []
group_set true lanes zero reset h = head_symbol lanes reset
group_set true lanes (suc zero) reset h = refl
group_set true lanes (suc (suc zero)) reset h = refl
group_set true lanes (suc (suc (suc zero))) reset h = head_symbol lanes reset
group_set true lanes (suc (suc (suc (suc i)))) reset h = absurd (omega arith)
group_set false lanes zero reset h = head_symbol lanes reset
group_set false lanes (suc i) reset h = absurd (omega arith)

set_headed : (p : PlanFacts) (bytes : List ℕ) (line i : ℕ) → i < group_length p.link
    → set_of p (Group i (line % 512 == 0)) bytes
    ≡ get_or (group_sets p.link.enhanced (plan_lanes p) (group_code (resets line))) i []
unfolding set_of resets
set_headed p bytes line i h = group_set p.link.enhanced (plan_lanes p) i (line % 512 == 0) h

set_identified : (p : PlanFacts) (bytes : List ℕ) (line i : ℕ)
    → set_of p (VbId i (not (is_active p line && is_active p (line + 1)))) bytes ≡ data_set (id_row p line i)
unfolding set_of id_row
set_identified p bytes line i = alike (plan_lanes p)
    (block_byte p.mode (not (is_active p line && is_active p (line + 1))) i)

-- the rows of the attributes, by their index
attribute_row : (p : PlanFacts) (k : ℕ) → k < 36 / plan_lanes p
    → get_or (attribute_rows p) k []
    ≡ map (λ lane. get_or (attributes_bytes p.mode p.link) (column_symbol p.link.lanes lane k) 0)
    (range_with_len 0 (plan_lanes p))
unfolding attribute_rows
attribute_row p k h =
    get_or-map-range_with_len
    (λ index. map (λ lane. get_or (attributes_bytes p.mode p.link) (column_symbol p.link.lanes lane index) 0)
    (range_with_len 0 (plan_lanes p)))
    0 (36 / plan_lanes p) k k [] h (omega arith)

rows_length : (p : PlanFacts) → length (attribute_rows p) ≡ 36 / plan_lanes p
unfolding attribute_rows
rows_length p =
    length-map-range_with_len
    (λ index. map (λ lane. get_or (attributes_bytes p.mode p.link) (column_symbol p.link.lanes lane index) 0)
    (range_with_len 0 (plan_lanes p)))
    0 (36 / plan_lanes p)

symbol_between : (p : PlanFacts) (k lane : ℕ) → k < 36 / plan_lanes p
    → attribute_symbol p (suc (suc k)) lane ≡ data_symbol
    (get_or (attributes_bytes p.mode p.link) (column_symbol p.link.lanes lane k) 0)
symbol_between p k lane h =
    let a : nat_lt (suc (suc k)) 2 ≡ false = grind arith in
    let b : suc (suc k) == 2 + 36 / plan_lanes p ≡ false = grind arith in
    let c : suc (suc k) - 2 ≡ k = omega arith in
    rw (a, b, c) refl

symbol_last : (p : PlanFacts) (k lane : ℕ) → k ≡ 36 / plan_lanes p
    → attribute_symbol p (suc (suc k)) lane ≡ control_symbol se
symbol_last p k lane h =
    let a : nat_lt (suc (suc k)) 2 ≡ false = grind arith in
    let b : suc (suc k) == 2 + 36 / plan_lanes p ≡ true = grind arith in
    rw (a, b) refl

set_attributed : (p : PlanFacts) (bytes : List ℕ) (i : ℕ) → i < attributes_length p
    → set_of p (Msa i) bytes ≡ get_or (attribute_sets p) i []
unfolding set_of
set_attributed p bytes zero h = constant_row (attribute_symbol p 0) (control_symbol ss) 0 (plan_lanes p) (λ lane. refl)
set_attributed p bytes (suc zero) h = constant_row (attribute_symbol p 1) (control_symbol ss) 0 (plan_lanes p)
    (λ lane. refl)
set_attributed p bytes (suc (suc k)) h = elim (cases_lt k (36 / plan_lanes p)) [
  | inl row ↦
      let n : length (map data_set (attribute_rows p)) ≡ 36 / plan_lanes p =
      length-map (attribute_rows p) data_set ∙ rows_length p in
      same (plan_lanes p) k row
      ∙ sym (get_or_append_left (map data_set (attribute_rows p)) (control_set (plan_lanes p) se ∷ []) [] k
      (omega arith)
      ∙ get_or-map data_set (attribute_rows p) k [] [] (omega (arith, rows_length p))
      ∙ ap data_set (attribute_row p k row)
      ∙ map_map data_symbol (λ lane. get_or (attributes_bytes p.mode p.link) (column_symbol p.link.lanes lane k) 0)
      (range_with_len 0 (plan_lanes p)))
  | inr last ↦
      let e : k ≡ 36 / plan_lanes p = omega arith in
      let n : length (map data_set (attribute_rows p)) ≡ k =
      length-map (attribute_rows p) data_set ∙ rows_length p ∙ sym e in
      constant_row (attribute_symbol p (suc (suc k))) (control_symbol se) 0 (plan_lanes p)
      (λ lane. symbol_last p k lane e)
      ∙ sym (get_or_at (map data_set (attribute_rows p)) (control_set (plan_lanes p) se) [] [] k n)
]
  where
    same : (n k : ℕ) → k < 36 / plan_lanes p
        → map (attribute_symbol p (suc (suc k))) (range_with_len 0 n)
        ≡ map (λ lane. data_symbol (get_or (attributes_bytes p.mode p.link) (column_symbol p.link.lanes lane k) 0))
        (range_with_len 0 n)
    same n k row =
        map_range_same (attribute_symbol p (suc (suc k)))
        (λ lane. data_symbol (get_or (attributes_bytes p.mode p.link) (column_symbol p.link.lanes lane k) 0)) 0 0 n
        (λ i l. symbol_between p k (0 + i) row)

-- ---- the table

pub is_table : (p : PlanFacts) (pixels : List Pixel) → IsPlan p → IsTable p pixels (set_at p pixels)
is_table p pixels plan = record {
  begun = λ line within active.
      ap (λ s. set_of p s (bytes_at p pixels (start (timing p) line - 1))) (slot_begun p line plan within active)
      ∙ set_begun p (bytes_at p pixels (start (timing p) line - 1));
  valid = λ line j within active h.
      ap (λ s. set_of p s (bytes_at p pixels (place (timing p) line j))) (slot_shown p line j plan within active h)
      ∙ set_shown p (bytes_at p pixels (place (timing p) line j))
      ∙ ap data_set (bytes_found p pixels line j plan within active h);
  stuffed = λ line k i within active h v l.
      ap (λ s. set_of p s (bytes_at p pixels (start (timing p) line + k * p.unit + i)))
      (slot_stuffed p line k i plan within active h v l)
      ∙ set_stuffed p (bytes_at p pixels (start (timing p) line + k * p.unit + i))
      (carried (timing p) (k + 1) - carried (timing p) k) i;
  headed = λ line i within h.
      let e : head_at p line + i ≡ header_start p line + i = ap (λ z. z + i) (head_is p line) in
      ap (set_at p pixels) e
      ∙ ap (λ s. set_of p s (bytes_at p pixels (header_start p line + i))) (slot_headed p line i plan within h)
      ∙ set_headed p (bytes_at p pixels (header_start p line + i)) line i h;
  identified = λ line i within h.
      let e : head_at p line + group_length p.link + i ≡ header_start p line + group_length p.link + i =
      ap (λ z. z + group_length p.link + i) (head_is p line) in
      ap (set_at p pixels) e
      ∙ ap (λ s. set_of p s (bytes_at p pixels (header_start p line + group_length p.link + i)))
      (slot_identified p line i plan within h)
      ∙ set_identified p (bytes_at p pixels (header_start p line + group_length p.link + i)) line i;
  attributed = λ line i within first h.
      let e : head_at p line + group_length p.link + 12 / plan_lanes p + i
      ≡ header_start p line + group_length p.link + block_length p.link + i =
      ap (λ z. z + group_length p.link + 12 / plan_lanes p + i) (head_is p line) in
      ap (set_at p pixels) e
      ∙ ap (λ s. set_of p s (bytes_at p pixels (header_start p line + group_length p.link + block_length p.link + i)))
      (slot_attributed p line i plan within first h)
      ∙ set_attributed p (bytes_at p pixels (header_start p line + group_length p.link + block_length p.link + i)) i h;
  filled = λ line t within low high.
      ap (λ s. set_of p s (bytes_at p pixels t)) (slot_filled p line t plan within low high)
      ∙ set_filled p (bytes_at p pixels t);
}

pub inverts : Inverts
unfolding head_at
inverts p pixels plan all =
    let within : head_at p 0 ≤ clocks p = omega (arith, first_clock p plan) in
    subst (λ xs. Rattle.dpx_grammar.specs.Accepted.Receives p.link.enhanced (plan_lanes p) xs (sent_frames p pixels) 0)
    (sym (drop_front (set_at p pixels) (head_at p 0) (clocks p) within))
    (inverts_table p pixels (set_at p pixels) plan all (is_table p pixels plan))

-- ---- the first SR

group_first : (enhanced : Bool) (lanes x : ℕ) → get_or (group_sets enhanced lanes x) 0 [] ≡ control_set lanes x
group_first true lanes x = refl
group_first false lanes x = refl

first_resets : resets 0 ≡ true
unfolding resets
first_resets = refl

pub starts_at_sr : StartsAtSr
unfolding head_at
starts_at_sr p pixels source = (
  λ t h.
      ap (λ s. set_of p s (bytes_at p pixels t)) (slot_early p t source h) ∙ set_filled p (bytes_at p pixels t),
  let some : 0 < lines p = omega (arith, mul-le-mul source.frames.0 source.mode.vtotal.0) in
      let z : head_at p 0 + 0 ≡ head_at p 0 = omega arith in
      let table : IsTable p pixels (set_at p pixels) = is_table p pixels source in
      ap (set_at p pixels) (sym z) ∙ table.headed 0 0 some (omega (arith, (headers p).0))
      ∙ group_first p.link.enhanced (plan_lanes p) (group_code (resets 0))
      ∙ ap (λ b. control_set (plan_lanes p) (group_code b)) first_resets,
)

pub starts_with_group : StartsWithGroup
unfolding head_at
starts_with_group p pixels source =
    let h : ℕ = head_at p 0 in
    let g : ℕ = group_length p.link in
    let some : 0 < lines p = omega (arith, mul-le-mul source.frames.0 source.mode.vtotal.0) in
    let room : head_at p 0 + group_length p.link + block_length p.link ≤ clocks p =
    omega (arith, lasts p 0 source some, head_is p 0) in
    let table : IsTable p pixels (set_at p pixels) = is_table p pixels source in (
      map (set_at p pixels) (range_with_len (h + g) (clocks p - h - g)),
      map_range_cut (set_at p pixels) 0 h (clocks p) h (clocks p - h) (omega arith) (omega arith)
          ∙ ap (λ xs. xs ++ map (set_at p pixels) (range_with_len h (clocks p - h)))
          (constant (set_at p pixels) 0 h (zero_row p)
          (λ i l. let z : 0 + i ≡ i = omega arith in rw z ((starts_at_sr p pixels source).0 i l)))
          ∙ ap (λ xs. map data_set (replicate h (zero_row p)) ++ xs)
          (map_range_cut (set_at p pixels) h g (clocks p - h) (h + g) (clocks p - h - g) (omega arith) refl
          ∙ ap (λ xs. xs ++ map (set_at p pixels) (range_with_len (h + g) (clocks p - h - g)))
          (head_sets p pixels (set_at p pixels) 0 table some
          ∙ ap (λ b. group_sets p.link.enhanced (plan_lanes p) (group_code b)) first_resets)),
    )
