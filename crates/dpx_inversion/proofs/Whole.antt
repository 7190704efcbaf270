-- The sets from the first header on are periods, and what they tell is what was sent.
use Rattle.std.proofs.Common.{ℕ, zero, suc, ◌+◌, ◌-◌, ◌*◌, ◌/◌, ◌<◌, ◌≤◌, ◌≡◌, ◌≢◌, ◌∙◌, Bool, true, false, List, []}
use Rattle.std.proofs.Common.{◌∷◌, ◌++◌, map, length, replicate, drop, refl, sym, ap, subst, arith, append_assoc}
use Rattle.std.specs.Prelude.{◌⊎◌, if◌then◌else◌, ◌==◌, not, ◌&&◌}
use Rattle.std.specs.List.{AllByRecursion, range_with_len, flat_map}
use Rattle.std.proofs.lemmas.List.{append-nil, length-replicate, drop_at}
use Rattle.std.proofs.Math.Nat.{mul-le-mul}
use Rattle.std.proofs.lemmas.List.FromFn.{length-map-range_with_len}
use Rattle.dpx_base.specs.declared.lanes.Lanes.{Lanes}
use Rattle.dpx_base.specs.declared.lanes.Lanes.TheVariants.{One, Two, Four}
use Rattle.dpx_base.specs.declared.pixel.Pixel.{Pixel}
use Rattle.dpx_base.specs.declared.sym.Sym.{Sym}
use Rattle.dpx_base.specs.Attributes.{attributes_bytes, column_symbol, block_byte}
use Rattle.dpx_base.specs.Lanes.{lanes_count}
use Rattle.dpx_base.specs.Mode.{ModeFacts}
use Rattle.dpx_base.specs.Packing.{line_byte}
use Rattle.dpx_base.specs.Plan.{group_length, PlanFacts, timing, lines, clocks, IsPlan}
use Rattle.dpx_base.specs.Sets.{line_of, line_bytes}
use Rattle.dpx_base.specs.Slots.{is_active, begins_frame}
use Rattle.dpx_grammar.specs.Parts.{Part, group, block, filler, valid, stuffing, sets_of, data_set, IsBlock, IsBlank}
use Rattle.dpx_grammar.specs.Parts.{MayBeActive, IsPeriod, StartsWithSr, ArePeriods, IsCut, AreRows}
use Rattle.dpx_grammar.specs.Accepted.{HasOneId, AreProgressive, copies, Receives, AreFrames, frame_parts, unfinished}
use Rattle.dpx_inversion.specs.Laws.{AreWhole, sent_frames}
use Rattle.dpx_inversion.specs.Source.{IsTable, plan_lanes, zero_row, resets, id_row, attribute_rows, head_at}
use Rattle.dpx_grammar.proofs.Lists.{map_range_cut, all_append, all_map_range, flat_map_append}
use Rattle.dpx_inversion.proofs.Quiet.{IsShown}
use Rattle.dpx_inversion.proofs.Actives.{shown_line, line_shown, line_active}
use Rattle.dpx_inversion.proofs.Plans.{apart}
use Rattle.dpx_inversion.proofs.Periods.{id_rows, blank_of, active_of, spare, period, period_sets, head_sets, id_sets}
use Rattle.dpx_inversion.proofs.Tolds.{from, all_finished, told_frame, told_frames}
use Rattle.dpx_inversion.proofs.Frames.{frames_are}

-- ---- rows have a byte for each lane

zero_length : (p : PlanFacts) → length (zero_row p) ≡ plan_lanes p
unfolding zero_row
zero_length p = length-replicate (plan_lanes p) 0

id_length : (p : PlanFacts) (line i : ℕ) → length (id_row p line i) ≡ plan_lanes p
unfolding id_row
id_length p line i = length-replicate (plan_lanes p)
    (block_byte p.mode (not (is_active p line && is_active p (line + 1))) i)

pub bytes_length : (p : PlanFacts) (pixels : List Pixel) (line j : ℕ)
    → length (line_bytes p pixels line j) ≡ plan_lanes p
bytes_length p pixels line j = length-map-range_with_len (λ lane. line_byte (line_of p pixels line) lane j) 0
    (plan_lanes p)

attributes_are : (p : PlanFacts) → AreRows (plan_lanes p) (attribute_rows p)
    × (length (attribute_rows p) ≡ 36 / plan_lanes p)
unfolding attribute_rows
attributes_are p =
    let row = λ (index : ℕ). map (λ lane. Rattle.std.specs.Prelude.get_or (attributes_bytes p.mode p.link)
    (column_symbol p.link.lanes lane index) 0) (range_with_len 0 (plan_lanes p)) in (
      all_map_range (λ row. length row ≡ plan_lanes p) row 0 (36 / plan_lanes p)
          (λ i l. length-map-range_with_len (λ lane. Rattle.std.specs.Prelude.get_or (attributes_bytes p.mode p.link)
          (column_symbol p.link.lanes lane (0 + i)) 0) 0 (plan_lanes p)),
      length-map-range_with_len row 0 (36 / plan_lanes p),
    )

-- ---- a period is one

id_block : (p : PlanFacts) (line : ℕ) → IsBlock (plan_lanes p) (block (id_rows p line))
unfolding id_rows
id_block p line = (
  all_map_range (λ row. length row ≡ plan_lanes p) (id_row p line) 0 (12 / plan_lanes p)
      (λ i l. id_length p line (0 + i)),
  length-map-range_with_len (id_row p line) 0 (12 / plan_lanes p),
)

fillers_blank : (p : PlanFacts) (n : ℕ) → AllByRecursion (IsBlank (plan_lanes p)) (replicate n (filler (zero_row p)))
fillers_blank p zero = tt
fillers_blank p (suc n) = (zero_length p, fillers_blank p n)

blank_is : (p : PlanFacts) (first : Bool) (n : ℕ) → AllByRecursion (IsBlank (plan_lanes p)) (blank_of p first n)
unfolding blank_of
blank_is p true n = (attributes_are p, fillers_blank p n)
blank_is p false n = fillers_blank p n

active_is : (p : PlanFacts) (pixels : List Pixel) (line : ℕ) (active : Bool)
    → MayBeActive (plan_lanes p) (active_of p pixels line active)
unfolding active_of
active_is p pixels line true = line_active (plan_lanes p) (timing p) (line_bytes p pixels line) (zero_row p)
    (bytes_length p pixels line) (zero_length p)
active_is p pixels line false = tt

period_is : (p : PlanFacts) (pixels : List Pixel) (line : ℕ) → IsPeriod (plan_lanes p) (period p pixels line)
unfolding period
period_is p pixels line = record {
  head = group (resets line);
  ids = block (id_rows p line);
  blank = blank_of p (begins_frame p line) (spare p line);
  active = active_of p pixels (line + 1) (is_active p (line + 1));
  joined = refl;
  is_group = tt;
  is_block = id_block p line;
  is_blank = blank_is p (begins_frame p line) (spare p line);
  may_be_active = active_is p pixels (line + 1) (is_active p (line + 1));
}

-- the periods from a line's header on, the last with one more filler
periods_from : PlanFacts → List Pixel → ℕ → ℕ → List (List Part)
periods_from p pixels a zero = (group (resets a) ∷ block (id_rows p a) ∷ filler (zero_row p) ∷ []) ∷ []
periods_from p pixels a (suc n) = period p pixels a ∷ periods_from p pixels (a + 1) n

last_is : (p : PlanFacts) (a : ℕ) → IsPeriod (plan_lanes p)
    (group (resets a) ∷ block (id_rows p a) ∷ filler (zero_row p) ∷ [])
last_is p a = record {
  head = group (resets a);
  ids = block (id_rows p a);
  blank = filler (zero_row p) ∷ [];
  active = [];
  joined = refl;
  is_group = tt;
  is_block = id_block p a;
  is_blank = (zero_length p, tt);
  may_be_active = tt;
}

periods_each : (p : PlanFacts) (pixels : List Pixel) (a n : ℕ)
    → AllByRecursion (IsPeriod (plan_lanes p)) (periods_from p pixels a n)
unfolding periods_from
periods_each p pixels a zero = (last_is p a, tt)
periods_each p pixels a (suc n) = (period_is p pixels a, periods_each p pixels (a + 1) n)

periods_joined : (p : PlanFacts) (pixels : List Pixel) (a n : ℕ)
    → from p pixels a n ++ filler (zero_row p) ∷ [] ≡ flat_map (λ period. period) (periods_from p pixels a n)
unfolding periods_from from
periods_joined p pixels a zero = refl
periods_joined p pixels a (suc n) =
    append_assoc (period p pixels a) (from p pixels (a + 1) n) (filler (zero_row p) ∷ [])
    ∙ ap (λ xs. period p pixels a ++ xs) (periods_joined p pixels (a + 1) n)

starts : (p : PlanFacts) (pixels : List Pixel) (n : ℕ) → StartsWithSr (from p pixels 0 n ++ filler (zero_row p) ∷ [])
unfolding from period resets
starts p pixels zero = refl
starts p pixels (suc n) = refl

are_periods : (p : PlanFacts) (pixels : List Pixel) (n : ℕ)
    → ArePeriods (plan_lanes p) (from p pixels 0 n ++ filler (zero_row p) ∷ [])
are_periods p pixels n = record {
  periods = periods_from p pixels 0 n;
  joined = periods_joined p pixels 0 n;
  each = periods_each p pixels 0 n;
  first = starts p pixels n;
}

-- ---- VB-ID

one_id_of : (lanes : Lanes) (m : ModeFacts) (blank : Bool)
    → AreProgressive (copies (map (λ i. replicate (lanes_count lanes) (block_byte m blank i))
    (range_with_len 0 (12 / lanes_count lanes))))
one_id_of One m true = (refl, (refl, (refl, (refl, tt))))
one_id_of One m false = (refl, (refl, (refl, (refl, tt))))
one_id_of Two m true = (refl, (refl, (refl, (refl, tt))))
one_id_of Two m false = (refl, (refl, (refl, (refl, tt))))
one_id_of Four m true = (refl, (refl, (refl, (refl, tt))))
one_id_of Four m false = (refl, (refl, (refl, (refl, tt))))

block_id : (p : PlanFacts) (line : ℕ) → HasOneId (block (id_rows p line))
unfolding id_rows id_row
block_id p line = one_id_of p.link.lanes p.mode (not (is_active p line && is_active p (line + 1)))

shown_id : (xs : List Part) → AllByRecursion IsShown xs → AllByRecursion HasOneId xs
shown_id [] h = tt
shown_id (valid row ∷ xs) h = (tt, shown_id xs h.1)
shown_id (stuffing rows ∷ xs) h = (tt, shown_id xs h.1)
shown_id (x ∷ xs) h = absurd h.0

fillers_id : (n : ℕ) (row : List ℕ) → AllByRecursion HasOneId (replicate n (filler row))
fillers_id zero row = tt
fillers_id (suc n) row = (tt, fillers_id n row)

blank_id : (p : PlanFacts) (first : Bool) (n : ℕ) → AllByRecursion HasOneId (blank_of p first n)
unfolding blank_of
blank_id p true n = (tt, fillers_id n (zero_row p))
blank_id p false n = fillers_id n (zero_row p)

active_id : (p : PlanFacts) (pixels : List Pixel) (line : ℕ) (active : Bool)
    → AllByRecursion HasOneId (active_of p pixels line active)
unfolding active_of
active_id p pixels line true = (
  tt,
  shown_id (shown_line (timing p) (line_bytes p pixels line) (zero_row p))
      (line_shown (timing p) (line_bytes p pixels line) (zero_row p)),
)
active_id p pixels line false = tt

from_id : (p : PlanFacts) (pixels : List Pixel) (a n : ℕ) → AllByRecursion HasOneId (from p pixels a n)
unfolding from period
from_id p pixels a zero = (tt, (block_id p a, tt))
from_id p pixels a (suc n) = (
  tt,
  (
    block_id p a,
    all_append HasOneId (blank_of p (begins_frame p a) (spare p a) ++ active_of p pixels (a + 1) (is_active p (a + 1)))
        (from p pixels (a + 1) n)
        (all_append HasOneId (blank_of p (begins_frame p a) (spare p a))
        (active_of p pixels (a + 1) (is_active p (a + 1)))
        (blank_id p (begins_frame p a) (spare p a)) (active_id p pixels (a + 1) (is_active p (a + 1))))
        (from_id p pixels (a + 1) n),
  ),
)

-- ---- the sets of the table are those of the parts

last_sets : (p : PlanFacts) (pixels : List Pixel) (at : ℕ → List Sym) (a : ℕ) → IsTable p pixels at → a < lines p
    → map at (range_with_len (head_at p a) (group_length p.link + 12 / plan_lanes p))
    ≡ flat_map (sets_of p.link.enhanced (plan_lanes p)) (from p pixels a 0)
unfolding from
last_sets p pixels at a table within =
    map_range_cut at (head_at p a) (group_length p.link) (group_length p.link + 12 / plan_lanes p)
    (head_at p a + group_length p.link) (12 / plan_lanes p) refl refl
    ∙ ap (λ xs. xs ++ map at (range_with_len (head_at p a + group_length p.link) (12 / plan_lanes p)))
    (head_sets p pixels at a table within)
    ∙ ap (λ xs. sets_of p.link.enhanced (plan_lanes p) (group (resets a)) ++ xs)
    (id_sets p pixels at a table within ∙ sym
    (append-nil (sets_of p.link.enhanced (plan_lanes p) (block (id_rows p a)))))

-- headers come in the order of their lines
pub heads_rise : (p : PlanFacts) (a n : ℕ) → IsPlan p → head_at p a ≤ head_at p (a + n)
heads_rise p a zero plan = let e : a + 0 ≡ a = omega arith in rw e (omega arith)
heads_rise p a (suc n) plan =
    let e : a + suc n ≡ a + n + 1 = omega arith in
    rw e (omega (arith, heads_rise p a n plan, apart p (a + n) plan))

from_sets : (p : PlanFacts) (pixels : List Pixel) (at : ℕ → List Sym) (a n : ℕ) → IsPlan p → IsTable p pixels at
    → a + n < lines p
    → map at (range_with_len (head_at p a) (head_at p (a + n) +
    (group_length p.link + 12 / plan_lanes p) - head_at p a))
    ≡ flat_map (sets_of p.link.enhanced (plan_lanes p)) (from p pixels a n)
unfolding from
from_sets p pixels at a zero plan table within =
    let z : a + 0 ≡ a = omega arith in
    let e : head_at p (a + 0) + (group_length p.link + 12 / plan_lanes p) - head_at p a
    ≡ group_length p.link + 12 / plan_lanes p = omega (arith, ap (head_at p) z) in
    ap (λ k. map at (range_with_len (head_at p a) k)) e ∙ last_sets p pixels at a table (omega arith)
from_sets p pixels at a (suc n) plan table within =
    let q : ℕ = group_length p.link + 12 / plan_lanes p in
    let e : a + suc n ≡ a + 1 + n = omega arith in
    let far : head_at p (a + suc n) ≡ head_at p (a + 1 + n) = ap (head_at p) e in
    let d : ℕ = head_at p (a + 1) - head_at p a in
    let sum : head_at p (a + suc n) + q - head_at p a ≡ d + (head_at p (a + 1 + n) + q - head_at p (a + 1)) =
    omega (arith, far, apart p a plan, heads_rise p (a + 1) n plan) in
    map_range_cut at (head_at p a) d (head_at p (a + suc n) + q - head_at p a) (head_at p (a + 1))
    (head_at p (a + 1 + n) + q - head_at p (a + 1)) sum
    (omega (arith, apart p a plan))
    ∙ ap (λ xs. xs ++ map at (range_with_len (head_at p (a + 1)) (head_at p (a + 1 + n) + q - head_at p (a + 1))))
    (period_sets p pixels at a plan table (omega arith))
    ∙ ap (λ xs. flat_map (sets_of p.link.enhanced (plan_lanes p)) (period p pixels a) ++ xs)
    (from_sets p pixels at (a + 1) n plan table (omega arith))
    ∙ sym (flat_map_append (sets_of p.link.enhanced (plan_lanes p)) (period p pixels a) (from p pixels (a + 1) n))

-- ---- the law

one_more : {X : Type 0} (x : X) → x ∷ [] ≢ []
one_more x = λ e. cc

last_head : (p : PlanFacts) (n : ℕ) → IsPlan p → lines p ≡ suc n
    → clocks p ≡ head_at p n + (group_length p.link + 12 / plan_lanes p)
unfolding clocks head_at
last_head p n plan e =
    let l : lines p - 1 ≡ n = omega arith in
    rw l (omega arith)

pub is_cut : (p : PlanFacts) (pixels : List Pixel) (at : ℕ → List Sym) (n : ℕ) → IsPlan p → IsTable p pixels at
    → lines p ≡ suc n
    → IsCut p.link.enhanced (plan_lanes p) (map at (range_with_len (head_at p 0) (clocks p - head_at p 0)))
    (from p pixels 0 n) (filler (zero_row p)) []
is_cut p pixels at n plan table e =
    let z : 0 + n ≡ n = omega arith in
    let k : clocks p - head_at p 0 ≡ head_at p (0 + n) + (group_length p.link + 12 / plan_lanes p) - head_at p 0 =
    ap (λ c. c - head_at p 0) (last_head p n plan e
    ∙ ap (λ m. head_at p m + (group_length p.link + 12 / plan_lanes p)) (sym z)) in
    record {
      back = data_set (zero_row p) ∷ [];
      more = [];
      joined =
          ap (λ m. map at (range_with_len (head_at p 0) m)) k
          ∙ from_sets p pixels at 0 n plan table (omega arith)
          ∙ sym (append-nil (flat_map (sets_of p.link.enhanced (plan_lanes p)) (from p pixels 0 n)));
      of_next = refl;
      unfinished = one_more (data_set (zero_row p));
      are_periods = are_periods p pixels n;
    }

receives : (p : PlanFacts) (pixels : List Pixel) (at : ℕ → List Sym) (n m : ℕ) → IsPlan p → AreWhole p pixels
    → IsTable p pixels at
    → lines p ≡ suc n → p.frames ≡ suc m
    → Receives p.link.enhanced (plan_lanes p) (map at (range_with_len (head_at p 0) (clocks p - head_at p 0)))
    (sent_frames p pixels) 0
receives p pixels at n m plan all table e f =
    let parts : List Part = from p pixels 0 n in
    let nil : parts ++ [] ≡ parts = append-nil parts in
    let zero_line : 0 ≡ 0 * p.mode.vtotal = omega arith in
    let count : n ≡ suc m * p.mode.vtotal - 1 = omega (arith, e, ap (λ z. z * p.mode.vtotal) f) in
    let told : frame_parts (from p pixels 0 n) ≡ map (told_frame p pixels) (range_with_len 0 (suc m)) =
    ap (λ k. frame_parts (from p pixels 0 k)) count
    ∙ ap (λ a. frame_parts (from p pixels a (suc m * p.mode.vtotal - 1))) zero_line
    ∙ told_frames p pixels 0 m plan in
    record {
      whole = parts;
      next = filler (zero_row p);
      front = [];
      cut = is_cut p pixels at n plan table e;
      one_id = subst (λ xs. AllByRecursion HasOneId xs) (sym nil) (from_id p pixels 0 n);
      are_frames = subst (λ ts. AreFrames (plan_lanes p) ts (sent_frames p pixels)) (sym (ap frame_parts nil ∙ told))
          (frames_are p pixels m plan all.in_range f);
      tail_is = sym (ap (λ xs. unfinished p.link.enhanced (plan_lanes p) xs 0) nil ∙ all_finished p pixels 0 n);
    }

-- whatever sets the table gives are accepted, and give back the frames
pub inverts_table : (p : PlanFacts) (pixels : List Pixel) (at : ℕ → List Sym) → IsPlan p → AreWhole p pixels
    → IsTable p pixels at
    → Receives p.link.enhanced (plan_lanes p) (map at (range_with_len (head_at p 0) (clocks p - head_at p 0)))
    (sent_frames p pixels) 0
inverts_table p pixels at plan all table =
    let some : 1 ≤ lines p = omega (arith, mul-le-mul plan.frames.0 plan.mode.vtotal.0) in
    receives p pixels at (lines p - 1) (p.frames - 1) plan all table (omega arith) (omega (arith, plan.frames.0))

pub drop_front : {X : Type 0} (f : ℕ → X) (h n : ℕ) → h ≤ n
    → drop h (map f (range_with_len 0 n)) ≡ map f (range_with_len h (n - h))
drop_front f h n l =
    ap (drop h) (map_range_cut f 0 h n h (n - h) (omega arith) (omega arith))
    ∙ drop_at (map f (range_with_len 0 h)) (map f (range_with_len h (n - h))) h (length-map-range_with_len f 0 h)
