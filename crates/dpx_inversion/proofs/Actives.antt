-- An active part, from its BE to its last symbol.
use Rattle.std.proofs.Common.{ℕ, zero, suc, ◌+◌, ◌-◌, ◌*◌, ◌<◌, ◌≤◌, ◌≡◌, ◌∙◌, true, false, List, [], ◌++◌, map, length}
use Rattle.std.proofs.Common.{replicate, Some, None, refl, sym, ap, arith}
use Rattle.std.specs.Prelude.{◌==◌}
use Rattle.std.specs.List.{AllByRecursion, range_with_len, flat_map}
use Rattle.std.proofs.lemmas.List.{append-nil}
use Rattle.dpx_base.specs.declared.sym.Sym.{Sym}
use Rattle.dpx_base.specs.Plan.{PlanFacts, timing}
use Rattle.dpx_base.specs.Symbols.{be, fs, fe}
use Rattle.dpx_base.specs.Timing.{Timing, IsPossible, IsFit, symbols, carried, place, start, last_unit, line_end}
use Rattle.dpx_timing.proofs.Units.{carried_rises, carried_all, carried_flow, flow_below, unit_holds}
use Rattle.dpx_timing.proofs.Floors.{m_pos}
use Rattle.dpx_timing.proofs.Lines.{last_unit_ends}
use Rattle.dpx_timing.proofs.Slots.{place_at, end_in_last}
use Rattle.dpx_grammar.specs.Parts.{Part, valid, stuffing, sets_of, data_set, control_set, IsActive}
use Rattle.dpx_inversion.specs.Source.{plan_lanes, zero_row, stuffing_set}
use Rattle.dpx_grammar.specs.Accepted.{valid_rows}
use Rattle.dpx_grammar.proofs.Lists.{map_range_cut, map_range_same, flat_map_append, all_append}
use Rattle.dpx_inversion.proofs.Quiet.{IsShown, rows_shown}
use Rattle.dpx_inversion.proofs.Filled.{shown, shown_sets, shown_are, shown_rows, shown_active, shown_all, stuffing_of}
use Rattle.dpx_inversion.proofs.Filled.{stuffing_all, stuffing_are, stuffing_rows, stuffing_active, stuffing_sets}
use Rattle.dpx_inversion.proofs.Filled.{Stuffs}

-- the symbols of unit k
-- how many
share : Timing → ℕ → ℕ
share r k = carried r (k + 1) - carried r k

shared : (r : Timing) (k : ℕ) → carried r k ≤ carried r (k + 1) → carried r k + share r k ≡ carried r (k + 1)
unfolding share
shared r k h = omega arith

unit_part : Timing → (ℕ → List ℕ) → List ℕ → ℕ → List Part
unit_part r row empty k = shown row (carried r k) (share r k) ++ stuffing_of empty (r.unit - share r k)

units : Timing → (ℕ → List ℕ) → List ℕ → ℕ → List Part
units r row empty zero = []
units r row empty (suc k) = units r row empty k ++ unit_part r row empty k

-- what stands behind the BE of a line
pub shown_line : Timing → (ℕ → List ℕ) → List ℕ → List Part
shown_line r row empty =
    units r row empty (last_unit r) ++ shown row (carried r (last_unit r)) (symbols r - carried r (last_unit r))

unit_is : (r : Timing) (row : ℕ → List ℕ) (empty : List ℕ) (k : ℕ) → AllByRecursion IsShown (unit_part r row empty k)
unfolding unit_part
unit_is r row empty k =
    all_append IsShown (shown row (carried r k) (share r k)) (stuffing_of empty (r.unit - share r k))
    (shown_are row (carried r k) (share r k)) (stuffing_are empty (r.unit - share r k))

units_are : (r : Timing) (row : ℕ → List ℕ) (empty : List ℕ) (k : ℕ) → AllByRecursion IsShown (units r row empty k)
unfolding units
units_are r row empty zero = tt
units_are r row empty (suc k) = all_append IsShown (units r row empty k) (unit_part r row empty k)
    (units_are r row empty k) (unit_is r row empty k)

pub line_shown : (r : Timing) (row : ℕ → List ℕ) (empty : List ℕ) → AllByRecursion IsShown (shown_line r row empty)
unfolding shown_line
line_shown r row empty =
    all_append IsShown (units r row empty (last_unit r))
    (shown row (carried r (last_unit r)) (symbols r - carried r (last_unit r)))
    (units_are r row empty (last_unit r)) (shown_are row (carried r (last_unit r))
    (symbols r - carried r (last_unit r)))

-- ---- the rows in order

none_carried : (r : Timing) → IsPossible r → carried r 0 ≡ 0
none_carried r possible = omega (arith, carried_flow r 0, flow_below r 0 1 possible (omega (arith, m_pos r possible)))

unit_rows : (r : Timing) (row : ℕ → List ℕ) (empty : List ℕ) (k : ℕ)
    → valid_rows (unit_part r row empty k) ≡ map row (range_with_len (carried r k) (share r k))
unfolding unit_part
unit_rows r row empty k =
    rows_shown (shown row (carried r k) (share r k)) (stuffing_of empty (r.unit - share r k))
    (shown_are row (carried r k) (share r k))
    ∙ ap (λ xs. valid_rows (shown row (carried r k) (share r k)) ++ xs) (stuffing_rows empty (r.unit - share r k))
    ∙ append-nil (valid_rows (shown row (carried r k) (share r k)))
    ∙ shown_rows row (carried r k) (share r k)

units_rows : (r : Timing) (row : ℕ → List ℕ) (empty : List ℕ) (k : ℕ) → IsPossible r
    → valid_rows (units r row empty k) ≡ map row (range_with_len 0 (carried r k))
unfolding units share
units_rows r row empty zero possible = ap (λ n. map row (range_with_len 0 n)) (sym (none_carried r possible))
units_rows r row empty (suc k) possible =
    let e : suc k ≡ k + 1 = omega arith in
    rows_shown (units r row empty k) (unit_part r row empty k) (units_are r row empty k)
    ∙ ap (λ xs. xs ++ valid_rows (unit_part r row empty k)) (units_rows r row empty k possible)
    ∙ ap (λ xs. map row (range_with_len 0 (carried r k)) ++ xs) (unit_rows r row empty k)
    ∙ sym (map_range_cut row 0 (carried r k) (carried r (k + 1)) (carried r k) (share r k)
    (omega (arith, carried_rises r k (k + 1) possible (omega arith))) (omega arith))
    ∙ ap (λ n. map row (range_with_len 0 (carried r n))) (sym e)

pub line_rows : (r : Timing) (row : ℕ → List ℕ) (empty : List ℕ) → IsPossible r
    → valid_rows (shown_line r row empty) ≡ map row (range_with_len 0 (symbols r))
unfolding shown_line
line_rows r row empty possible =
    rows_shown (units r row empty (last_unit r))
    (shown row (carried r (last_unit r)) (symbols r - carried r (last_unit r)))
    (units_are r row empty (last_unit r))
    ∙ ap (λ xs. xs ++ valid_rows (shown row (carried r (last_unit r)) (symbols r - carried r (last_unit r))))
    (units_rows r row empty (last_unit r) possible)
    ∙ ap (λ xs. map row (range_with_len 0 (carried r (last_unit r))) ++ xs)
    (shown_rows row (carried r (last_unit r)) (symbols r - carried r (last_unit r)))
    ∙ sym (map_range_cut row 0 (carried r (last_unit r)) (symbols r) (carried r (last_unit r))
    (symbols r - carried r (last_unit r))
    (omega (arith, carried_all r (last_unit r))) (omega arith))

-- ---- they are in the grammar

units_active : (lanes : ℕ) (r : Timing) (row : ℕ → List ℕ) (empty : List ℕ) (k : ℕ) → ((j : ℕ) → length (row j) ≡ lanes)
    → length empty ≡ lanes
    → AllByRecursion (IsActive lanes) (units r row empty k)
unfolding units unit_part
units_active lanes r row empty zero h e = tt
units_active lanes r row empty (suc k) h e =
    all_append (IsActive lanes) (units r row empty k) (unit_part r row empty k) (units_active lanes r row empty k h e)
    (all_append (IsActive lanes) (shown row (carried r k) (share r k)) (stuffing_of empty (r.unit - share r k))
    (shown_active lanes row (carried r k) (share r k) h) (stuffing_active lanes empty (r.unit - share r k) e))

pub line_active : (lanes : ℕ) (r : Timing) (row : ℕ → List ℕ) (empty : List ℕ) → ((j : ℕ) → length (row j) ≡ lanes)
    → length empty ≡ lanes
    → AllByRecursion (IsActive lanes) (shown_line r row empty)
unfolding shown_line
line_active lanes r row empty h e =
    all_append (IsActive lanes) (units r row empty (last_unit r))
    (shown row (carried r (last_unit r)) (symbols r - carried r (last_unit r)))
    (units_active lanes r row empty (last_unit r) h e)
    (shown_active lanes row (carried r (last_unit r)) (symbols r - carried r (last_unit r)) h)

-- ---- what holds of each kind holds of all

units_all : (P : Part → Type 0) (r : Timing) (row : ℕ → List ℕ) (empty : List ℕ) (k : ℕ) → ((j : ℕ) → P (valid (row j)))
    → P (stuffing None)
    → ((n : ℕ) → P (stuffing (Some (replicate n empty)))) → AllByRecursion P (units r row empty k)
unfolding units unit_part
units_all P r row empty zero v one more = tt
units_all P r row empty (suc k) v one more =
    all_append P (units r row empty k) (unit_part r row empty k) (units_all P r row empty k v one more)
    (all_append P (shown row (carried r k) (share r k)) (stuffing_of empty (r.unit - share r k))
    (shown_all P row (carried r k) (share r k) v) (stuffing_all P empty (r.unit - share r k) one more))

pub line_all : (P : Part → Type 0) (r : Timing) (row : ℕ → List ℕ) (empty : List ℕ) → ((j : ℕ) → P (valid (row j)))
    → P (stuffing None)
    → ((n : ℕ) → P (stuffing (Some (replicate n empty)))) → AllByRecursion P (shown_line r row empty)
unfolding shown_line
line_all P r row empty v one more =
    all_append P (units r row empty (last_unit r))
    (shown row (carried r (last_unit r)) (symbols r - carried r (last_unit r)))
    (units_all P r row empty (last_unit r) v one more)
    (shown_all P row (carried r (last_unit r)) (symbols r - carried r (last_unit r)) v)

-- ---- their sets are those of the table

set_last : (p : PlanFacts) (v i : ℕ) → i + 1 ≡ p.unit → stuffing_set p v i ≡ control_set (plan_lanes p) fe
unfolding stuffing_set
set_last p v i h = let t : i + 1 == p.unit ≡ true = grind arith in rw t refl

set_first : (p : PlanFacts) (v : ℕ) → v + 1 < p.unit → stuffing_set p v v ≡ control_set (plan_lanes p) fs
unfolding stuffing_set
set_first p v h =
    let t : v + 1 == p.unit ≡ false = grind arith in
    let u : v == v ≡ true = grind arith in
    rw (t, u) refl

set_middle : (p : PlanFacts) (v i : ℕ) → v < i → i + 1 < p.unit → stuffing_set p v i ≡ data_set (zero_row p)
unfolding stuffing_set
set_middle p v i l h =
    let t : i + 1 == p.unit ≡ false = grind arith in
    let u : i == v ≡ false = grind arith in
    rw (t, u) refl

-- the table of one line
pub record IsLine (p : PlanFacts) (row : ℕ → List ℕ) (at : ℕ → List Sym) (line : ℕ) : Type 0 where
  pub begun : at (start (timing p) line - 1) ≡ control_set (plan_lanes p) be
  pub valid : (j : ℕ) → j < symbols (timing p) → at (place (timing p) line j) ≡ data_set (row j)
  pub stuffed : (k i : ℕ) → k < last_unit (timing p)
      → carried (timing p) (k + 1) ≤ carried (timing p) k + i → i < p.unit
      → at (start (timing p) line + k * p.unit + i)
      ≡ stuffing_set p (carried (timing p) (k + 1) - carried (timing p) k) i

shown_at : (p : PlanFacts) (row : ℕ → List ℕ) (at : ℕ → List Sym) (line k n : ℕ) → IsPossible (timing p)
    → IsLine p row at line
    → carried (timing p) k + n ≤ carried (timing p) (k + 1)
    → map at (range_with_len (start (timing p) line + k * p.unit) n)
    ≡ flat_map (sets_of p.link.enhanced (plan_lanes p)) (shown row (carried (timing p) k) n)
shown_at p row at line k n possible is room =
    map_range_same at (λ j. data_set (row j)) (start (timing p) line + k * p.unit) (carried (timing p) k) n
    (λ i l.
    ap at (sym (place_at (timing p) line k i possible (omega arith)))
    ∙ is.valid (carried (timing p) k + i) (omega (arith, carried_all (timing p) (k + 1))))
    ∙ sym (shown_sets p.link.enhanced (plan_lanes p) row (carried (timing p) k) n)

stuffed_at : (p : PlanFacts) (row : ℕ → List ℕ) (at : ℕ → List Sym) (line k : ℕ) → IsPossible (timing p)
    → IsFit (timing p) → IsLine p row at line
    → k < last_unit (timing p)
    → Stuffs (plan_lanes p) (zero_row p) at (start (timing p) line + k * p.unit + share (timing p) k)
    (p.unit - share (timing p) k)
unfolding share
stuffed_at p row at line k possible fit is in_line =
    let s : ℕ = start (timing p) line + k * p.unit in
    let v : ℕ = carried (timing p) (k + 1) - carried (timing p) k in
    let up : carried (timing p) k ≤ carried (timing p) (k + 1) =
    carried_rises (timing p) k (k + 1) possible (omega arith) in
    let most : v ≤ p.unit = omega (arith, unit_holds (timing p) k possible fit) in
    record {
      last = λ some.
          let e : s + v + (p.unit - v) - 1 ≡ s + (p.unit - 1) = omega arith in
          ap at e ∙ is.stuffed k (p.unit - 1) in_line (omega arith) (omega arith)
          ∙ set_last p v (p.unit - 1) (omega arith);
      first = λ some. is.stuffed k v in_line (omega arith) (omega arith) ∙ set_first p v (omega arith);
      middle = λ i from to.
          let e : s + v + i ≡ s + (v + i) = omega arith in
          ap at e ∙ is.stuffed k (v + i) in_line (omega arith) (omega arith)
          ∙ set_middle p v (v + i) (omega arith) (omega arith);
    }

unit_at : (p : PlanFacts) (row : ℕ → List ℕ) (at : ℕ → List Sym) (line k : ℕ) → IsPossible (timing p) → IsFit (timing p)
    → IsLine p row at line
    → k < last_unit (timing p)
    → map at (range_with_len (start (timing p) line + k * p.unit) p.unit)
    ≡ flat_map (sets_of p.link.enhanced (plan_lanes p)) (unit_part (timing p) row (zero_row p) k)
unfolding unit_part
unit_at p row at line k possible fit is in_line =
    let s : ℕ = start (timing p) line + k * p.unit in
    let v : ℕ = share (timing p) k in
    let up : carried (timing p) k ≤ carried (timing p) (k + 1) =
    carried_rises (timing p) k (k + 1) possible (omega arith) in
    let share_is : carried (timing p) k + v ≡ carried (timing p) (k + 1) = shared (timing p) k up in
    let most : v ≤ p.unit = omega (arith, unit_holds (timing p) k possible fit) in
    map_range_cut at s v p.unit (s + v) (p.unit - v) (omega arith) refl
    ∙ ap (λ xs. xs ++ map at (range_with_len (s + v) (p.unit - v)))
    (shown_at p row at line k v possible is (omega arith))
    ∙ ap (λ xs. flat_map (sets_of p.link.enhanced (plan_lanes p)) (shown row (carried (timing p) k) v) ++ xs)
    (stuffing_sets p.link.enhanced (plan_lanes p) (zero_row p) at (s + v) (p.unit - v)
    (stuffed_at p row at line k possible fit is in_line))
    ∙ sym (flat_map_append (sets_of p.link.enhanced (plan_lanes p)) (shown row (carried (timing p) k) v)
    (stuffing_of (zero_row p) (p.unit - v)))

units_at : (p : PlanFacts) (row : ℕ → List ℕ) (at : ℕ → List Sym) (line k : ℕ) → IsPossible (timing p)
    → IsFit (timing p) → IsLine p row at line
    → k ≤ last_unit (timing p)
    → map at (range_with_len (start (timing p) line) (k * p.unit))
    ≡ flat_map (sets_of p.link.enhanced (plan_lanes p)) (units (timing p) row (zero_row p) k)
unfolding units
units_at p row at line zero possible fit is in_line = let e : 0 * p.unit ≡ 0 = omega arith in rw e refl
units_at p row at line (suc k) possible fit is in_line =
    let e : suc k * p.unit ≡ k * p.unit + p.unit = omega arith in
    map_range_cut at (start (timing p) line) (k * p.unit) (suc k * p.unit)
    (start (timing p) line + k * p.unit) p.unit e refl
    ∙ ap (λ xs. xs ++ map at (range_with_len (start (timing p) line + k * p.unit) p.unit))
    (units_at p row at line k possible fit is (omega arith))
    ∙ ap (λ xs. flat_map (sets_of p.link.enhanced (plan_lanes p)) (units (timing p) row (zero_row p) k) ++ xs)
    (unit_at p row at line k possible fit is (omega arith))
    ∙ sym (flat_map_append (sets_of p.link.enhanced (plan_lanes p)) (units (timing p) row (zero_row p) k)
    (unit_part (timing p) row (zero_row p) k))

pub line_at : (p : PlanFacts) (row : ℕ → List ℕ) (at : ℕ → List Sym) (line : ℕ) → IsPossible (timing p)
    → IsFit (timing p) → IsLine p row at line
    → map at (range_with_len (start (timing p) line) (line_end (timing p)))
    ≡ flat_map (sets_of p.link.enhanced (plan_lanes p)) (shown_line (timing p) row (zero_row p))
unfolding shown_line
line_at p row at line possible fit is =
    let r : Timing = timing p in
    let k : ℕ = last_unit (timing p) in
    let rest : ℕ = symbols (timing p) - carried (timing p) (last_unit (timing p)) in
    let e : line_end (timing p) ≡ last_unit (timing p) * p.unit + rest = (end_in_last (timing p) possible fit).1 in
    let room : carried (timing p) k + rest ≤ carried (timing p) (k + 1) =
    omega (arith, last_unit_ends (timing p) possible, carried_all (timing p) k) in
    map_range_cut at (start (timing p) line) (k * p.unit) (line_end (timing p))
    (start (timing p) line + k * p.unit) rest e refl
    ∙ ap (λ xs. xs ++ map at (range_with_len (start (timing p) line + k * p.unit) rest))
    (units_at p row at line k possible fit is (omega arith))
    ∙ ap (λ xs. flat_map (sets_of p.link.enhanced (plan_lanes p)) (units (timing p) row (zero_row p) k) ++ xs)
    (shown_at p row at line k rest possible is room)
    ∙ sym (flat_map_append (sets_of p.link.enhanced (plan_lanes p)) (units (timing p) row (zero_row p) k)
    (shown row (carried (timing p) k) rest))
