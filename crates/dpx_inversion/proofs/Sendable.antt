-- A source's symbols can be sent.
use Rattle.std.proofs.Common.{ℕ, zero, suc, ◌+◌, ◌-◌, ◌≤◌, ◌≡◌, ◌∙◌, Bool, true, false, List}
use Rattle.std.proofs.Common.{◌++◌, map, replicate, sym, ap, subst, arith}
use Rattle.std.specs.List.{AllByRecursion, range_with_len, flat_map}
use Rattle.std.proofs.lemmas.List.{append-nil}
use Rattle.std.proofs.Math.Nat.{mul-le-mul}
use Rattle.dpx_base.specs.declared.pixel.Pixel.{Pixel}
use Rattle.dpx_base.specs.declared.sym.Sym.{Sym}
use Rattle.dpx_base.specs.Plan.{PlanFacts, IsPlan, timing, lines, clocks}
use Rattle.dpx_base.specs.Sets.{line_bytes, set_at, sets}
use Rattle.dpx_base.specs.Slots.{is_active, begins_frame}
use Rattle.dpx_grammar.specs.Parts.{filler, sets_of}
use Rattle.dpx_grammar.specs.Parts.{data_set}
use Rattle.dpx_inversion.specs.Laws.{IsSet, SetsCanBeSent}
use Rattle.dpx_inversion.specs.Source.{plan_lanes, zero_row, head_at, IsTable}
use Rattle.dpx_grammar.proofs.Lists.{map_range_cut, all_append}
use Rattle.dpx_inversion.proofs.Filled.{constant}
use Rattle.dpx_inversion.proofs.Actives.{line_all}
use Rattle.dpx_inversion.proofs.Periods.{blank_of, active_of, spare, period}
use Rattle.dpx_inversion.proofs.Tolds.{from}
use Rattle.dpx_inversion.proofs.Whole.{is_cut}
use Rattle.dpx_inversion.proofs.Table.{first_clock}
use Rattle.dpx_inversion.proofs.Given.{is_table, starts_at_sr}
use Rattle.dpx_inversion.proofs.Small.{Small, SmallPart, rows_sent, all_alike, parts_sent, zero_small, id_small}
use Rattle.dpx_inversion.proofs.Small.{attributes_small, line_row_small}

-- ---- a source's parts

fillers_small : (p : PlanFacts) (n : ℕ) → AllByRecursion (SmallPart (plan_lanes p)) (replicate n (filler (zero_row p)))
fillers_small p n = all_alike (SmallPart (plan_lanes p)) n (filler (zero_row p)) (zero_small p)

blank_small : (p : PlanFacts) (first : Bool) (n : ℕ) → IsPlan p
    → AllByRecursion (SmallPart (plan_lanes p)) (blank_of p first n)
unfolding blank_of
blank_small p true n plan = (attributes_small p plan, fillers_small p n)
blank_small p false n plan = fillers_small p n

active_small : (p : PlanFacts) (pixels : List Pixel) (line : ℕ) (active : Bool)
    → AllByRecursion (SmallPart (plan_lanes p)) (active_of p pixels line active)
unfolding active_of
active_small p pixels line true = (
  tt,
  line_all (SmallPart (plan_lanes p)) (timing p) (line_bytes p pixels line) (zero_row p)
      (line_row_small p pixels line) tt
      (λ n. all_alike (Small (plan_lanes p)) n (zero_row p) (zero_small p)),
)
active_small p pixels line false = tt

from_small : (p : PlanFacts) (pixels : List Pixel) (a n : ℕ) → IsPlan p
    → AllByRecursion (SmallPart (plan_lanes p)) (from p pixels a n)
unfolding from period
from_small p pixels a zero plan = (tt, (id_small p a, tt))
from_small p pixels a (suc n) plan = (
  tt,
  (
    id_small p a,
    all_append (SmallPart (plan_lanes p)) (blank_of p (begins_frame p a) (spare p a) ++ active_of p pixels (a + 1)
        (is_active p (a + 1))) (from p pixels (a + 1) n)
        (all_append (SmallPart (plan_lanes p)) (blank_of p (begins_frame p a) (spare p a))
        (active_of p pixels (a + 1) (is_active p (a + 1)))
        (blank_small p (begins_frame p a) (spare p a) plan) (active_small p pixels (a + 1) (is_active p (a + 1))))
        (from_small p pixels (a + 1) n plan),
  ),
)

-- ---- all its sets

pub sets_can_be_sent : SetsCanBeSent
unfolding head_at
sets_can_be_sent p pixels plan =
    let at : ℕ → List Sym = set_at p pixels in
    let h : ℕ = head_at p 0 in
    let n : ℕ = lines p - 1 in
    let some : 1 ≤ lines p = omega (arith, mul-le-mul plan.frames.0 plan.mode.vtotal.0) in
    let table : IsTable p pixels (set_at p pixels) = is_table p pixels plan in
    let before : map (set_at p pixels) (range_with_len 0 h) ≡ map data_set (replicate h (zero_row p)) =
    constant (set_at p pixels) 0 h (zero_row p)
    (λ i l. let z : 0 + i ≡ i = omega arith in rw z ((starts_at_sr p pixels plan).0 i l)) in
    let behind : map (set_at p pixels) (range_with_len h (clocks p - h))
    ≡ flat_map (sets_of p.link.enhanced (plan_lanes p)) (from p pixels 0 n) =
    (is_cut p pixels (set_at p pixels) n plan table (omega arith)).joined
    ∙ append-nil (flat_map (sets_of p.link.enhanced (plan_lanes p)) (from p pixels 0 n)) in
    let all : sets p pixels ≡ map data_set (replicate h (zero_row p)) ++ flat_map
    (sets_of p.link.enhanced (plan_lanes p)) (from p pixels 0 n) =
    map_range_cut (set_at p pixels) 0 h (clocks p) h (clocks p - h) (omega (arith, first_clock p plan)) (omega arith)
    ∙ ap (λ xs. xs ++ map (set_at p pixels) (range_with_len h (clocks p - h))) before
    ∙ ap (λ xs. map data_set (replicate h (zero_row p)) ++ xs) behind in
    subst (λ xs. AllByRecursion (IsSet (plan_lanes p)) xs) (sym all)
    (all_append (IsSet (plan_lanes p)) (map data_set (replicate h (zero_row p)))
    (flat_map (sets_of p.link.enhanced (plan_lanes p)) (from p pixels 0 n))
    (rows_sent (plan_lanes p) (replicate h (zero_row p))
    (all_alike (Small (plan_lanes p)) h (zero_row p) (zero_small p)))
    (parts_sent p.link.enhanced (plan_lanes p) (from p pixels 0 n) (from_small p pixels 0 n plan)))
