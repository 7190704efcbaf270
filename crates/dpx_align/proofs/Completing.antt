-- The clock at which a set is complete.
use Rattle.std.proofs.Common.{◌≡◌, ℕ, zero, suc, ◌<◌, ◌≤◌, ◌+◌, ◌-◌, inl, inr, List, [], length, take}
use Rattle.std.proofs.Common.{refl, sym, ap, subst, ◌∙◌, arith}
use Rattle.std.specs.Prelude.{slice_index_or, slice_get}
use Rattle.std.proofs.lemmas.Bool.{cases_lt}
use Rattle.std.proofs.lemmas.List.{ext_get_or, get_or-map, length-map, length-take}
use Rattle.std.proofs.lemmas.Option.{slice_get_within, same_Some}
use Rattle.dpx_base.specs.Words.{fill, words_of}
use Rattle.dpx_base.specs.declared.sym.Sym.{Sym}
use Rattle.dpx_align.specs.Faults.{Symbols, cut}
use Rattle.dpx_align.specs.Laws.{SetsAreOne, CompletesOnce, SetsComeFirst}
use Rattle.dpx_align.specs.Lock.{sr_group, lane_of, FirstFrom, SetOf, CompleteAt}
use Rattle.dpx_align.proofs.LaneSymbols.{symbols_length}
use Rattle.dpx_align.proofs.Once.{lock_once, first_once}

-- of the first n lanes, the one whose group starts last
record Latest (group : List Sym) (plain : List (List Sym)) (at n : ℕ) : Type 0 where
  last : ℕ
  within : last < length plain
  start : ℕ
  starts : FirstFrom group (lane_of plain last) at start
  latest : (lane other : ℕ) → lane < n → FirstFrom group (lane_of plain lane) at other → other ≤ start

-- what is known of n lanes' starts, and the next lane's, bounds the starts of n + 1
bounds : (group : List Sym) (plain : List (List Sym)) (at n g bound : ℕ) → FirstFrom group (lane_of plain n) at g
    → g ≤ bound
    → ((lane other : ℕ) → lane < n → FirstFrom group (lane_of plain lane) at other → other ≤ bound)
    → (lane other : ℕ) → lane < suc n → FirstFrom group (lane_of plain lane) at other → other ≤ bound
bounds group plain at n g bound f l before lane other k h =
    elim (cases_lt lane n) [
      | inl b ↦ before lane other b h
      | inr b ↦
          let e : lane ≡ n = omega (arith, k, b) in
          let same = subst (λ (x : ℕ). FirstFrom group (lane_of plain x) at other) e h in
          omega (arith, l, first_once group (lane_of plain n) at other g same f)
    ]

later : (group : List Sym) (plain : List (List Sym)) (at n g : ℕ) → n < length plain
    → FirstFrom group (lane_of plain n) at g → Latest group plain at n → Latest group plain at (suc n)
later group plain at n g l f r = elim (cases_lt r.start g) [
  | inl less ↦ record {
    last = n;
    within = l;
    start = g;
    starts = f;
    latest = bounds group plain at n g g f (omega arith)
        (λ lane other k h. omega (arith, less, r.latest lane other k h));
  }
  | inr not_less ↦ record {
    last = r.last;
    within = r.within;
    start = r.start;
    starts = r.starts;
    latest = bounds group plain at n g r.start f not_less r.latest;
  }
]

latest_of : (group : List Sym) (plain : List (List Sym)) (at n : ℕ)
    → ((j : ℕ) → j < length plain → (g : ℕ) × FirstFrom group (lane_of plain j) at g) → n < length plain
    → Latest group plain at (suc n)
latest_of group plain at zero starts l =
    let f = starts 0 l in
    record {
      last = 0;
      within = l;
      start = f.0;
      starts = f.1;
      latest = bounds group plain at 0 f.0 f.0 f.1 (omega arith) (λ lane other k h. absurd (omega (arith, k)));
    }
latest_of group plain at (suc n) starts l =
    let f = starts (suc n) l in
    later group plain at (suc n) f.0 l f.1 (latest_of group plain at n starts (omega arith))

-- the last lane's start, where each lane has one
latest_in : (group : List Sym) (plain : List (List Sym)) (at : ℕ) → 0 < length plain
    → ((j : ℕ) → j < length plain → (g : ℕ) × FirstFrom group (lane_of plain j) at g)
    → Latest group plain at (length plain)
latest_in group plain at some starts =
    let e : suc (length plain - 1) ≡ length plain = omega (arith, some) in
    subst (λ (n : ℕ). Latest group plain at n) e
    (latest_of group plain at (length plain - 1) starts (omega (arith, some)))

-- each lane's symbol of a set stands before the end of the lane
last_within : (group : List Sym) (plain : List (List Sym)) (s : ℕ) (set : List Sym) (k : SetOf group plain s set)
    (j start : ℕ) → j < length plain → FirstFrom group (lane_of plain j) k.at start
    → start + s < length (lane_of plain j)
last_within group plain s set k j start l f =
    let o = k.symbols j fill l in
    let e : o.start ≡ start = first_once group (lane_of plain j) k.at o.start start o.starts f in
    let b = slice_get_within (lane_of plain j) (o.start + s) (slice_index_or set j fill) o.there in
    omega (arith, b, e)

completed : (group : List Sym) (plain : List (List Sym)) (s : ℕ) (set : List Sym) → 0 < length plain
    → (k : SetOf group plain s set) → (last : ℕ) × (own : ℕ) × (last < length plain)
    × (own < length (lane_of plain last)) × CompleteAt group plain s own
completed group plain s set some k =
    let r = latest_in group plain k.at some
    (λ j l. ((k.symbols j fill l).start, (k.symbols j fill l).starts)) in (
      r.last,
      r.start + s,
      r.within,
      last_within group plain s set k r.last r.start r.within r.starts,
      record {
        at = k.at;
        lock = k.lock;
        last = r.last;
        within = r.within;
        start = r.start;
        starts = r.starts;
        clock_is = refl;
        latest = λ j other l q. omega (arith, r.latest j other l q);
      },
    )

cut_long : (words : List (List ℕ)) (clock : ℕ) (plain : List (List Sym)) (j : ℕ) → Symbols (cut clock words) plain
    → j < length plain → length (lane_of plain j) ≤ clock
cut_long words clock plain j h l =
    let row = words_of words j in
    let size = length-map words (λ (row : List ℕ). take clock row) in
    let e : words_of (cut clock words) j ≡ take clock row =
    get_or-map (λ (row : List ℕ). take clock row) words j [] [] (omega (arith, l, h.size, size)) in
    let n = symbols_length (words_of (cut clock words) j) (lane_of plain j) (h.each j (omega (arith, l, h.size))) in
    omega (arith, n, ap length e, length-take clock row)

pub sets_come_first : SetsComeFirst
sets_come_first enhanced words clock lane plain s set f h k =
    let size = length-map words (λ (row : List ℕ). take clock row) in
    let r = completed (sr_group enhanced) plain s set (omega (arith, h.size, size, f.within)) k in
    (r.1, r.4, omega (arith, r.3, cut_long words clock plain r.0 h r.2))

pub completes_once : CompletesOnce
completes_once enhanced plain s clock other a b =
    let group = sr_group enhanced in
    let e : b.at ≡ a.at = lock_once group plain b.at a.at b.lock a.lock in
    let own = subst (λ (m : ℕ). FirstFrom group (lane_of plain b.last) m b.start) e b.starts in
    let back = subst (λ (m : ℕ). FirstFrom group (lane_of plain a.last) m a.start) (sym e) a.starts in
    omega (
      arith,
      a.clock_is,
      b.clock_is,
      a.latest b.last b.start b.within own,
      b.latest a.last a.start a.within back,
    )

pub set_once : (group : List Sym) (lanes : List (List Sym)) (s : ℕ) (a b : List Sym) → SetOf group lanes s a
    → SetOf group lanes s b → a ≡ b
set_once group lanes s a b h k =
    ext_get_or fill a b (h.size ∙ sym k.size)
    (λ j l.
    let i : j < length lanes = omega (arith, l, h.size) in
    let o = h.symbols j fill i in
    let p = k.symbols j fill i in
    let e : k.at ≡ h.at = lock_once group lanes k.at h.at k.lock h.lock in
    let f = subst (λ (m : ℕ). FirstFrom group (lane_of lanes j) m p.start) e p.starts in
    let g : o.start ≡ p.start = first_once group (lane_of lanes j) h.at o.start p.start o.starts f in
    same_Some (slice_index_or a j fill) (slice_index_or b j fill)
    (sym o.there ∙ (ap (λ (n : ℕ). slice_get (lane_of lanes j) (n + s)) g ∙ p.there)))

pub sets_are_one : SetsAreOne
sets_are_one enhanced plain s one other a b = set_once (sr_group enhanced) plain s one other a b
