-- What each call does to what the machine stands for.
use Rattle.std.proofs.Common.{◌≡◌, ℕ, suc, ◌<◌, ◌≤◌, ◌+◌, ◌-◌, ⊎_elim, false, List, [], ◌∷◌, ◌++◌, length}
use Rattle.std.proofs.Common.{drop, map, refl, sym, ap, subst, ◌∙◌, arith, Some, None, length-drop, length-append}
use Rattle.std.specs.Prelude.{slice_index_or}
use Rattle.std.proofs.lemmas.List.{drop-drop, length-map, drop-append-le, get_or-drop, get_or-map}
use Rattle.std.proofs.lemmas.Option.{slice_get-get_or, slice_get_within}
use Rattle.std.proofs.lemmas.Bool.{cases_lt}
use Rattle.dpx_base.specs.Words.{fill}
use Rattle.dpx_base.specs.declared.sym.Sym.{Sym}
use Rattle.dpx_align.proofs.LockStays.{within, on, back, lane_of-lengthened, length-lengthened, none_on, lock_on}
use Rattle.dpx_align.proofs.Meeting.{start_first}
use Rattle.dpx_align.proofs.Once.{lock_once, first_once}
use Rattle.dpx_align.proofs.Scanned.{scan_none}
use Rattle.dpx_align.proofs.Seeking.{lane_of-map, map_same, map_twice, none_in}
use Rattle.dpx_align.specs.Lock.{Near, Meets, FirstFrom, SetOf, lane_of}
use Rattle.dpx_align.specs.Search.{scan, meets, start, lengthened, head, Seeking, Locked}

-- no lane meets where the search found none
pub no_meets : (group : List Sym) (lanes rings : List (List Sym)) → 0 < length group
    → (s : Seeking group lanes rings) (c : ℕ) → c ≡ s.clocks - s.passed → scan c (meets group rings) 0 ≡ None → (k : ℕ)
    → Meets group lanes k → ⊥
no_meets group lanes rings q s c e h k f =
    let b : k + length group ≤ s.clocks = omega
    (arith, within group (lane_of lanes f.first) k q f.there, s.even f.first f.within) in
    ⊎_elim
    (λ (l : k < s.passed). s.none k l f)
    (λ (l : s.passed ≤ k). none_in group lanes s.passed c k
    (λ i a u. subst (λ (x : List (List Sym)). meets group x i ≡ false) s.rest
    (scan_none c (meets group rings) 0 i h a u))
    l (omega (arith, s.within)) f)
    (cases_lt k s.passed)

-- the clocks that can begin no lock are let go
pub sought : (group : List Sym) (lanes rings : List (List Sym)) → 0 < length group
    → (s : Seeking group lanes rings) (c t : ℕ) → c ≡ s.clocks - s.passed → t ≡ c - (15 + length group)
    → scan c (meets group rings) 0 ≡ None → Seeking group lanes (map (λ ring. drop t ring) rings)
sought group lanes rings q s c t e f h = record {
  clocks = s.clocks;
  even = s.even;
  passed = s.passed + t;
  within = omega (arith, s.within);
  rest =
      ap (map (λ ring. drop t ring)) s.rest
      ∙ (map_twice (λ ring. drop t ring) (λ lane. drop s.passed lane) lanes
      ∙ map_same (λ lane. drop t (drop s.passed lane)) (λ lane. drop (s.passed + t) lane) lanes
      (λ j l. drop-drop t s.passed (lane_of lanes j)));
  decided = λ k l. ⊎_elim (λ (b : k < s.passed). s.decided k b) (λ (b : s.passed ≤ k). omega (arith, s.within))
      (cases_lt k s.passed);
  none = λ k l. no_meets group lanes rings q s c e h k;
}

pub lengthened_drop : (f : List Sym → ℕ) (lanes rows : List (List Sym))
    → ((j : ℕ) → j < length lanes → (f (lane_of lanes j) ≤ length (lane_of lanes j))
    × (f (lane_of lanes j ++ lane_of rows j) ≡ f (lane_of lanes j)))
    → lengthened (map (λ lane. drop (f lane) lane) lanes) rows
    ≡ map (λ lane. drop (f lane) lane) (lengthened lanes rows)
lengthened_drop f [] rows h = refl
lengthened_drop f (x ∷ xs) [] h = refl
lengthened_drop f (x ∷ xs) (y ∷ ys) h =
    let a = h 0 (omega arith) in
    let e : drop (f (x ++ y)) (x ++ y) ≡ drop (f x) x ++ y =
    ap (λ (i : ℕ). drop i (x ++ y)) a.1 ∙ drop-append-le (f x) x y a.0 in
    let r = lengthened_drop f xs ys (λ j l. h (suc j) (omega arith)) in
    cc

pub seeking_on : (group : List Sym) (lanes rings rows : List (List Sym)) (n : ℕ) → 0 < length group
    → Seeking group lanes rings → ((j : ℕ) → j < length lanes → length (lane_of rows j) ≡ n)
    → Seeking group (lengthened lanes rows) (lengthened rings rows)
seeking_on group lanes rings rows n q s h = record {
  clocks = s.clocks + n;
  even = λ j l.
      let i : j < length lanes = omega (arith, length-lengthened lanes rows) in
      ap length (lane_of-lengthened lanes rows j i)
      ∙ omega (arith, length-append (lane_of lanes j) (lane_of rows j), s.even j i, h j i);
  passed = s.passed;
  within = omega (arith, s.within);
  rest =
      ap (λ (x : List (List Sym)). lengthened x rows) s.rest
      ∙ lengthened_drop (λ lane. s.passed) lanes rows (λ j l. (omega (arith, s.within, s.even j l), refl));
  decided = λ k l. omega (arith, s.decided k l);
  none = λ k l. none_on group lanes rows k s.clocks q s.even (s.decided k l) (s.none k l);
}

pub first_on : (group lane more : List Sym) (m g : ℕ) → 0 < length group → FirstFrom group lane m g
    → FirstFrom group (lane ++ more) m g
first_on group lane more m g q f = record {
  from = f.from;
  there = on group lane more g q f.there;
  first = λ k l u h. f.first k l u (back group lane more k (omega (arith, within group lane g q f.there)) h);
}

pub start_on : (group lane more : List Sym) (m : ℕ) → 0 < length group → Near group lane m
    → start group m (lane ++ more) ≡ start group m lane
start_on group lane more m q n =
    first_once group (lane ++ more) m (start group m (lane ++ more)) (start group m lane)
    (start_first group (lane ++ more) m (record {
      at = n.at;
      from = n.from;
      within = n.within;
      there =
          on group lane more n.at q n.there;
    }))
    (first_on group lane more m (start group m lane) q (start_first group lane m n))

pub locked_on : (group : List Sym) (lanes rings rows : List (List Sym)) (given : ℕ) → 0 < length group
    → Locked group lanes rings given → Locked group (lengthened lanes rows) (lengthened rings rows) given
locked_on group lanes rings rows given q s = record {
  at = s.at;
  lock = lock_on group lanes rows s.at q s.lock;
  rest =
      ap (λ (x : List (List Sym)). lengthened x rows) s.rest
      ∙ lengthened_drop (λ lane. start group s.at lane + given) lanes rows
      (λ j l. (
        s.room j l,
        ap (λ (i : ℕ). i + given)
            (start_on group (lane_of lanes j) (lane_of rows j) s.at q (s.lock.meets.every j l)),
      ));
  room = λ j l.
      let i : j < length lanes = omega (arith, length-lengthened lanes rows) in
      let lane = lane_of lanes j in
      let e = lane_of-lengthened lanes rows j i in
      let b : start group s.at (lane ++ lane_of rows j) + given ≤ length (lane ++ lane_of rows j) =
      omega (
        arith,
        start_on group lane (lane_of rows j) s.at q (s.lock.meets.every j i),
        s.room j i,
        length-append lane (lane_of rows j),
      ) in
      subst (λ (x : List Sym). start group s.at x + given ≤ length x) (sym e) b;
}

ring_at : (group : List Sym) (lanes rings : List (List Sym)) (given : ℕ) (s : Locked group lanes rings given) (j : ℕ)
    → j < length lanes → lane_of rings j ≡ drop (start group s.at (lane_of lanes j) + given) (lane_of lanes j)
ring_at group lanes rings given s j l =
    ap (λ (x : List (List Sym)). lane_of x j) s.rest
    ∙ lane_of-map (λ lane. drop (start group s.at lane + given) lane) lanes j l

pub waits : (group : List Sym) (lanes rings : List (List Sym)) (given : ℕ) (s : Locked group lanes rings given) (j : ℕ)
    → j < length lanes → length (lane_of rings j)
    ≡ length (lane_of lanes j) - (start group s.at (lane_of lanes j) + given)
waits group lanes rings given s j l =
    ap length (ring_at group lanes rings given s j l)
    ∙ length-drop (start group s.at (lane_of lanes j) + given) (lane_of lanes j)

pub as_many : (group : List Sym) (lanes rings : List (List Sym)) (given : ℕ) → Locked group lanes rings given
    → length rings ≡ length lanes
as_many group lanes rings given s = ap length s.rest
    ∙ length-map lanes (λ lane. drop (start group s.at lane + given) lane)

-- the heads of the rings are the next set
pub set_of : (group : List Sym) (lanes rings : List (List Sym)) (given : ℕ) → Locked group lanes rings given
    → ((j : ℕ) → j < length rings → 0 < length (lane_of rings j)) → SetOf group lanes given (map head rings)
set_of group lanes rings given s h =
    let size = as_many group lanes rings given s in
    record {
      at = s.at;
      lock = s.lock;
      size = length-map rings head ∙ size;
      symbols = λ j d l.
          let lane = lane_of lanes j in
          let i : j < length rings = omega arith in
          let n = start group s.at lane + given in
          let b : n < length lane = omega (arith, h j i, waits group lanes rings given s j l) in
          let e : slice_index_or (map head rings) j d ≡ slice_index_or lane n fill =
          get_or-map head rings j [] d i
          ∙ (ap head (ring_at group lanes rings given s j l)
          ∙ (get_or-drop n lane 0 fill ∙ ap (λ (k : ℕ). slice_index_or lane k fill) (omega arith))) in
          record {
            start = start group s.at lane;
            starts = start_first group lane s.at (s.lock.meets.every j l);
            there = slice_get-get_or lane n fill b ∙ ap Some (sym e);
          };
    }

pub given_on : (group : List Sym) (lanes rings : List (List Sym)) (given : ℕ) → Locked group lanes rings given
    → ((j : ℕ) → j < length rings → 0 < length (lane_of rings j))
    → Locked group lanes (map (λ ring. drop 1 ring) rings) (given + 1)
given_on group lanes rings given s h = record {
  at = s.at;
  lock = s.lock;
  rest =
      ap (map (λ ring. drop 1 ring)) s.rest
      ∙ (map_twice (λ ring. drop 1 ring) (λ lane. drop (start group s.at lane + given) lane) lanes
      ∙ map_same (λ lane. drop 1 (drop (start group s.at lane + given) lane))
      (λ lane. drop (start group s.at lane + (given + 1)) lane) lanes
      (λ j l.
      let lane = lane_of lanes j in
      drop-drop 1 (start group s.at lane + given) lane ∙ ap (λ (i : ℕ). drop i lane) (omega arith)));
  room = λ j l.
      let size = as_many group lanes rings given s in
      omega (arith, h j (omega arith), waits group lanes rings given s j l);
}

-- where a ring is empty, the next set is not complete
pub no_set : (group : List Sym) (lanes rings : List (List Sym)) (given : ℕ) → Locked group lanes rings given → (j : ℕ)
    → j < length rings → length (lane_of rings j) ≡ 0 → (set : List Sym) → SetOf group lanes given set → ⊥
no_set group lanes rings given s j i e set f =
    let l : j < length lanes = omega (arith, as_many group lanes rings given s) in
    let lane = lane_of lanes j in
    let o = f.symbols j fill l in
    let a : FirstFrom group lane s.at o.start =
    subst (λ (m : ℕ). FirstFrom group lane m o.start) (lock_once group lanes f.at s.at f.lock s.lock) o.starts in
    let same : o.start ≡ start group s.at lane =
    first_once group lane s.at o.start (start group s.at lane) a
    (start_first group lane s.at (s.lock.meets.every j l)) in
    let b : o.start + given < length lane = slice_get_within lane (o.start + given)
    (slice_index_or set j fill) o.there in
    omega (arith, waits group lanes rings given s j l)
