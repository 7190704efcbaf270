-- The search in what the rings hold.
use Rattle.std.proofs.Common.{◌≡◌, ℕ, zero, suc, ◌<◌, ◌≤◌, ◌+◌, ◌-◌, ⊎_elim, true, false, List, [], ◌∷◌, length, take}
use Rattle.std.proofs.Common.{drop, map, refl, sym, ap, subst, ◌∙◌, arith, Some}
use Rattle.std.proofs.lemmas.List.{drop-drop, length-map}
use Rattle.std.proofs.lemmas.Bool.{both_ways, cases_lt}
use Rattle.dpx_base.specs.declared.sym.Sym.{Sym}
use Rattle.dpx_align.proofs.LockStays.{within}
use Rattle.dpx_align.proofs.Meeting.{start_first, meets_means, meets_true}
use Rattle.dpx_align.proofs.Once.{first_once}
use Rattle.dpx_align.proofs.Scanned.{scan_some}
use Rattle.dpx_align.specs.Lock.{HasAt, Near, Meets, IsLock, FirstFrom, lane_of}
use Rattle.dpx_align.specs.Search.{scan, meets, start, Seeking, Locked}

pub shifted : (group lane : List Sym) (n g : ℕ) → HasAt group (drop n lane) g → HasAt group lane (n + g)
shifted group lane n g h = subst (λ (xs : List Sym). take (length group) xs ≡ group) (drop-drop g n lane) h

pub unshifted : (group lane : List Sym) (n k : ℕ) → n ≤ k → HasAt group lane k → HasAt group (drop n lane) (k - n)
unshifted group lane n k l h =
    let e : k ≡ n + (k - n) = omega arith in
    let f : HasAt group lane (n + (k - n)) = subst (λ (i : ℕ). HasAt group lane i) e h in
    subst (λ (xs : List Sym). take (length group) xs ≡ group) (sym (drop-drop (k - n) n lane)) f

pub near_shifted : (group lane : List Sym) (n m : ℕ) → Near group (drop n lane) m → Near group lane (n + m)
near_shifted group lane n m h = record {
  at = n + h.at;
  from = omega (arith, h.from);
  within = omega (arith, h.within);
  there = shifted group lane n h.at h.there;
}

pub near_unshifted : (group lane : List Sym) (n k : ℕ) → n ≤ k → Near group lane k → Near group (drop n lane) (k - n)
near_unshifted group lane n k l h = record {
  at = h.at - n;
  from = omega (arith, h.from);
  within = omega (arith, h.within);
  there = unshifted group lane n h.at (omega (arith, h.from)) h.there;
}

pub first_shifted : (group lane : List Sym) (n m g : ℕ) → FirstFrom group (drop n lane) m g
    → FirstFrom group lane (n + m) (n + g)
first_shifted group lane n m g h = record {
  from = omega (arith, h.from);
  there = shifted group lane n g h.there;
  first = λ k l u e. h.first (k - n) (omega arith) (omega arith) (unshifted group lane n k (omega arith) e);
}

pub lane_of-map : (f : List Sym → List Sym) (lanes : List (List Sym)) (j : ℕ) → j < length lanes
    → lane_of (map f lanes) j ≡ f (lane_of lanes j)
lane_of-map f [] j l = absurd (omega arith)
lane_of-map f (x ∷ xs) zero l = refl
lane_of-map f (x ∷ xs) (suc j) l = lane_of-map f xs j (omega arith)

pub map_same : (f g : List Sym → List Sym) (lanes : List (List Sym))
    → ((j : ℕ) → j < length lanes → f (lane_of lanes j) ≡ g (lane_of lanes j)) → map f lanes ≡ map g lanes
map_same f g [] h = refl
map_same f g (x ∷ xs) h =
    let e = h 0 (omega arith) in
    let r = map_same f g xs (λ j l. h (suc j) (omega arith)) in
    cc

pub map_twice : (f g : List Sym → List Sym) (lanes : List (List Sym)) → map f (map g lanes) ≡ map (λ x. f (g x)) lanes
map_twice f g [] = refl
map_twice f g (x ∷ xs) = ap (λ (r : List (List Sym)). f (g x) ∷ r) (map_twice f g xs)

pub meets_shifted : (group : List Sym) (lanes : List (List Sym)) (n m : ℕ)
    → Meets group (map (λ lane. drop n lane) lanes) m → Meets group lanes (n + m)
meets_shifted group lanes n m h =
    let size = length-map lanes (λ (lane : List Sym). drop n lane) in
    let w : h.first < length lanes = omega (arith, size, h.within) in
    record {
      every = λ j l.
          near_shifted group (lane_of lanes j) n m
          (subst (λ (x : List Sym). Near group x m) (lane_of-map (λ lane. drop n lane) lanes j l)
          (h.every j (omega (arith, size))));
      first = h.first;
      within = w;
      there = shifted group (lane_of lanes h.first) n m
          (subst (λ (x : List Sym). HasAt group x m) (lane_of-map (λ lane. drop n lane) lanes h.first w) h.there);
    }

pub meets_unshifted : (group : List Sym) (lanes : List (List Sym)) (n k : ℕ) → n ≤ k → Meets group lanes k
    → Meets group (map (λ lane. drop n lane) lanes) (k - n)
meets_unshifted group lanes n k l h =
    let size = length-map lanes (λ (lane : List Sym). drop n lane) in
    record {
      every = λ j i.
          let e : j < length lanes = omega (arith, size) in
          subst (λ (x : List Sym). Near group x (k - n)) (sym (lane_of-map (λ lane. drop n lane) lanes j e))
          (near_unshifted group (lane_of lanes j) n k l (h.every j e));
      first = h.first;
      within = omega (arith, size, h.within);
      there = subst (λ (x : List Sym). HasAt group x (k - n))
          (sym (lane_of-map (λ lane. drop n lane) lanes h.first h.within))
          (unshifted group (lane_of lanes h.first) n k l h.there);
    }

-- no clock before the end of what was searched
pub none_in : (group : List Sym) (lanes : List (List Sym)) (n c k : ℕ)
    → ((i : ℕ) → 0 ≤ i → i < 0 + c → meets group (map (λ lane. drop n lane) lanes) i ≡ false) → n ≤ k → k < n + c
    → Meets group lanes k → ⊥
none_in group lanes n c k f l u h =
    both_ways (meets group (map (λ lane. drop n lane) lanes) (k - n)) (f (k - n) (omega arith) (omega arith))
    (meets_true group (map (λ lane. drop n lane) lanes) (k - n) (meets_unshifted group lanes n k l h))

pub lock_found : (group : List Sym) (lanes rings : List (List Sym)) (s : Seeking group lanes rings) (c m : ℕ)
    → scan c (meets group rings) 0 ≡ Some m → IsLock group lanes (s.passed + m)
lock_found group lanes rings s c m h =
    let r = scan_some c (meets group rings) 0 m h in
    let kept = map (λ (lane : List Sym). drop s.passed lane) lanes in
    record {
      meets = meets_shifted group lanes s.passed m
          (meets_means group kept m (subst (λ (x : List (List Sym)). meets group x m ≡ true) s.rest r.passes));
      least = λ k l f. ⊎_elim
          (λ (e : k < s.passed). s.none k e f)
          (λ (e : s.passed ≤ k). none_in group lanes s.passed m k
          (λ i a b. subst (λ (x : List (List Sym)). meets group x i ≡ false) s.rest (r.first i a (omega arith))) e l f)
          (cases_lt k s.passed);
    }

pub start_shifted : (group lane : List Sym) (n m : ℕ) → Near group lane (n + m)
    → start group (n + m) lane ≡ n + start group m (drop n lane)
start_shifted group lane n m h =
    let e : (n + m) - n ≡ m = omega arith in
    let u : Near group (drop n lane) m = subst (λ (i : ℕ). Near group (drop n lane) i) e
    (near_unshifted group lane n (n + m) (omega arith) h) in
    first_once group lane (n + m) (start group (n + m) lane) (n + start group m (drop n lane))
    (start_first group lane (n + m) h)
    (first_shifted group lane n m (start group m (drop n lane)) (start_first group (drop n lane) m u))

pub locked : (group : List Sym) (lanes rings : List (List Sym)) → 0 < length group
    → (s : Seeking group lanes rings) (c m : ℕ) → scan c (meets group rings) 0 ≡ Some m
    → Locked group lanes (map (λ ring. drop (start group m ring) ring) rings) 0
locked group lanes rings q s c m h =
    let lock = lock_found group lanes rings s c m h in
    let at = s.passed + m in
    record {
      at = at;
      lock = lock;
      rest =
          ap (map (λ ring. drop (start group m ring) ring)) s.rest
          ∙ (map_twice (λ ring. drop (start group m ring) ring) (λ lane. drop s.passed lane) lanes
          ∙ map_same (λ lane. drop (start group m (drop s.passed lane)) (drop s.passed lane))
          (λ lane. drop (start group at lane + 0) lane) lanes
          (λ j l.
          let lane = lane_of lanes j in
          let e : s.passed + start group m (drop s.passed lane) ≡ start group at lane + 0 =
          omega (arith, start_shifted group lane s.passed m (lock.meets.every j l)) in
          drop-drop (start group m (drop s.passed lane)) s.passed lane ∙ ap (λ (i : ℕ). drop i lane) e));
      room = λ j l.
          let lane = lane_of lanes j in
          let f = start_first group lane at (lock.meets.every j l) in
          omega (arith, within group lane (start group at lane) q f.there);
    }
