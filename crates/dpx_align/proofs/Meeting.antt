-- The search's test is the definition's.
use Rattle.std.proofs.Common.{◌≡◌, ℕ, zero, suc, ◌<◌, ◌≤◌, ◌+◌, inl, inr, Bool, true, false, List, [], ◌∷◌, length}
use Rattle.std.proofs.Common.{take, drop, refl, sym, ap, subst, arith, Option, Some, None}
use Rattle.std.specs.List.{list_any, list_all}
use Rattle.std.specs.Option.{is_some, unwrap_or}
use Rattle.std.proofs.lemmas.Bool.{and_parts, and_from, or_cases, or_left, or_right, both_ways, false≢true}
use Rattle.dpx_base.specs.declared.sym.Sym.{Sym}
use Rattle.dpx_align.proofs.Scanned.{begins, begun, scan_some, found}
use Rattle.dpx_align.specs.Lock.{Near, Meets, FirstFrom, lane_of}
use Rattle.dpx_align.specs.Search.{begins_with, near, meets, start}

pub any_at : (test : List Sym → Bool) (xs : List (List Sym)) → list_any test xs ≡ true
    → (j : ℕ) × (j < length xs) × (test (lane_of xs j) ≡ true)
any_at test [] h = absurd (false≢true h)
any_at test (x ∷ xs) h =
    elim (or_cases (test x) (list_any test xs) h) [
      | inl e ↦ (0, omega arith, e)
      | inr e ↦ let r = any_at test xs e in (suc r.0, omega (arith, r.1), r.2)
    ]

pub any_from : (test : List Sym → Bool) (xs : List (List Sym)) (j : ℕ) → j < length xs → test (lane_of xs j) ≡ true
    → list_any test xs ≡ true
any_from test [] j l h = absurd (omega arith)
any_from test (x ∷ xs) zero l h = or_left (test x) (list_any test xs) h
any_from test (x ∷ xs) (suc j) l h = or_right (test x) (list_any test xs) (any_from test xs j (omega arith) h)

pub all_at : (test : List Sym → Bool) (xs : List (List Sym)) → list_all test xs ≡ true → (j : ℕ) → j < length xs
    → test (lane_of xs j) ≡ true
all_at test [] h j l = absurd (omega arith)
all_at test (x ∷ xs) h zero l = (and_parts (test x) (list_all test xs) h).0
all_at test (x ∷ xs) h (suc j) l = all_at test xs (and_parts (test x) (list_all test xs) h).1 j (omega arith)

pub all_from : (test : List Sym → Bool) (xs : List (List Sym)) → ((j : ℕ) → j < length xs → test (lane_of xs j) ≡ true)
    → list_all test xs ≡ true
all_from test [] h = refl
all_from test (x ∷ xs) h = and_from (test x) (list_all test xs) (h 0 (omega arith))
    (all_from test xs (λ j l. h (suc j) (omega arith)))

-- the number in an option that has one
pub some_of : (o : Option ℕ) → is_some o ≡ true → (m : ℕ) × (o ≡ Some m)
some_of None h = absurd (false≢true h)
some_of (Some m) h = (m, refl)

pub some_is : (o : Option ℕ) (m : ℕ) → o ≡ Some m → is_some o ≡ true
some_is o m e = ap is_some e

pub near_means : (group lane : List Sym) (m g : ℕ) → near group m lane ≡ Some g → Near group lane m
near_means group lane m g e =
    let s = scan_some 17 (λ k. begins_with group (drop k lane)) m g e in
    record { at = g; from = s.from; within = omega (arith, s.within); there = begins group (drop g lane) s.passes }

pub near_found : (group lane : List Sym) (m : ℕ) → Near group lane m → (g : ℕ) × (near group m lane ≡ Some g)
near_found group lane m n =
    found 17 (λ k. begins_with group (drop k lane)) m n.at n.from (omega (arith, n.within))
    (begun group (drop n.at lane) n.there)

not_there : (group xs : List Sym) → begins_with group xs ≡ false → take (length group) xs ≡ group → ⊥
not_there group xs f h = both_ways (begins_with group xs) f (begun group xs h)

-- the start is that of the lane's first group
pub start_first : (group lane : List Sym) (m : ℕ) → Near group lane m → FirstFrom group lane m (start group m lane)
start_first group lane m n =
    let f = near_found group lane m n in
    let s = scan_some 17 (λ k. begins_with group (drop k lane)) m f.0 f.1 in
    let r : FirstFrom group lane m f.0 = record {
      from = s.from;
      there = begins group (drop f.0 lane) s.passes;
      first = λ k l u h. not_there group (drop k lane) (s.first k l u) h;
    } in
    subst (λ (o : Option ℕ). FirstFrom group lane m (unwrap_or o 0)) (sym f.1) r

pub start_within : (group lane : List Sym) (m : ℕ) → Near group lane m → start group m lane ≤ m + 16
start_within group lane m n =
    let f = near_found group lane m n in
    let s = scan_some 17 (λ k. begins_with group (drop k lane)) m f.0 f.1 in
    let b : f.0 ≤ m + 16 = omega (arith, s.within) in
    subst (λ (o : Option ℕ). unwrap_or o 0 ≤ m + 16) (sym f.1) b

pub meets_means : (group : List Sym) (lanes : List (List Sym)) (m : ℕ) → meets group lanes m ≡ true
    → Meets group lanes m
meets_means group lanes m h =
    let p = and_parts (list_any (λ lane. begins_with group (drop m lane)) lanes)
    (list_all (λ lane. is_some (near group m lane)) lanes) h in
    let f = any_at (λ lane. begins_with group (drop m lane)) lanes p.0 in
    record {
      every = λ j l.
          let s = some_of (near group m (lane_of lanes j))
          (all_at (λ lane. is_some (near group m lane)) lanes p.1 j l) in
          near_means group (lane_of lanes j) m s.0 s.1;
      first = f.0;
      within = f.1;
      there = begins group (drop m (lane_of lanes f.0)) f.2;
    }

pub meets_true : (group : List Sym) (lanes : List (List Sym)) (m : ℕ) → Meets group lanes m → meets group lanes m ≡ true
meets_true group lanes m h =
    and_from (list_any (λ lane. begins_with group (drop m lane)) lanes)
    (list_all (λ lane. is_some (near group m lane)) lanes)
    (any_from (λ lane. begins_with group (drop m lane)) lanes h.first h.within
    (begun group (drop m (lane_of lanes h.first)) h.there))
    (all_from (λ lane. is_some (near group m lane)) lanes (λ j l.
    let f = near_found group (lane_of lanes j) m (h.every j l) in
    some_is (near group m (lane_of lanes j)) f.0 f.1))
