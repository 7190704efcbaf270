-- The lock, as the lanes go on.
use Rattle.std.proofs.Common.{◌≡◌, ℕ, zero, suc, ◌<◌, ◌≤◌, ◌+◌, ◌⊎◌, inl, inr, List, [], ◌∷◌, ◌++◌, length, take, drop}
use Rattle.std.proofs.Common.{refl, sym, ap, subst, ◌∙◌, arith, length-drop, append-nil}
use Rattle.std.proofs.lemmas.List.{length-take, take-append-le, drop-append-le}
use Rattle.std.proofs.lemmas.Bool.{cases_lt}
use Rattle.dpx_base.specs.declared.sym.Sym.{Sym}
use Rattle.dpx_align.specs.Lock.{HasAt, Near, Meets, IsLock, lane_of}
use Rattle.dpx_align.specs.Search.{lengthened}

-- a group that is there ends within the lane
pub within : (group lane : List Sym) (g : ℕ) → 0 < length group → HasAt group lane g → g + length group ≤ length lane
within group lane g l h = omega (arith, ap length h, length-take (length group) (drop g lane), length-drop g lane)

-- a group within the first clocks is there whatever follows
pub longer : (group lane more : List Sym) (g : ℕ) → g + length group ≤ length lane
    → take (length group) (drop g (lane ++ more)) ≡ take (length group) (drop g lane)
longer group lane more g l =
    let a : g ≤ length lane = omega arith in
    let b : length group ≤ length (drop g lane) = omega (arith, length-drop g lane) in
    ap (take (length group)) (drop-append-le g lane more a) ∙ take-append-le (length group) (drop g lane) more b

pub on : (group lane more : List Sym) (g : ℕ) → 0 < length group → HasAt group lane g → HasAt group (lane ++ more) g
on group lane more g l h = longer group lane more g (within group lane g l h) ∙ h

pub back : (group lane more : List Sym) (g : ℕ) → g + length group ≤ length lane → HasAt group (lane ++ more) g
    → HasAt group lane g
back group lane more g l h = sym (longer group lane more g l) ∙ h

pub lane_of-lengthened : (lanes rows : List (List Sym)) (j : ℕ) → j < length lanes
    → lane_of (lengthened lanes rows) j ≡ lane_of lanes j ++ lane_of rows j
lane_of-lengthened [] rows j l = absurd (omega arith)
lane_of-lengthened (x ∷ xs) [] zero l = sym (append-nil x)
lane_of-lengthened (x ∷ xs) [] (suc j) l = sym (append-nil (lane_of xs j))
lane_of-lengthened (x ∷ xs) (y ∷ ys) zero l = refl
lane_of-lengthened (x ∷ xs) (y ∷ ys) (suc j) l = lane_of-lengthened xs ys j (omega arith)

pub length-lengthened : (lanes rows : List (List Sym)) → length (lengthened lanes rows) ≡ length lanes
length-lengthened [] rows = refl
length-lengthened (x ∷ xs) [] = refl
length-lengthened (x ∷ xs) (y ∷ ys) = ap suc (length-lengthened xs ys)

pub near_on : (group lane more : List Sym) (m : ℕ) → 0 < length group → Near group lane m → Near group (lane ++ more) m
near_on group lane more m l n = record {
  at = n.at;
  from = n.from;
  within = n.within;
  there =
      on group lane more n.at l n.there;
}

near_back_by : (group lane more : List Sym) (m k : ℕ) → 0 < length group → k < m
    → (n : Near group lane m) (f : Near group (lane ++ more) k) → (n.at < f.at) ⊎ (f.at ≤ n.at) → Near group lane k
near_back_by group lane more m k l h n f (inl e) =
    let a : k ≤ n.at = omega (arith, n.from) in
    let b : n.at ≤ k + 16 = omega (arith, f.within) in
    record { at = n.at; from = a; within = b; there = n.there }
near_back_by group lane more m k l h n f (inr e) =
    let a : f.at + length group ≤ length lane = omega (arith, within group lane n.at l n.there) in
    record { at = f.at; from = f.from; within = f.within; there = back group lane more f.at a f.there }

-- a group near an earlier clock, seen later, shows one near it that was there before
pub near_back : (group lane more : List Sym) (m k : ℕ) → 0 < length group → k < m → Near group lane m
    → Near group (lane ++ more) k → Near group lane k
near_back group lane more m k l h n f = near_back_by group lane more m k l h n f (cases_lt n.at f.at)

pub ends : (group lane : List Sym) (m k : ℕ) → 0 < length group → k ≤ m → Near group lane m
    → k + length group ≤ length lane
ends group lane m k l h n = omega (arith, within group lane n.at l n.there, n.from)

pub meets_on : (group : List Sym) (lanes rows : List (List Sym)) (m : ℕ) → 0 < length group → Meets group lanes m
    → Meets group (lengthened lanes rows) m
meets_on group lanes rows m l h = record {
  every = λ j i.
      let e : j < length lanes = omega (arith, length-lengthened lanes rows) in
      subst (λ (x : List Sym). Near group x m) (sym (lane_of-lengthened lanes rows j e))
      (near_on group (lane_of lanes j) (lane_of rows j) m l (h.every j e));
  first = h.first;
  within = omega (arith, length-lengthened lanes rows, h.within);
  there = subst (λ (x : List Sym). HasAt group x m) (sym (lane_of-lengthened lanes rows h.first h.within))
      (on group (lane_of lanes h.first) (lane_of rows h.first) m l h.there);
}

pub meets_back : (group : List Sym) (lanes rows : List (List Sym)) (m k : ℕ) → 0 < length group → k < m
    → Meets group lanes m → Meets group (lengthened lanes rows) k → Meets group lanes k
meets_back group lanes rows m k l b h f =
    let w : f.first < length lanes = omega (arith, length-lengthened lanes rows, f.within) in
    record {
      every = λ j i.
          let e : j < length (lengthened lanes rows) = omega (arith, length-lengthened lanes rows) in
          near_back group (lane_of lanes j) (lane_of rows j) m k l b (h.every j i)
          (subst (λ (x : List Sym). Near group x k) (lane_of-lengthened lanes rows j i) (f.every j e));
      first = f.first;
      within = w;
      there = back group (lane_of lanes f.first) (lane_of rows f.first) k
          (ends group (lane_of lanes f.first) m k l (omega arith) (h.every f.first w))
          (subst (λ (x : List Sym). HasAt group x k) (lane_of-lengthened lanes rows f.first w) f.there);
    }

pub lock_on : (group : List Sym) (lanes rows : List (List Sym)) (m : ℕ) → 0 < length group → IsLock group lanes m
    → IsLock group (lengthened lanes rows) m
lock_on group lanes rows m l h = record {
  meets = meets_on group lanes rows m l h.meets;
  least = λ k b f. h.least k b (meets_back group lanes rows m k l b h.meets f);
}

-- a clock that is decided stays so
pub none_on : (group : List Sym) (lanes rows : List (List Sym)) (k clocks : ℕ) → 0 < length group
    → ((j : ℕ) → j < length lanes → length (lane_of lanes j) ≡ clocks) → k + 16 + length group ≤ clocks
    → (Meets group lanes k → ⊥) → Meets group (lengthened lanes rows) k → ⊥
none_on group lanes rows k clocks l even d never f =
    let w : f.first < length lanes = omega (arith, length-lengthened lanes rows, f.within) in
    never (record {
      every = λ j i.
          let e : j < length (lengthened lanes rows) = omega (arith, length-lengthened lanes rows) in
          let n : Near group (lane_of lanes j ++ lane_of rows j) k =
          subst (λ (x : List Sym). Near group x k) (lane_of-lengthened lanes rows j i) (f.every j e) in
          let b : n.at + length group ≤ length (lane_of lanes j) = omega (arith, even j i, n.within) in
          record {
            at = n.at;
            from = n.from;
            within = n.within;
            there =
                back group (lane_of lanes j) (lane_of rows j) n.at b n.there;
          };
      first = f.first;
      within = w;
      there = back group (lane_of lanes f.first) (lane_of rows f.first) k
          (omega (arith, even f.first w))
          (subst (λ (x : List Sym). HasAt group x k) (lane_of-lengthened lanes rows f.first w) f.there);
    })
