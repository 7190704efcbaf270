-- What is handed out.
use Rattle.std.proofs.Common.{◌≡◌, ℕ, ◌<◌, ◌≤◌, ◌+◌, Bool, false, List, length, drop, map, sym, ap, subst, arith}
use Rattle.std.proofs.Common.{Option, Some, None, length-drop, nat_lt, ◌&&◌}
use Rattle.std.specs.List.{list_all}
use Rattle.std.proofs.lemmas.List.{length-map}
use Rattle.dpx_base.specs.declared.sym.Sym.{Sym}
use Rattle.dpx_align.proofs.Answered.{not_ready}
use Rattle.dpx_align.proofs.Seeking.{lane_of-map}
use Rattle.dpx_align.specs.Deskew.{HasTaken, IsNext}
use Rattle.dpx_align.specs.declared.deskew.Deskew.{Deskew}
use Rattle.dpx_align.specs.Lock.{sr_group, IsLock, SetOf, lane_of}
use Rattle.dpx_align.specs.Search.{Level}

pub level_drop : (rings : List (List Sym)) → ((j : ℕ) → j < length rings → 0 < length (lane_of rings j)) → Level rings
    → Level (map (λ ring. drop 1 ring) rings)
level_drop rings w h i j a b =
    let size = length-map rings (λ (ring : List Sym). drop 1 ring) in
    let k : i < length rings = omega (arith, size) in
    let l : j < length rings = omega (arith, size) in
    omega (
      arith,
      ap length (lane_of-map (λ ring. drop 1 ring) rings i k),
      ap length (lane_of-map (λ ring. drop 1 ring) rings j l),
      h i j k l,
      w i k,
      w j l,
      length-drop 1 (lane_of rings i),
      length-drop 1 (lane_of rings j),
    )

pub count_drop : (rings : List (List Sym)) (given fed : ℕ) → 0 < length rings
    → ((j : ℕ) → j < length rings → 0 < length (lane_of rings j)) → given + length (lane_of rings 0) ≤ fed
    → given + 1 + length (lane_of (map (λ ring. drop 1 ring) rings) 0) ≤ fed
count_drop rings given fed l w h = omega (
  arith,
  ap length (lane_of-map (λ ring. drop 1 ring) rings 0 l),
  w 0 l,
  length-drop 1 (lane_of rings 0),
)

pub next_same : (a b : Deskew) (plain : List (List Sym)) (next : Option (List Sym)) → b.given ≡ a.given
    → b.enhanced ≡ a.enhanced → IsNext b plain next → IsNext a plain next
next_same a b plain (Some set) g f s =
    subst (λ (x : Bool). SetOf (sr_group x) plain a.given set) f
    (subst (λ (n : ℕ). SetOf (sr_group b.enhanced) plain n set) g s)
next_same a b plain None g f s =
    λ set o. s set (subst (λ (x : Bool). SetOf (sr_group x) plain b.given set) (sym f)
    (subst (λ (n : ℕ). SetOf (sr_group a.enhanced) plain n set) (sym g) o))

-- where nothing is ready after the search, no set is complete
pub none_ready : (a b : Deskew) (plain : List (List Sym)) → b.enhanced ≡ a.enhanced
    → (b.locked ≡ false → (m : ℕ) → IsLock (sr_group a.enhanced) plain m → ⊥)
    → (b.locked && list_all (λ ring. nat_lt 0 (length ring)) b.rings) ≡ false → HasTaken b plain → IsNext b plain None
none_ready a b plain f n e h set s =
    not_ready b.locked (sr_group b.enhanced) plain b.rings b.given
    (λ k m l. n k m (subst (λ (x : Bool). IsLock (sr_group x) plain m) f l)) e h set s
