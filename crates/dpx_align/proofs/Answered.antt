-- What a search leaves, and what a step answers.
use Rattle.std.proofs.Common.{◌≡◌, ℕ, zero, suc, ◌<◌, ◌≤◌, ◌+◌, ◌-◌, Bool, true, false, List, [], ◌∷◌, length, drop}
use Rattle.std.proofs.Common.{map, refl, sym, ap, subst, ◌∙◌, arith, Option, Some, None, length-drop, nat_lt, ◌&&◌}
use Rattle.std.proofs.Common.{replicate}
use Rattle.std.specs.List.{list_all}
use Rattle.std.specs.Option.{is_some}
use Rattle.std.proofs.lemmas.List.{length-map}
use Rattle.std.proofs.lemmas.Bool.{ltb-true, false≢true, lt-ltb}
use Rattle.dpx_base.specs.declared.sym.Sym.{Sym}
use Rattle.dpx_align.proofs.Meeting.{all_at, start_first, start_within, meets_means, some_of}
use Rattle.dpx_align.proofs.Scanned.{scan_some}
use Rattle.dpx_align.proofs.Seeking.{lane_of-map, locked, lock_found}
use Rattle.dpx_align.proofs.Steps.{sought, no_meets, set_of, given_on, no_set}
use Rattle.dpx_align.specs.Lock.{sr_group, IsLock, SetOf, lane_of}
use Rattle.dpx_align.specs.Search.{meets, start, kept, lock_in, head, Even, Level, Holds, Seeking}

pub some_group : (enhanced : Bool) → 0 < length (sr_group enhanced)
some_group true = omega arith
some_group false = omega arith

pub as_many_seeking : (group : List Sym) (lanes rings : List (List Sym)) → Seeking group lanes rings
    → length rings ≡ length lanes
as_many_seeking group lanes rings s = ap length s.rest ∙ length-map lanes (λ (lane : List Sym). drop s.passed lane)

-- how long the first ring is
pub len_seeking : (group : List Sym) (lanes rings : List (List Sym)) (s : Seeking group lanes rings) → 0 < length rings
    → length (lane_of rings 0) ≡ s.clocks - s.passed
len_seeking group lanes rings s l =
    let i : 0 < length lanes = omega (arith, as_many_seeking group lanes rings s) in
    ap (λ (x : List (List Sym)). length (lane_of x 0)) s.rest
    ∙ (ap length (lane_of-map (λ lane. drop s.passed lane) lanes 0 i)
    ∙ (length-drop s.passed (lane_of lanes 0) ∙ ap (λ (n : ℕ). n - s.passed) (s.even 0 i)))

pub after_seek : (group : List Sym) (lanes rings : List (List Sym)) → 0 < length group → 0 < length rings
    → (o : Option ℕ) → lock_in group rings ≡ o → Seeking group lanes rings
    → Holds (is_some o) group lanes (kept group rings o) 0
after_seek group lanes rings q l None e s = (
  refl,
  sought group lanes rings q s (length (lane_of rings 0)) (length (lane_of rings 0) - (15 + length group))
      (len_seeking group lanes rings s l) refl e,
)
after_seek group lanes rings q l (Some m) e s = locked group lanes rings q s (length (lane_of rings 0)) m e

pub no_lock : (group : List Sym) (lanes rings : List (List Sym)) → 0 < length group → 0 < length rings
    → lock_in group rings ≡ None → Seeking group lanes rings → (m : ℕ) → IsLock group lanes m → ⊥
no_lock group lanes rings q l e s m h = no_meets group lanes rings q s (length (lane_of rings 0))
    (len_seeking group lanes rings s l) e m h.meets

-- the search keeps the rings level
pub even_kept : (group : List Sym) (rings : List (List Sym)) → Even rings → Even (kept group rings None)
even_kept group rings h j l =
    let t = length (lane_of rings 0) - (15 + length group) in
    let size = length-map rings (λ (ring : List Sym). drop t ring) in
    let i : j < length rings = omega (arith, size) in
    let z : 0 < length rings = omega arith in
    let f = ap length (lane_of-map (λ ring. drop t ring) rings j i) in
    let g = ap length (lane_of-map (λ ring. drop t ring) rings 0 z) in
    omega (arith, f, g, h j i, length-drop t (lane_of rings j), length-drop t (lane_of rings 0))

pub level_even : (rings : List (List Sym)) → Even rings → Level rings
level_even rings h i j a b = omega (arith, h i a, h j b)

pub level_kept : (group : List Sym) (rings : List (List Sym)) (m : ℕ) → Even rings → lock_in group rings ≡ Some m
    → Level (kept group rings (Some m))
level_kept group rings m h e i j a b =
    let size = length-map rings (λ (ring : List Sym). drop (start group m ring) ring) in
    let k : i < length rings = omega (arith, size) in
    let l : j < length rings = omega (arith, size) in
    let s = scan_some (length (lane_of rings 0)) (meets group rings) 0 m e in
    let n = meets_means group rings m s.passes in
    let f = ap length (lane_of-map (λ ring. drop (start group m ring) ring) rings i k) in
    let g = ap length (lane_of-map (λ ring. drop (start group m ring) ring) rings j l) in
    let x = start_first group (lane_of rings i) m (n.every i k) in
    let y = start_within group (lane_of rings j) m (n.every j l) in
    omega (
      arith,
      f,
      g,
      h i k,
      h j l,
      length-drop (start group m (lane_of rings i)) (lane_of rings i),
      length-drop (start group m (lane_of rings j)) (lane_of rings j),
      x.from,
      y,
    )

-- a symbol waits on each ring
pub each_waits_at : (rings : List (List Sym)) → list_all (λ ring. nat_lt 0 (length ring)) rings ≡ true → (j : ℕ)
    → j < length rings → 0 < length (lane_of rings j)
each_waits_at rings h j l = ltb-true 0 (length (lane_of rings j)) (all_at (λ ring. nat_lt 0 (length ring)) rings h j l)

-- else some ring is empty
pub some_empty : (rings : List (List Sym)) → list_all (λ ring. nat_lt 0 (length ring)) rings ≡ false
    → (j : ℕ) × (j < length rings) × (length (lane_of rings j) ≡ 0)
some_empty [] h = absurd (false≢true (sym h))
some_empty ([] ∷ rings) h = (0, omega arith, refl)
some_empty ((x ∷ ring) ∷ rings) h =
    let e : nat_lt 0 (suc (length ring)) ≡ true = lt-ltb 0 (suc (length ring)) (omega arith) in
    let f : (true && list_all (λ ring. nat_lt 0 (length ring)) rings) ≡ false =
    subst (λ (b : Bool). (b && list_all (λ ring. nat_lt 0 (length ring)) rings) ≡ false) e h in
    let r = some_empty rings f in
    (suc r.0, omega (arith, r.1), r.2)

pub kept_length : (group : List Sym) (rings : List (List Sym)) (o : Option ℕ)
    → length (kept group rings o) ≡ length rings
kept_length group rings None = length-map rings
    (λ (ring : List Sym). drop (length (lane_of rings 0) - (15 + length group)) ring)
kept_length group rings (Some m) = length-map rings (λ (ring : List Sym). drop (start group m ring) ring)

pub kept_shorter : (group : List Sym) (rings : List (List Sym)) (o : Option ℕ) → 0 < length rings
    → length (lane_of (kept group rings o) 0) ≤ length (lane_of rings 0)
kept_shorter group rings None l =
    let t = length (lane_of rings 0) - (15 + length group) in
    omega (arith, ap length (lane_of-map (λ ring. drop t ring) rings 0 l), length-drop t (lane_of rings 0))
kept_shorter group rings (Some m) l =
    omega (
      arith,
      ap length (lane_of-map (λ ring. drop (start group m ring) ring) rings 0 l),
      length-drop (start group m (lane_of rings 0)) (lane_of rings 0),
    )

pub even_after : (group : List Sym) (rings : List (List Sym)) (o : Option ℕ) → is_some o ≡ false → Even rings
    → Even (kept group rings o)
even_after group rings None e h = even_kept group rings h
even_after group rings (Some m) e h = absurd (false≢true (sym e))

pub level_after : (group : List Sym) (rings : List (List Sym)) (o : Option ℕ) → lock_in group rings ≡ o → Even rings
    → Level (kept group rings o)
level_after group rings None e h = level_even (kept group rings None) (even_kept group rings h)
level_after group rings (Some m) e h = level_kept group rings m h e

pub settled : (locked enhanced result : Bool) (group : List Sym) (lanes rings new : List (List Sym)) (given : ℕ)
    → locked ≡ false → group ≡ sr_group enhanced → 0 < length rings → result ≡ is_some (lock_in group rings)
    → new ≡ kept group rings (lock_in group rings) → Holds locked (sr_group enhanced) lanes rings given
    → Holds result (sr_group enhanced) lanes new given
settled locked enhanced result group lanes rings new given f g l r k h =
    let s = subst (λ (b : Bool). Holds b (sr_group enhanced) lanes rings given) f h in
    let t : Seeking group lanes rings = subst (λ (x : List Sym). Seeking x lanes rings) (sym g) s.1 in
    let q : 0 < length group = subst (λ (x : List Sym). 0 < length x) (sym g) (some_group enhanced) in
    let a = after_seek group lanes rings q l (lock_in group rings) refl t in
    let b = subst (λ (n : ℕ). Holds (is_some (lock_in group rings)) group lanes
    (kept group rings (lock_in group rings)) n) (sym s.0) a in
    let c = subst (λ (x : List Sym). Holds (is_some (lock_in group rings)) x lanes
    (kept group rings (lock_in group rings)) given) g b in
    let d = subst (λ (x : Bool). Holds x (sr_group enhanced) lanes (kept group rings (lock_in group rings)) given)
    (sym r) c in
    subst (λ (x : List (List Sym)). Holds result (sr_group enhanced) lanes x given) (sym k) d

pub not_some : (o : Option ℕ) → is_some o ≡ false → o ≡ None
not_some None e = refl
not_some (Some m) e = absurd (false≢true (sym e))

pub unlocked : (locked enhanced : Bool) (group : List Sym) (lanes rings : List (List Sym)) (given : ℕ) → locked ≡ false
    → group ≡ sr_group enhanced → 0 < length rings → is_some (lock_in group rings) ≡ false
    → Holds locked (sr_group enhanced) lanes rings given → (m : ℕ) → IsLock (sr_group enhanced) lanes m → ⊥
unlocked locked enhanced group lanes rings given f g l r h m k =
    let s = subst (λ (b : Bool). Holds b (sr_group enhanced) lanes rings given) f h in
    let e : lock_in (sr_group enhanced) rings ≡ None =
    subst (λ (x : List Sym). lock_in x rings ≡ None) g (not_some (lock_in group rings) r) in
    no_lock (sr_group enhanced) lanes rings (some_group enhanced) l e s.1 m k

pub short_kept : (group : List Sym) (rings : List (List Sym)) → length group ≤ 4 → Even rings → (j : ℕ)
    → j < length (kept group rings None) → length (lane_of (kept group rings None) j) ≤ 19
short_kept group rings q h j l =
    let t = length (lane_of rings 0) - (15 + length group) in
    let i : j < length rings = omega (arith, length-map rings (λ (ring : List Sym). drop t ring)) in
    omega (arith, ap length (lane_of-map (λ ring. drop t ring) rings j i), h j i, length-drop t (lane_of rings j))

pub short_after : (group : List Sym) (rings : List (List Sym)) (o : Option ℕ) → length group ≤ 4 → Even rings
    → is_some o ≡ false → (j : ℕ) → j < length (kept group rings o) → length (lane_of (kept group rings o) j) ≤ 19
short_after group rings None q h e = short_kept group rings q h
short_after group rings (Some m) q h e = absurd (false≢true (sym e))

pub few_group : (enhanced : Bool) → length (sr_group enhanced) ≤ 4
few_group true = omega arith
few_group false = omega arith

pub ready_set : (locked : Bool) (group : List Sym) (lanes rings : List (List Sym)) (given : ℕ) → locked ≡ true
    → ((j : ℕ) → j < length rings → 0 < length (lane_of rings j)) → Holds locked group lanes rings given
    → SetOf group lanes given (map head rings)
ready_set locked group lanes rings given e w h =
    set_of group lanes rings given (subst (λ (b : Bool). Holds b group lanes rings given) e h) w

pub ready_on : (locked : Bool) (group : List Sym) (lanes rings : List (List Sym)) (given : ℕ) → locked ≡ true
    → ((j : ℕ) → j < length rings → 0 < length (lane_of rings j)) → Holds locked group lanes rings given
    → Holds locked group lanes (map (λ ring. drop 1 ring) rings) (given + 1)
ready_on locked group lanes rings given e w h =
    subst (λ (b : Bool). Holds b group lanes (map (λ ring. drop 1 ring) rings) (given + 1)) (sym e)
    (given_on group lanes rings given (subst (λ (b : Bool). Holds b group lanes rings given) e h) w)

-- not ready: no set is complete
pub not_ready : (locked : Bool) (group : List Sym) (lanes rings : List (List Sym)) (given : ℕ)
    → (locked ≡ false → (m : ℕ) → IsLock group lanes m → ⊥)
    → (locked && list_all (λ ring. nat_lt 0 (length ring)) rings) ≡ false → Holds locked group lanes rings given
    → (set : List Sym) → SetOf group lanes given set → ⊥
not_ready false group lanes rings given n e h set s = n refl s.at s.lock
not_ready true group lanes rings given n e h set s =
    let r = some_empty rings e in
    no_set group lanes rings given h r.0 r.1 r.2 set s

-- not ready: few symbols wait
pub not_ready_short : (locked : Bool) (rings : List (List Sym))
    → (locked ≡ false → (j : ℕ) → j < length rings → length (lane_of rings j) ≤ 19) → Level rings
    → (locked && list_all (λ ring. nat_lt 0 (length ring)) rings) ≡ false → (j : ℕ) → j < length rings
    → length (lane_of rings j) ≤ 64
not_ready_short false rings n v e j l = omega (arith, n refl j l)
not_ready_short true rings n v e j l =
    let r = some_empty rings e in
    omega (arith, v j r.0 l r.1, r.2)

pub locked_has : (locked : Bool) (group : List Sym) (lanes rings : List (List Sym)) (given : ℕ) → locked ≡ true
    → Holds locked group lanes rings given → (m : ℕ) × IsLock group lanes m
locked_has locked group lanes rings given e h =
    let s = subst (λ (b : Bool). Holds b group lanes rings given) e h in
    (s.at, s.lock)

pub can_lock_has : (locked enhanced : Bool) (group : List Sym) (lanes rings : List (List Sym)) (given : ℕ)
    → locked ≡ false → group ≡ sr_group enhanced → is_some (lock_in group rings) ≡ true
    → Holds locked (sr_group enhanced) lanes rings given → (m : ℕ) × IsLock (sr_group enhanced) lanes m
can_lock_has locked enhanced group lanes rings given e g r h =
    let s = subst (λ (b : Bool). Holds b (sr_group enhanced) lanes rings given) e h in
    let t : is_some (lock_in (sr_group enhanced) rings) ≡ true =
    subst (λ (x : List Sym). is_some (lock_in x rings) ≡ true) g r in
    let o = some_of (lock_in (sr_group enhanced) rings) t in
    (s.1.passed + o.0, lock_found (sr_group enhanced) lanes rings s.1 (length (lane_of rings 0)) o.0 o.1)

map_replicate : (lanes : ℕ) → map (λ (lane : List Sym). drop 0 lane) (replicate lanes []) ≡ replicate lanes []
map_replicate zero = refl
map_replicate (suc lanes) = ap (λ (r : List (List Sym)). [] ∷ r) (map_replicate lanes)

pub lane_of-replicate : (lanes j : ℕ) → lane_of (replicate lanes []) j ≡ []
lane_of-replicate zero j = refl
lane_of-replicate (suc lanes) zero = refl
lane_of-replicate (suc lanes) (suc j) = lane_of-replicate lanes j

-- no clock fed
pub nothing : (group : List Sym) (lanes : ℕ) (rings : List (List Sym)) → rings ≡ replicate lanes []
    → Holds false group (replicate lanes []) rings 0
nothing group lanes rings e = (
  refl,
  record {
    clocks = 0;
    even = λ j l. ap length (lane_of-replicate lanes j);
    passed = 0;
    within = omega arith;
    rest = e ∙ sym (map_replicate lanes);
    decided = λ k l. absurd (omega arith);
    none = λ k l m. absurd (omega arith);
  },
)
