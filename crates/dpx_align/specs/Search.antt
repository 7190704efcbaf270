-- What is kept of the lanes, and how the lock is looked for.
use Rattle.std.specs.Prelude.{◌≡◌, ℕ, zero, suc, ◌<◌, ◌≤◌, ◌+◌, ◌-◌, Bool, true, false, cond, eqb, ◌&&◌, not, List, []}
use Rattle.std.specs.Prelude.{◌∷◌, ◌++◌, length, drop, map, slice_index_or, Option, Some, None}
use Rattle.std.specs.List.{list_any, list_all}
use Rattle.std.specs.Option.{is_some, unwrap_or}
use Rattle.dpx_base.specs.declared.sym.Sym.{Sym}
use Rattle.dpx_base.specs.Words.{fill}
use Rattle.dpx_lane.specs.Codes.{symbol_of}
use Rattle.dpx_align.specs.Lock.{Meets, IsLock}

abbrev pub bool_eq : Bool → Bool → Bool
bool_eq true b = b
bool_eq false b = not b

abbrev pub sym_eq : Sym → Sym → Bool
sym_eq s t = bool_eq s.control t.control && eqb s.byte t.byte

-- the list begins with the group
unfoldable pub begins_with : List Sym → List Sym → Bool
begins_with [] xs = true
begins_with (g ∷ gs) [] = false
begins_with (g ∷ gs) (x ∷ xs) = sym_eq g x && begins_with gs xs

-- the first of n numbers, from a on, that passes
unfoldable pub scan : ℕ → (ℕ → Bool) → ℕ → Option ℕ
scan zero test a = None
scan (suc n) test a = cond (test a) (Some a) (scan n test (a + 1))

abbrev pub near : List Sym → ℕ → List Sym → Option ℕ
near group m lane = scan 17 (λ g. begins_with group (drop g lane)) m

abbrev pub meets : List Sym → List (List Sym) → ℕ → Bool
meets group lanes m = list_any (λ lane. begins_with group (drop m lane)) lanes && list_all
    (λ lane. is_some (near group m lane)) lanes

-- the start of the lane's first group from clock m on
abbrev pub start : List Sym → ℕ → List Sym → ℕ
start group m lane = unwrap_or (near group m lane) 0

-- the ring's first symbol
abbrev pub head : List Sym → Sym
head ring = slice_index_or ring 0 fill

-- the symbols of rows of codes
abbrev pub decoded : List (List ℕ) → List (List Sym)
decoded rows = map (λ row. map symbol_of row) rows

-- the first place in the rings where the lanes can lock
abbrev pub lock_in : List Sym → List (List Sym) → Option ℕ
lock_in group rings = scan (length (slice_index_or rings 0 [])) (meets group rings) 0

-- what the rings keep after a search: each lane from its first group on, or the clocks that can still begin a lock
abbrev pub kept : List Sym → List (List Sym) → Option ℕ → List (List Sym)
kept group rings None = map (λ ring. drop (length (slice_index_or rings 0 []) - (15 + length group)) ring) rings
kept group rings (Some m) = map (λ ring. drop (start group m ring) ring) rings

-- each lane goes on by its row
abbrev pub lengthened : {A : Type 0} → (lanes rows : List (List A)) → List (List A)
lengthened [] rows = []
lengthened (x ∷ xs) [] = x ∷ xs
lengthened (x ∷ xs) (y ∷ ys) = (x ++ y) ∷ lengthened xs ys

-- no lock so far: the rings hold the lanes from a clock on, before which no lock can be
pub record Seeking (group : List Sym) (lanes rings : List (List Sym)) : Type 0 where
  pub clocks : ℕ
  pub even : (j : ℕ) → j < length lanes → length (slice_index_or lanes j []) ≡ clocks
  pub passed : ℕ
  pub within : passed ≤ clocks
  pub rest : rings ≡ map (λ lane. drop passed lane) lanes
  pub decided : (k : ℕ) → k < passed → k + 16 + length group ≤ clocks
  pub none : (k : ℕ) → k < passed → Meets group lanes k → ⊥

-- the lock stands, and each ring holds its lane from the next set on
pub record Locked (group : List Sym) (lanes rings : List (List Sym)) (given : ℕ) : Type 0 where
  pub at : ℕ
  pub lock : IsLock group lanes at
  pub rest : rings ≡ map (λ lane. drop (start group at lane + given) lane) lanes
  pub room : (j : ℕ) → j < length lanes → start group at (slice_index_or lanes j []) + given ≤ length
      (slice_index_or lanes j [])

-- the rings are equally long
abbrev pub Even : List (List Sym) → Type 0
Even rings = (j : ℕ) → j < length rings → length (slice_index_or rings j []) ≡ length (slice_index_or rings 0 [])

-- the rings' lengths are at most 16 apart
abbrev pub Level : List (List Sym) → Type 0
Level rings = (i j : ℕ) → i < length rings → j < length rings
    → length (slice_index_or rings i []) ≤ length (slice_index_or rings j []) + 16

-- the rings hold what is still needed of the lanes, with a lock or without
abbrev pub Holds : Bool → List Sym → List (List Sym) → List (List Sym) → ℕ → Type 0
Holds false group lanes rings given = (given ≡ 0) × Seeking group lanes rings
Holds true group lanes rings given = Locked group lanes rings given
