-- What the deskew of lanes stands for, and hands out.
use Rattle.std.specs.Prelude.{ℕ, ◌<◌, ◌≤◌, ◌+◌, List, length, Option, Some, None}
use Rattle.dpx_base.specs.declared.sym.Sym.{Sym}
use Rattle.dpx_align.specs.Lock.{sr_group, lane_of, SetOf}
use Rattle.dpx_align.specs.Search.{Holds}
use Rattle.dpx_align.specs.declared.deskew.Deskew.{Deskew}

-- it took these symbols of the lanes
abbrev pub HasTaken : Deskew → (plain : List (List Sym)) → Type 0
HasTaken d plain = Holds d.locked (sr_group d.enhanced) plain d.rings d.given

-- the next set, or that none is complete
abbrev pub IsNext : Deskew → (plain : List (List Sym)) → Option (List Sym) → Type 0
IsNext d plain (Some set) = SetOf (sr_group d.enhanced) plain d.given set
IsNext d plain None = (set : List Sym) → SetOf (sr_group d.enhanced) plain d.given set → ⊥

-- at most 64 symbols wait on each lane, so that a batch has room
abbrev pub IsRested : Deskew → Type 0
IsRested d = (lane : ℕ) → lane < length d.rings → length (lane_of d.rings lane) ≤ 64

-- where no set is complete, a batch has room
abbrev pub RestsAt : Deskew → Option (List Sym) → Type 0
RestsAt d (Some set) = Unit {0}
RestsAt d None = IsRested d

-- how many sets were handed out, with this one
abbrev pub given_with : Deskew → Option (List Sym) → ℕ
given_with d (Some set) = d.given + 1
given_with d None = d.given
