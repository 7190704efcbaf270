-- What is received of the words that a source sends.
use Rattle.std.specs.Prelude.{◌≡◌, ℕ, ◌<◌, Bool, false, List, [], ◌++◌, length, map, replicate, slice_index_or}
use Rattle.std.specs.Prelude.{slice_get, Some}
use Rattle.dpx_base.specs.Key.{is_reset}
use Rattle.dpx_base.specs.Words.{fill}
use Rattle.dpx_base.specs.declared.sym.Sym.{Sym}
use Rattle.dpx_align.specs.Faults.{NoFault}
use Rattle.dpx_align.specs.Lock.{sr_group, IsLock, SetOf}

-- the group whose first symbol is SR, on all lanes
abbrev pub group_sets : (enhanced : Bool) → (lanes : ℕ) → List (List Sym)
group_sets enhanced lanes = map (λ symbol. replicate lanes symbol) (sr_group enhanced)

-- the first SR of the sets, on any lane, begins a group
pub record FirstGroup (enhanced : Bool) (lanes : ℕ) (sets : List (List Sym)) : Type 0 where
  pub before : List (List Sym)
  pub rest : List (List Sym)
  pub parts : sets ≡ before ++ (group_sets enhanced lanes ++ rest)
  pub none : (k lane : ℕ) → k < length before → is_reset (slice_index_or (slice_index_or before k []) lane fill) ≡ false

-- what is received of words that have these symbols: no word fault; the lock at this clock; and exactly these sets
pub record Received (enhanced : Bool) (words : List (List ℕ)) (plain : List (List Sym)) (clock : ℕ)
    (sets : List (List Sym))
    : Type 0 where
  pub no_fault : NoFault words
  pub lock : IsLock (sr_group enhanced) plain clock
  pub sets_there : (s : ℕ) (set : List Sym) → slice_get sets s ≡ Some set → SetOf (sr_group enhanced) plain s set
  pub no_others : (s : ℕ) (set : List Sym) → SetOf (sr_group enhanced) plain s set → slice_get sets s ≡ Some set

-- each set has a symbol for each lane
abbrev pub Wide : (lanes : ℕ) → List (List Sym) → Type 0
Wide lanes sets = (k : ℕ) → k < length sets → length (slice_index_or sets k []) ≡ lanes
