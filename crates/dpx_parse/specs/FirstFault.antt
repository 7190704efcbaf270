-- The first fault of a list of sets.
use Rattle.std.specs.Prelude.{ℕ, ◌≡◌, ◌≤◌, ◌⊎◌, List, [], ◌∷◌, ◌++◌, length, reverse, Bool, Some}
use Rattle.dpx_base.specs.declared.sym.Sym.{Sym}
use Rattle.dpx_base.specs.Symbols.{cp}
use Rattle.dpx_grammar.specs.Accepted.{IsAccepted}
use Rattle.dpx_grammar.specs.Parts.{Part, group, data_set, control_set, begun, IsCut}
use Rattle.dpx_parse.specs.declared.bad.ParseWhy.{ParseWhy}
use Rattle.dpx_parse.specs.declared.bad.ParseWhy.TheVariants.{Mixed, Protected, BadGroup, BadControl}
use Rattle.dpx_parse.specs.declared.event.Event.{Event}
use Rattle.dpx_parse.specs.Events.{event_told}
use Rattle.dpx_parse.specs.Faults.{AllStand, newest}

-- a list of sets tells these parts, the last as far as it is told
pub record Tells (enhanced : Bool) (lanes : ℕ) (sets : List (List Sym)) (parts : List Part) : Type 0 where
  pub whole : List Part
  pub next : Part
  pub front : List (List Sym)
  pub cut : IsCut enhanced lanes sets whole next front
  pub parts_are : parts ≡ whole ++ begun next front

-- it is a prefix of a list of periods, and each part may stand where it does
pub record HasNoFault (enhanced : Bool) (lanes : ℕ) (sets : List (List Sym)) : Type 0 where
  pub parts : List Part
  pub tells : Tells enhanced lanes sets parts
  pub stand : AllStand lanes (reverse parts)

-- all lanes carry data, or the same control symbol
abbrev pub IsUniform : List Sym → Type 0
IsUniform set = ((row : List ℕ) × (set ≡ data_set row)) ⊎ ((code : ℕ) × (set ≡ control_set (length set) code))

-- so many sets of a group stand at the end
abbrev pub IsInGroup : Bool → ℕ → List (List Sym) → ℕ → Type 0
IsInGroup enhanced lanes sets n =
    (whole : List Part) × (reset : Bool) × (front : List (List Sym))
    × IsCut enhanced lanes sets whole (group reset) front × (length front ≡ n)

-- the reason of a uniform set that continues no prefix of a list of periods
abbrev pub IsUnframed : Bool → ℕ → List (List Sym) → List Sym → ParseWhy → Type 0
IsUnframed enhanced lanes sets set Protected =
    (n : ℕ) × (1 ≤ n) × (n ≤ 2) × IsInGroup enhanced lanes sets n × (set ≡ control_set lanes cp)
IsUnframed enhanced lanes sets set BadGroup =
    (n : ℕ) × (1 ≤ n) × (n ≤ 3) × IsInGroup enhanced lanes sets n × (n ≤ 2 → set ≡ control_set lanes cp → ⊥)
IsUnframed enhanced lanes sets set BadControl = (n : ℕ) → 1 ≤ n → IsInGroup enhanced lanes sets n → ⊥
IsUnframed enhanced lanes sets set _ = ⊥

-- the first reason that holds: the set is mixed; or continues nothing; or the newest part may not stand there
pub record IsMixed (set : List Sym) (why : ParseWhy) : Type 0 where
  pub mixed : IsUniform set → ⊥
  pub is_mixed : why ≡ Mixed

pub record IsStray (enhanced : Bool) (lanes : ℕ) (sets : List (List Sym)) (set : List Sym)
    (why : ParseWhy) : Type 0 where
  pub uniform : IsUniform set
  pub stray : (parts : List Part) → Tells enhanced lanes (sets ++ set ∷ []) parts → ⊥
  pub unframed : IsUnframed enhanced lanes sets set why

pub record IsWrong (enhanced : Bool) (lanes : ℕ) (sets : List (List Sym)) (set : List Sym)
    (why : ParseWhy) : Type 0 where
  pub parts : List Part
  pub tells : Tells enhanced lanes (sets ++ set ∷ []) parts
  pub wrong : newest lanes (reverse parts) ≡ Some why

abbrev pub IsReason : Bool → ℕ → List (List Sym) → List Sym → ParseWhy → Type 0
IsReason enhanced lanes sets set why = IsMixed set why
    ⊎ (IsStray enhanced lanes sets set why ⊎ IsWrong enhanced lanes sets set why)

-- the set behind those is the first that is not accepted, and this is its reason
pub record IsFirstFault (enhanced : Bool) (lanes : ℕ) (sets : List (List Sym)) (set : List Sym)
    (why : ParseWhy) : Type 0 where
  pub before : IsAccepted enhanced lanes sets
  pub fault : IsAccepted enhanced lanes (sets ++ set ∷ []) → ⊥
  pub reason : IsReason enhanced lanes sets set why

-- what a set that is accepted behind those tells
pub record IsEvent (enhanced : Bool) (lanes : ℕ) (sets : List (List Sym)) (set : List Sym)
    (event : Event) : Type 0 where
  pub old : List Part
  pub old_are : Tells enhanced lanes sets old
  pub new : List Part
  pub new_are : Tells enhanced lanes (sets ++ set ∷ []) new
  pub event_is : event ≡ event_told lanes (reverse old) (reverse new)
