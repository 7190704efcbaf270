-- What holds of all accepted lists of sets.
use Rattle.std.specs.Prelude.{ℕ, ◌≡◌, ◌≢◌, ◌++◌, Bool, false, List}
use Rattle.std.specs.List.{AllByRecursion}
use Rattle.dpx_base.specs.declared.lanes.Lanes.{Lanes}
use Rattle.dpx_base.specs.declared.sym.Sym.{Sym}
use Rattle.dpx_base.specs.Lanes.{lanes_count}
use Rattle.dpx_base.specs.Symbols.{control_symbol, bf, cp}
use Rattle.dpx_grammar.specs.Accepted.{Frame, Receives, IsAccepted}

-- What is received of a list of sets is one: no other frames and no other tail.
abbrev pub IsOneReception : Type 0
IsOneReception =
    (enhanced : Bool) (lanes : Lanes) (sets : List (List Sym)) (frames others : List Frame) (tail other : ℕ)
    → Receives enhanced (lanes_count lanes) sets frames tail → Receives enhanced (lanes_count lanes) sets others other
    → (frames ≡ others) × (tail ≡ other)

-- Every front of an accepted list is accepted.
abbrev pub FrontsAreAccepted : Type 0
FrontsAreAccepted =
    (enhanced : Bool) (lanes : Lanes) (sets more : List (List Sym))
    → IsAccepted enhanced (lanes_count lanes) (sets ++ more) → IsAccepted enhanced (lanes_count lanes) sets

abbrev pub IsPlain : Sym → Type 0
IsPlain symbol = (symbol ≢ control_symbol bf) × (symbol ≢ control_symbol cp)

-- In default framing BF and CP are never accepted, on any lane.
abbrev pub DefaultHasNoBf : Type 0
DefaultHasNoBf =
    (lanes : Lanes) (sets : List (List Sym)) → IsAccepted false (lanes_count lanes) sets
    → AllByRecursion (λ set. AllByRecursion IsPlain set) sets
