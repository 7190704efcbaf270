-- What a parser stands for, and what it answers.
use Rattle.std.specs.Prelude.{ℕ, ◌≡◌, Bool, List, [], ◌∷◌, ◌++◌, length, Some, None}
use Rattle.dpx_base.specs.declared.lanes.Lanes.{Lanes}
use Rattle.dpx_base.specs.declared.sym.Sym.{Sym}
use Rattle.dpx_base.specs.Lanes.{lanes_count}
use Rattle.dpx_grammar.specs.Accepted.{Frame, Receives, IsAccepted}
use Rattle.dpx_parse.specs.declared.bad.ParseBad.{ParseBad}
use Rattle.dpx_parse.specs.declared.event.Event.{Event}
use Rattle.dpx_parse.specs.declared.parser.Parser.{Parser}
use Rattle.dpx_parse.specs.FirstFault.{IsEvent, IsFirstFault}
use Rattle.dpx_parse.specs.Stands.{Stands, number_of}

-- the link that it reads
abbrev pub lanes_of : Parser → Lanes
lanes_of p = p.core.lanes

abbrev pub enhanced_of : Parser → Bool
enhanced_of p = p.core.enhanced

-- it has taken these sets, and refused none
pub record StandsFor (p : Parser) (sets : List (List Sym)) : Type 0 where
  pub core : Stands p.core sets
  pub number : p.number ≡ number_of (length sets)
  pub refused : p.refused ≡ None

-- it has taken these sets, and refused the one behind them or none
abbrev pub HasTaken : Parser → List (List Sym) → Type 0
HasTaken p sets = Stands p.core sets

abbrev pub HasRefused : Parser → ParseBad → Type 0
HasRefused p bad = p.refused ≡ Some bad

-- the set is accepted behind those, and tells this
pub record Accepts (enhanced : Bool) (lanes : Lanes) (sets : List (List Sym)) (set : List Sym) (event : Event)
    (now : Parser) : Type 0 where
  pub stands : StandsFor now (sets ++ set ∷ [])
  pub accepted : IsAccepted enhanced (lanes_count lanes) (sets ++ set ∷ [])
  pub tells : IsEvent enhanced (lanes_count lanes) sets set event

-- the set is the first fault behind those, which are counted as far as 64 bits go
pub record Refuses (enhanced : Bool) (lanes : Lanes) (sets : List (List Sym)) (set : List Sym)
    (bad : ParseBad) : Type 0 where
  pub number : bad.set ≡ number_of (length sets)
  pub fault : IsFirstFault enhanced (lanes_count lanes) sets set bad.why

-- so many sets has the unfinished line of whatever is received of these, as far as 64 bits go
abbrev pub IsTail : Bool → Lanes → List (List Sym) → ℕ → Type 0
IsTail enhanced lanes sets n =
    (frames : List Frame) (tail : ℕ) → Receives enhanced (lanes_count lanes) sets frames tail → n ≡ number_of tail
