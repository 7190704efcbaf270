-- What is known of a disparity behind words whose start is not known.
use Rattle.std.specs.Prelude.{◌≡◌, ℕ, ◌⊎◌, Bool, true, false, if◌then◌else◌, List, [], ◌∷◌, Option, Some, None}
use Rattle.dpx_base.specs.Code.{next_disparity}
use Rattle.dpx_code.specs.Back.{stands}
use Rattle.dpx_code.specs.declared.disparity.Rd.{Rd}
use Rattle.dpx_code.specs.declared.disparity.Rd.TheVariants.{Minus, Plus, Unknown}

-- the disparity behind words that stand one after another, from this one on
unfoldable pub ends : Option Bool → List ℕ → Option Bool
ends None words = None
ends (Some plus) [] = Some plus
ends (Some plus) (word ∷ words) =
    ends (if stands plus word then Some (next_disparity word plus) else None) words

-- The words have a list from one of minus and plus alone, and it ends here.
abbrev pub EndsKnown : Bool → (from_minus from_plus : Option Bool) → Type 0
EndsKnown plus from_minus from_plus =
    ((from_minus ≡ Some plus) × (from_plus ≡ None)) ⊎ ((from_minus ≡ None) × (from_plus ≡ Some plus))

abbrev pub EndsAs : Rd → (from_minus from_plus : Option Bool) → Type 0
EndsAs Minus from_minus from_plus = EndsKnown false from_minus from_plus
EndsAs Plus from_minus from_plus = EndsKnown true from_minus from_plus
EndsAs Unknown from_minus from_plus = (from_minus ≡ Some false) × (from_plus ≡ Some true)

-- this is what is known of the disparity behind these words
abbrev pub Tracks : Rd → List ℕ → Type 0
Tracks rd words = EndsAs rd (ends (Some false) words) (ends (Some true) words)

-- no list from either disparity has these words
abbrev pub Stuck : List ℕ → Type 0
Stuck words = (ends (Some false) words ≡ None) × (ends (Some true) words ≡ None)
