-- Words that begin with a dash: they have no reading here. This project's own.
use Rattle.std.specs.Prelude.{ℕ, List, [], ◌∷◌, ◌≡◌, ◌==◌, false, Bool}
use Rattle.std.specs.List.{AllByRecursion}

abbrev pub has_dash : List ℕ → Bool
has_dash [] = false
has_dash (byte ∷ bytes) = byte == 45

abbrev pub HasNoDash : List (List ℕ) → Type 0
HasNoDash words = AllByRecursion (λ word. has_dash word ≡ false) words
