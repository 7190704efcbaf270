-- Texts, one behind the other.
use Rattle.std.proofs.Common.{ℕ, ◌≡◌, ◌∙◌, List, ◌++◌, ap}

-- a text behind others
pub behind : (before now text all : List ℕ) → now ≡ before ++ text → before ≡ all → now ≡ all ++ text
behind before now text all e h = e ∙ ap (λ xs. xs ++ text) h
