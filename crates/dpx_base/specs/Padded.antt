-- Short lists that are kept in arrays of a fixed length: this project's own.
use Rattle.std.specs.Prelude.{◌≡◌, ℕ, ◌-◌, ◌≤◌, ◌++◌, List, length, take, replicate}
use Rattle.std.proofs.Common.{ap, ◌∙◌}

-- the list with fillers behind it, up to a length
abbrev pub padded : {X : Type 0} → (room : ℕ) (filler : X) → List X → List X
padded room filler items = items ++ replicate (room - length items) filler

-- an array holds a list in its first places, and fillers behind it
pub record IsPadded {X : Type 0} (least room : ℕ) (filler : X) (array : List X) (count : ℕ) : Type 0 where
  pub some : least ≤ count
  pub few : count ≤ room
  pub count_is : length (take count array) ≡ count
  pub array_is : padded room filler (take count array) ≡ array

-- the array is made again from the list
pub fields_back : {X Fields : Type 0} {least room : ℕ} {filler : X} {array : List X} {count : ℕ}
    (fields : List X → ℕ → Fields) → IsPadded least room filler array count
    → fields (padded room filler (take count array)) (length (take count array)) ≡ fields array count
fields_back {array = array} {count = count} fields held =
    ap (λ items. fields items (length (take count array))) held.array_is ∙ ap (fields array) held.count_is
