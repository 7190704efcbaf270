-- Lists by the positions of their items.
use Rattle.std.specs.Prelude.{ℕ, List, map}
use Rattle.std.specs.List.{range_with_len}

-- f start, f (start + 1) and so on, so many
unfoldable pub span : {A : Type 0} → (f : ℕ → A) → (start count : ℕ) → List A
span f start count = map f (range_with_len start count)
