-- Lists in a job: this project's own.
use Rattle.std.specs.Prelude.{ℕ, nat_le, if◌then◌else◌, List, [], ◌∷◌, length, Option, Some, None, option_map}
use Rattle.std.specs.Prelude.{option_and_then, Result}
use Rattle.serde_json.specs.Data.{Data}
use Rattle.dpx_files.specs.declared.refusal.Field.{Field}
use Rattle.dpx_files.specs.Refusal.{wanted}
use Rattle.dpx_files.specs.Members.{elements}

module _ {A : Type 0} where
  -- every value is an item
  abbrev pub all_items : (Data → Option A) → List Data → Option (List A)
  all_items item_of [] = Some []
  all_items item_of (value ∷ values) =
      option_and_then (λ item. option_map (λ items. item ∷ items) (all_items item_of values)) (item_of value)

  -- few enough of them
  abbrev pub few_items : ℕ → (Data → Option A) → List Data → Option (List A)
  few_items most item_of values = if nat_le (length values) most then all_items item_of values else None

  -- a field that is a list of at most so many items
  abbrev pub items_of : Field → ℕ → (Data → Option A) → Data → Result (List A) Field
  items_of field most item_of list = wanted field (option_and_then (few_items most item_of) (elements list))
