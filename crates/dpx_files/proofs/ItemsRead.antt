-- The items of a list, one after another.
use Rattle.std.proofs.Common.{◌≡◌, List, ◌++◌, Option}
use Rattle.std.specs.Prelude.{option_map}
use Rattle.serde_json.specs.Data.{Data}
use Rattle.dpx_files.specs.Items.{all_items}

-- the items so far, in front of what the values that are left give, are what all of them give
pub record HasRead {A : Type 0} (item_of : Data → Option A) (all left : List Data) (items : List A) : Type 0 where
  pub same : all_items item_of all ≡ option_map (λ rest. items ++ rest) (all_items item_of left)
