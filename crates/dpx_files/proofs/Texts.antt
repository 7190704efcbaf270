-- The values of texts and of arrays.
use Rattle.std.proofs.Common.{◌≡◌, ℕ, Bool, true, false, List, [], ◌∷◌, refl, ap}
use Rattle.std.specs.Prelude.{None, IsUtf8, if◌then◌else◌}
use Rattle.std.specs.Str.{is_utf8}
use Rattle.std.proofs.lemmas.Str.{IsUtf8-from_is_utf8, is_utf8-from_IsUtf8}
use Rattle.serde_json.specs.Data.{Data}
use Rattle.serde_json.specs.Read.{read}
use Rattle.serde_json.specs.View.{items_of}
use Rattle.dpx_files.specs.Members.{json_of, list_of}

-- a text in UTF-8 is what serde_json reads
pub json_of-text : (bytes : List ℕ) → IsUtf8 bytes → json_of bytes ≡ read bytes
unfolding json_of
json_of-text bytes text = rw (is_utf8-from_IsUtf8 bytes text)

-- where serde_json reads no text in UTF-8, there is none
pub json_of-none : (bytes : List ℕ) → (IsUtf8 bytes → read bytes ≡ None) → json_of bytes ≡ None
unfolding json_of
json_of-none bytes reads =
    let by_test : (test : Bool) → (test ≡ true → IsUtf8 bytes) → (if test then read bytes else None) ≡ None =
    λ test. elim test as (λ t. (t ≡ true → IsUtf8 bytes) → (if t then read bytes else None) ≡ None) [ true ↦ λ is. reads (is refl) | false ↦ λ is. refl ]
    in by_test (is_utf8 bytes) (IsUtf8-from_is_utf8 bytes)

-- an array's values
pub list_of-items_of : (values : List Data) → list_of (items_of values) ≡ values
list_of-items_of [] = refl
list_of-items_of (value ∷ values) = ap (λ rest. value ∷ rest) (list_of-items_of values)
