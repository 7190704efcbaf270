-- The words of all codes.
use Rattle.std.specs.Prelude.{◌≡◌, ℕ, ◌%◌, ◌<◌, Bool, nat_le, List, length, slice_index, IsTrue}
use Rattle.dpx_base.specs.Code.{Codes}
use Rattle.dpx_lane.specs.Codes.{is_code, symbol_of}

-- an entry is a code's word, plus 1024 where that leaves plus
unfoldable pub IsEntry : (entry : ℕ) → (plus : Bool) → (code : ℕ) → Type 0
IsEntry entry plus code = Codes (symbol_of code) plus (entry % 1024) (nat_le 1024 entry)

-- the entries at minus, then those at plus
unfoldable pub IsEntryAt : (k entry : ℕ) → Type 0
IsEntryAt k entry = IsTrue (is_code (k % 512)) → IsEntry entry (nat_le 512 k) (k % 512)

abbrev pub AreEntries : List ℕ → Type 0
AreEntries entries = (length entries ≡ 1024) × ((k : ℕ) → k < 1024 → IsEntryAt k (slice_index entries k))
