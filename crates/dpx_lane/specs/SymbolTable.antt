-- The symbols of all words.
use Rattle.std.specs.Prelude.{◌≡◌, ℕ, ◌%◌, ◌/◌, ◌<◌, ◌==◌, if◌then◌else◌, List, length, slice_index, Ok}
use Rattle.dpx_code.specs.Decode.{decoded}
use Rattle.dpx_code.specs.declared.disparity.Rd.{Rd}
use Rattle.dpx_code.specs.declared.disparity.Rd.TheVariants.{Minus, Plus, Unknown}
use Rattle.dpx_lane.specs.Codes.{symbol_of}

abbrev pub rd_numbered : ℕ → Rd
rd_numbered n = if n == 0 then Minus else if n == 1 then Plus else Unknown

-- an entry that is no refusal is the symbol's code, and 512 times the number of the next disparity
unfoldable pub IsEntryAt : (k entry : ℕ) → Type 0
IsEntryAt k entry =
    entry < 65535
    → decoded (k % 1024) (rd_numbered (k / 1024)) ≡ Ok (symbol_of (entry % 512), rd_numbered (entry / 512))

abbrev pub AreEntries : List ℕ → Type 0
AreEntries entries = (length entries ≡ 3072) × ((k : ℕ) → k < 3072 → IsEntryAt k (slice_index entries k))
