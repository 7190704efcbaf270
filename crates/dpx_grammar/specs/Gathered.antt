-- Main stream attributes out of the rows that carry them: VESA DisplayPort 1.4a, main stream attributes.
use Rattle.std.specs.Prelude.{ℕ, ◌+◌, ◌*◌, ◌/◌, ◌%◌, List, [], map, slice_index, slice_index_or}
use Rattle.std.specs.List.{range_with_len}

-- the 36 bytes that rows carry: column k is on lane k % L, behind the columns that the lane has before it
unfoldable pub gathered : (lanes : ℕ) → List (List ℕ) → List ℕ
gathered lanes rows =
    map (λ place. slice_index (slice_index_or rows (place / 9 / lanes * 9 + place % 9) []) (place / 9 % lanes))
    (range_with_len 0 36)
