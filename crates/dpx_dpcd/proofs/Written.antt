-- Registers that are read or written, one after the other.
use Rattle.std.proofs.Common.{◌≡◌, ℕ, ◌+◌, ◌<◌, ◌==◌, ◌&&◌, if◌then◌else◌, List, [], ◌∷◌, ◌++◌, length, map, take, set}
use Rattle.std.proofs.Common.{slice_index, ap, sym, ◌∙◌, refl, arith}
use Rattle.std.specs.List.{range_with_len}
use Rattle.std.proofs.lemmas.List.{take_more_set}
use Rattle.std.proofs.lemmas.List.FromFn.{map-range_with_len_more}
use Rattle.std.proofs.lemmas.Grind.{common_steps}
use Rattle.dpx_dpcd.specs.RegFile.{is_writable, written}

-- one more is read
pub reads_more : (f : ℕ → ℕ) (bytes : List ℕ) (first n place value : ℕ) → n < length bytes → place ≡ n
    → value ≡ f (first + n) → take n bytes ≡ map f (range_with_len first n)
    → take (n + 1) (set bytes place value) ≡ map f (range_with_len first (n + 1))
reads_more f bytes first n place value inside at is before =
    let more = take_more_set bytes n value inside in
    let next = map-range_with_len_more f first n (first + n) refl in
    let front : take n bytes ++ value ∷ [] ≡ map f (range_with_len first n) ++ f (first + n) ∷ [] = cc in
    ap (λ k. take (n + 1) (set bytes k value)) at ∙ (more ∙ (front ∙ sym next))

-- none is written
pub writes_none : (registers : ℕ → ℕ) (first : ℕ) (bytes : List ℕ) (x : ℕ)
    → registers x ≡ written registers first (take 0 bytes) x
unfolding written
writes_none registers first bytes x = grind (arith, common_steps)

-- one more is written: what stood there is known, and what stands there now
pub writes_more : (registers : ℕ → ℕ) (first : ℕ) (bytes : List ℕ) (n x old new : ℕ) → n < length bytes
    → old ≡ written registers first (take n bytes) x
    → new ≡ (if (x == first + n) && is_writable x then slice_index bytes n else old)
    → new ≡ written registers first (take (n + 1) bytes) x
unfolding written
writes_more registers first bytes n x old new inside before now = grind (arith, common_steps)
