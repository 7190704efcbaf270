-- The ranges that tests show.
use Rattle.std.proofs.Common.{ℕ, ◌≡◌, ◌≤◌, Bool, true, arith}
use Rattle.std.proofs.lemmas.Bool.Decides.{nat_tests}
use Rattle.dpx_base.specs.RawMode.{is_within}

pub range_shown : (low high n : ℕ) (b : Bool) → b ≡ is_within low high n → b ≡ true → (low ≤ n) × (n ≤ high)
range_shown low high n b is shown = grind (arith, nat_tests)
