-- What stands in a slice that was put back.
use Rattle.std.proofs.Common.{◌≡◌, ℕ, List, ◌++◌, length, take, drop}
use Rattle.std.proofs.Math.Seq.{take-append_seam}

-- a slice put back whole is what stands there
pub put_back : (len : ℕ) (new old : List ℕ) → len ≡ length new → take len (new ++ drop (length new) old) ≡ new
put_back len new old e = rw e (take-append_seam new (drop (length new) old))
