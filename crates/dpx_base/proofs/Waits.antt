-- The waits and the asks of lists of entries.
use Rattle.std.proofs.Common.{◌≡◌, ◌+◌, List, [], ◌∷◌, ◌++◌, length, arith}
use Rattle.dpx_base.specs.declared.aux_port.Entry.{Entry}
use Rattle.dpx_base.specs.declared.aux_port.Entry.TheVariants.{Asked, Waited}
use Rattle.dpx_base.specs.Asks.{waits}
use Rattle.dpx_base.specs.Port.{asks}

pub waits-append : (xs ys : List Entry) → waits (xs ++ ys) ≡ waits xs + waits ys
waits-append [] ys = omega arith
waits-append (Asked request answer ∷ xs) ys = waits-append xs ys
waits-append (Waited micros ∷ xs) ys = omega (arith, waits-append xs ys)

-- an entry is an ask or a wait
pub length-entries : (xs : List Entry) → length xs ≡ asks xs + waits xs
length-entries [] = omega arith
length-entries (Asked request answer ∷ xs) = omega (arith, length-entries xs)
length-entries (Waited micros ∷ xs) = omega (arith, length-entries xs)
