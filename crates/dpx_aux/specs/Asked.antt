-- Which registers the requests of a history read or write: this project's own.
use Rattle.std.specs.Prelude.{◌≡◌, ℕ, ◌+◌, ◌&&◌, Bool, false, nat_lt, List, [], ◌∷◌, length, Result, Ok, Err, ⊤}
use Rattle.dpx_base.specs.declared.aux_port.Entry.{Entry}
use Rattle.dpx_base.specs.declared.aux_port.Entry.TheVariants.{Asked, Waited}
use Rattle.dpx_aux.specs.declared.request.AuxBad.{AuxBad}
use Rattle.dpx_aux.specs.declared.request.Request.{Request}
use Rattle.dpx_aux.specs.declared.request.Request.TheVariants.{Read, Write}
use Rattle.dpx_aux.specs.Request.{read_request}

-- two runs of addresses, each a first one and a count, have an address in common
abbrev pub overlap : ℕ → ℕ → ℕ → ℕ → Bool
overlap first count other many = nat_lt first (other + many) && nat_lt other (first + count)

-- the request reads one of so many registers
abbrev pub reads_of : ℕ → ℕ → Result Request AuxBad → Bool
reads_of first count (Ok (Read address many)) = overlap first count address many
reads_of first count (Ok (Write address bytes)) = false
reads_of first count (Err bad) = false

-- the request writes one of so many registers
abbrev pub writes_of : ℕ → ℕ → Result Request AuxBad → Bool
writes_of first count (Ok (Read address many)) = false
writes_of first count (Ok (Write address bytes)) = overlap first count address (length bytes)
writes_of first count (Err bad) = false

-- no request of these entries passes the test
abbrev pub AsksNone : (Result Request AuxBad → Bool) → List Entry → Type 0
AsksNone test [] = ⊤
AsksNone test (Asked bytes answer ∷ entries) = (test (read_request bytes) ≡ false) × AsksNone test entries
AsksNone test (Waited micros ∷ entries) = AsksNone test entries
