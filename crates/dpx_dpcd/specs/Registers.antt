-- What a source does with a sink's registers, each in one transaction.
use Rattle.std.specs.Prelude.{ℕ, List, Result, Ok, ⊤}
use Rattle.dpx_base.specs.declared.aux_port.Entry.{Entry}
use Rattle.dpx_aux.specs.declared.request.Request.TheVariants.{Read, Write}
use Rattle.dpx_aux.specs.declared.transaction.AuxEnd.{AuxEnd}
use Rattle.dpx_aux.specs.Conversation.{Ends, ◌>>=◌}
use Rattle.dpx_aux.specs.Transaction.{Transaction}
use Rattle.dpx_dpcd.specs.declared.status.Status6.{Status6}
use Rattle.dpx_dpcd.specs.RegisterMap.{lane0_1_status}

-- registers are written from an address on
abbrev pub Writes : ℕ → List ℕ → Result ⊤ AuxEnd → List Entry → Type 0
Writes address bytes = do
  nothing ← Transaction (Write address bytes)
  Ends (Ok tt)

-- sixteen registers are read from an address on
abbrev pub ReadsBlock : ℕ → Result (List ℕ) AuxEnd → List Entry → Type 0
ReadsBlock address = do
  bytes ← Transaction (Read address 16)
  Ends (Ok bytes)

-- the status is read: 00202 to 00207
abbrev pub ReadsStatus : Result Status6 AuxEnd → List Entry → Type 0
ReadsStatus = do
  bytes ← Transaction (Read lane0_1_status 6)
  Ends (Ok (record { bytes = bytes }))
