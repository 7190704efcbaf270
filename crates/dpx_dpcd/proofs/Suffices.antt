-- How many answers suffice for a read or a write of a sink's registers.
use Rattle.std.proofs.Common.{ℕ, List}
use Rattle.dpx_aux.specs.Conversation.{Suffices}
use Rattle.dpx_aux.specs.Asking.{asks_at_most}
use Rattle.dpx_aux.proofs.Suffices.{ends_suffice, then_suffices}
use Rattle.dpx_aux.proofs.Transacts.{transaction_suffices}
use Rattle.dpx_dpcd.specs.Registers.{ReadsBlock, ReadsStatus, Writes}

pub writes_suffice : (address : ℕ) (bytes : List ℕ) → Suffices asks_at_most (Writes address bytes)
writes_suffice address bytes =
    then_suffices asks_at_most 0 (transaction_suffices _) (λ nothing. ends_suffice 0 _)

pub block_suffices : (address : ℕ) → Suffices asks_at_most (ReadsBlock address)
block_suffices address = then_suffices asks_at_most 0 (transaction_suffices _) (λ bytes. ends_suffice 0 _)

pub status_suffices : Suffices asks_at_most ReadsStatus
status_suffices = then_suffices asks_at_most 0 (transaction_suffices _) (λ bytes. ends_suffice 0 _)
