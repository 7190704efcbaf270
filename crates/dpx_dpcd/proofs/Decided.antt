-- The answers decide what is read and written of a sink's registers.
use Rattle.std.proofs.Common.{ℕ, List}
use Rattle.dpx_aux.specs.Conversation.{IsDecided}
use Rattle.dpx_aux.proofs.Decided.{ends_decided, then_decided}
use Rattle.dpx_aux.proofs.Transacts.{transaction_decided}
use Rattle.dpx_dpcd.specs.Registers.{ReadsBlock, ReadsStatus, Writes}

pub writes_decided : (address : ℕ) (bytes : List ℕ) → IsDecided (Writes address bytes)
writes_decided address bytes = then_decided (transaction_decided _) (λ nothing. ends_decided _)

pub block_decided : (address : ℕ) → IsDecided (ReadsBlock address)
block_decided address = then_decided (transaction_decided _) (λ bytes. ends_decided _)

pub status_decided : IsDecided ReadsStatus
status_decided = then_decided (transaction_decided _) (λ bytes. ends_decided _)
