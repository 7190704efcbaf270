-- What holds of a native transaction, as of any request that is asked in turn.
use Rattle.std.proofs.Common.{ℕ, ◌≤◌, List, Result}
use Rattle.dpx_base.specs.declared.aux_port.Entry.{Entry}
use Rattle.dpx_base.specs.Port.{asks}
use Rattle.dpx_aux.specs.declared.request.Request.{Request}
use Rattle.dpx_aux.specs.declared.transaction.AuxEnd.{AuxEnd}
use Rattle.dpx_aux.specs.Asking.{asks_at_most}
use Rattle.dpx_aux.specs.Conversation.{IsDecided, Suffices}
use Rattle.dpx_aux.specs.Transaction.{Transaction}
use Rattle.dpx_aux.proofs.Asked.{asking_asks}
use Rattle.dpx_aux.proofs.Decided.{asking_decided}
use Rattle.dpx_aux.proofs.Suffices.{asking_suffices}

pub transaction_decided : (request : Request) → IsDecided (Transaction request)
unfolding Transaction
transaction_decided request = asking_decided _ _ _

pub transaction_suffices : (request : Request) → Suffices asks_at_most (Transaction request)
unfolding Transaction
transaction_suffices request = asking_suffices _ _ _

pub transaction_asks : (request : Request) (given : Result (List ℕ) AuxEnd) (history : List Entry)
    → Transaction request given history → asks history ≤ asks_at_most
unfolding Transaction
transaction_asks request given history t = asking_asks t
