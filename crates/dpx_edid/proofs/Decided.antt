-- For given answers there is one fetch.
use Rattle.std.proofs.Common.{ℕ, zero, suc, ◌++◌, ◌==◌, List, length, sym, ap, ◌∙◌}
use Rattle.dpx_base.specs.declared.aux_port.Entry.{Entry}
use Rattle.dpx_base.specs.Port.{asks}
use Rattle.dpx_aux.specs.Conversation.{IsDecided}
use Rattle.dpx_aux.proofs.Decided.{asking_decided, ends_decided, choice_decided, then_decided, never_decided}
use Rattle.dpx_edid.specs.declared.i2c.I2c.{I2c}
use Rattle.dpx_edid.specs.Fetch.{I2cTransaction, Reads, FetchOutcome, Fetch, block_length, reads_at_most, end_of}

transaction_decided : (request : I2c) → IsDecided (I2cTransaction request)
unfolding I2cTransaction
transaction_decided request = asking_decided _ _ _

reads_decided : (left : ℕ) (got : List ℕ) → IsDecided (Reads left got)
unfolding Reads
reads_decided zero got = choice_decided (length got == block_length) (ends_decided _) never_decided
reads_decided (suc left) got =
    choice_decided (length got == block_length) (ends_decided _)
    (then_decided (transaction_decided _) (λ brought. reads_decided left (got ++ brought)))

outcome_decided : IsDecided FetchOutcome
unfolding FetchOutcome
outcome_decided = then_decided (transaction_decided _) (λ started. reads_decided reads_at_most _)

pub fetch_decided : IsDecided Fetch
fetch_decided r s xs ys later after a b e =
    let same = outcome_decided a.outcome b.outcome xs ys later after a.fetches b.fetches e in (
      same.0,
      a.ends ∙ (ap (λ (history : List Entry). end_of (asks history) a.outcome) same.0
          ∙ ap (end_of (asks ys)) same.1) ∙ sym b.ends,
    )
