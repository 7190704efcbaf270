-- How many answers suffice for a fetch.
use Rattle.std.proofs.Common.{ℕ, zero, suc, ◌+◌, ◌-◌, ◌*◌, ◌<◌, ◌==◌, List, [], ◌++◌, length}
use Rattle.std.proofs.Common.{refl, arith}
use Rattle.std.proofs.lemmas.Grind.{common_steps}
use Rattle.dpx_base.specs.Port.{asks}
use Rattle.dpx_aux.specs.Asking.{asks_at_most}
use Rattle.dpx_aux.specs.Conversation.{Suffices}
use Rattle.dpx_aux.proofs.Suffices.{asking_suffices, ends_suffice, more_suffice, then_suffices, then_suffices_behind}
use Rattle.dpx_aux.proofs.Suffices.{choice_suffices_in}
use Rattle.dpx_edid.specs.declared.i2c.I2c.{I2c}
use Rattle.dpx_edid.specs.Fetch.{I2cTransaction, Reads, FetchOutcome, Fetch, block_length, reads_at_most}
use Rattle.dpx_edid.specs.Fetch.{fetch_asks, end_of}
use Rattle.dpx_edid.proofs.Brought.{next_brings}
use Rattle.dpx_edid.proofs.Reading.{IsEnough, enough_more}

transaction_suffices : (request : I2c) → Suffices asks_at_most (I2cTransaction request)
unfolding I2cTransaction
transaction_suffices request = asking_suffices _ _ _

reads_suffice : (left : ℕ) (got : List ℕ) → IsEnough left (length got) → Suffices (asks_at_most * left) (Reads left got)
unfolding Reads
reads_suffice zero got enough =
    choice_suffices_in _ (length got == block_length) (λ whole. ends_suffice _ _)
    (λ more. absurd (let differ : length got < 128 = grind (arith, common_steps, enough.fits) in
    omega (arith, enough.some differ)))
reads_suffice (suc left) got enough =
    choice_suffices_in _ (length got == block_length) (λ whole. ends_suffice _ _)
    (λ more. let differ : length got < 128 = grind (arith, common_steps, enough.fits) in
    more_suffice (asks_at_most + asks_at_most * left) (asks_at_most * suc left) (omega arith)
    (then_suffices_behind asks_at_most (asks_at_most * left) (transaction_suffices _) (λ brought history t.
    reads_suffice left (got ++ brought)
    (enough_more left got brought differ enough (next_brings (128 - length got) brought history (omega arith) t)))))

outcome_suffices : Suffices fetch_asks FetchOutcome
unfolding FetchOutcome
outcome_suffices =
    then_suffices asks_at_most (asks_at_most * reads_at_most) (transaction_suffices _) (λ started.
    reads_suffice reads_at_most []
    (record { fits = omega arith; some = λ more. omega arith; enough = omega arith }))

pub fetch_suffices : Suffices fetch_asks Fetch
fetch_suffices answers enough =
    let f = outcome_suffices answers enough in
    record {
      given = end_of (asks f.history) f.given;
      history = f.history;
      rest = f.rest;
      done = record { outcome = f.given; fetches = f.done; ends = refl };
      begins = f.begins;
      few = f.few;
    }
