-- How many entries the history of a fetch has at most: it has no waits.
use Rattle.std.proofs.Common.{◌≡◌, ℕ, zero, suc, ◌+◌, ◌*◌, ◌≤◌, ◌==◌, Bool, true, false, List, [], ◌∷◌, ◌++◌, length, refl, ap}
use Rattle.std.proofs.Common.{arith, length-append, Result, Ok, Err, MatchResult}
use Rattle.std.proofs.lemmas.List.{length-map}
use Rattle.dpx_base.specs.declared.aux_port.Entry.{Entry}
use Rattle.dpx_base.specs.declared.aux_port.Entry.TheVariants.{Asked}
use Rattle.dpx_base.specs.Port.{asks}
use Rattle.dpx_base.proofs.Waits.{length-entries}
use Rattle.dpx_aux.specs.Asking.{asks_at_most}
use Rattle.dpx_aux.specs.Conversation.{Ends, ◌>>=◌, Choice, Never, HistoriesAre}
use Rattle.dpx_edid.specs.declared.i2c.I2c.{I2c}
use Rattle.dpx_edid.specs.I2c.{encode_i2c}
use Rattle.dpx_edid.specs.Fetch.{I2cTransaction, Reads, FetchOutcome, Fetch, block_length, reads_at_most, fetch_asks}

abbrev IsShort : ℕ → List Entry → Type 0
IsShort most history = length history ≤ most

transaction_few : (request : I2c) → HistoriesAre (I2cTransaction request) (IsShort asks_at_most)
unfolding I2cTransaction
transaction_few request given history t =
    omega (
      arith,
      ap length t.asked,
      length-map (t.tried ++ t.last ∷ []) (λ answer. Asked (encode_i2c request) answer),
      length-append t.tried (t.last ∷ []),
      t.few,
    )

ends_few : {R : Type 0} (most : ℕ) (value : R) → HistoriesAre (Ends value) (IsShort most)
ends_few most value given history e = omega (arith, ap length e.nothing)

never_few : {R : Type 0} (most : ℕ) → HistoriesAre (Never {R = R}) (IsShort most)
never_few most given history n = absurd n.never

next_few : {A B E : Type 0} (n : ℕ) (next : A → Result B E → List Entry → Type 0)
    → ((value : A) → HistoriesAre (next value) (IsShort n)) → (middle : Result A E) (given : Result B E)
    (back : List Entry) → MatchResult middle (λ value. next value given back) (λ error. (given ≡ Err error) × (back ≡ []))
    → length back ≤ n
next_few n next d (Ok value) given back on = d value given back on
next_few n next d (Err error) given back on = omega (arith, ap length on.1)

then_few : {A B E : Type 0} (m n : ℕ) (first : Result A E → List Entry → Type 0)
    (next : A → Result B E → List Entry → Type 0) → HistoriesAre first (IsShort m)
    → ((value : A) → HistoriesAre (next value) (IsShort n)) → HistoriesAre (first >>= next) (IsShort (m + n))
then_few m n first next f d given history t =
    omega (
      arith,
      ap length t.joined,
      length-append t.front t.back,
      f t.middle t.front t.begins,
      next_few n next d t.middle given t.back t.goes_on,
    )

choice_few : {R : Type 0} (most : ℕ) (test : Bool) (chosen other : R → List Entry → Type 0)
    → HistoriesAre chosen (IsShort most) → HistoriesAre other (IsShort most)
    → HistoriesAre (Choice test chosen other) (IsShort most)
choice_few most true chosen other c o given history p = c given history (p.if_true refl)
choice_few most false chosen other c o given history p = o given history (p.if_false refl)

reads_few : (left most : ℕ) (got : List ℕ) → most ≡ asks_at_most * left → HistoriesAre (Reads left got) (IsShort most)
unfolding Reads
reads_few zero most got e =
    choice_few most (length got == block_length) _ _ (ends_few most _) (never_few most)
reads_few (suc left) most got e =
    choice_few most (length got == block_length) _ _ (ends_few most _) (λ given history t. omega (
      arith,
      e,
      then_few asks_at_most (asks_at_most * left) _ _ (transaction_few _)
          (λ brought. reads_few left (asks_at_most * left) (got ++ brought) refl) given history t,
    ))

pub fetch_few : HistoriesAre Fetch (IsShort fetch_asks)
unfolding FetchOutcome
fetch_few given history t =
    omega (
      arith,
      then_few asks_at_most (asks_at_most * reads_at_most) _ _ (transaction_few _)
          (λ started. reads_few reads_at_most (asks_at_most * reads_at_most) [] refl) t.outcome history t.fetches,
    )

-- every entry is an ask, or there are fewer asks
pub fetch_asks_few : HistoriesAre Fetch (λ history. asks history ≤ fetch_asks)
fetch_asks_few given history t = omega (arith, fetch_few given history t, length-entries history)
