-- The reads of a fetch, one after another.
use Rattle.std.proofs.Common.{◌≡◌, ℕ, zero, suc, ◌+◌, ◌-◌, ◌*◌, ◌<◌, ◌≤◌, ◌==◌, true, false, List, [], ◌++◌, length, sym}
use Rattle.std.proofs.Common.{inl, inr, subst, arith, length-append, Result, Ok, Err}
use Rattle.std.specs.Result.{IsOk, OnOk}
use Rattle.std.proofs.lemmas.Bool.{cases_lt}
use Rattle.std.proofs.lemmas.Grind.{common_steps}
use Rattle.dpx_base.specs.Port.{PortState}
use Rattle.dpx_aux.specs.Asking.{asks_at_most}
use Rattle.dpx_aux.specs.Conversation.{Converses}
use Rattle.dpx_aux.proofs.Parts.{then_ok, then_err, ends, choose_true, choose_false}
use Rattle.dpx_edid.specs.declared.fetch.I2cEnd.{I2cEnd}
use Rattle.dpx_edid.specs.Fetch.{I2cTransaction, Reads, Brings, block_length, read_for, reads_at_most}

-- So many further reads are enough behind so many bytes: every read so far brought one at least, and while a byte is
-- missing a read is left.
pub record IsEnough (left got : ℕ) : Type 0 where
  pub fits : got ≤ 128
  pub some : got < 128 → 1 ≤ left
  pub enough : 113 ≤ left + got

pub enough_more : (left : ℕ) (got brought : List ℕ) → length got < 128 → IsEnough (suc left) (length got)
    → Brings (128 - length got) (length brought) → IsEnough left (length (got ++ brought))
enough_more left got brought more e b = record {
  fits = omega (arith, length-append got brought, b.few);
  some = λ still. elim (cases_lt 16 (128 - length got)) [
    | inl many ↦ omega (arith, e.enough)
    | inr few ↦ absurd (omega (arith, length-append got brought, b.all few))
  ];
  enough = omega (arith, length-append got brought, b.some, e.enough);
}

-- Reads were made that brought these bytes: what is a conversation from here on is one from the first read.
pub record ReadSoFar {Plan : Type 0} (got : List ℕ) (before now : PortState Plan) : Type 0 where
  pub left : ℕ
  pub rest : (later : PortState Plan) (given : Result (List ℕ) I2cEnd)
      → Converses (Reads left got) now later given → Converses (Reads reads_at_most []) before later given
  pub enough : IsEnough left (length got)
  pub within : left ≤ reads_at_most
  pub asked : now.asked + asks_at_most * left ≤ before.asked + asks_at_most * reads_at_most

read_nothing : {Plan : Type 0} (state : PortState Plan) → ReadSoFar [] state state
read_nothing state = record {
  left = reads_at_most;
  rest = λ later given c. c;
  enough = record { fits = omega arith; some = λ more. omega arith; enough = omega arith };
  within = omega arith;
  asked = omega arith;
}

-- no read was made yet
pub read_none : {Plan : Type 0} (got : List ℕ) (state : PortState Plan) → got ≡ [] → ReadSoFar got state state
read_none got state none = subst (λ bytes. ReadSoFar bytes state state) (sym none) (read_nothing state)

not_whole : (got : List ℕ) → length got < block_length → length got == block_length ≡ false
not_whole got more = grind (arith, common_steps)

whole : (got : List ℕ) → length got ≡ block_length → length got == block_length ≡ true
whole got same = grind (arith, common_steps)

-- a read, and what follows it
read_then : (left : ℕ) (got : List ℕ) {Plan : Type 0} {before middle now : PortState Plan} {bytes : List ℕ}
    {given : Result (List ℕ) I2cEnd} → length got < block_length
    → Converses (I2cTransaction (read_for (block_length - length got))) before middle (Ok bytes)
    → Converses (Reads left (got ++ bytes)) middle now given → Converses (Reads (suc left) got) before now given
unfolding Reads
read_then left got more c d = choose_false (not_whole got more) (then_ok c d)

-- a read that failed
read_fails : (left : ℕ) (got : List ℕ) {Plan : Type 0} {before now : PortState Plan} {why : I2cEnd}
    → length got < block_length
    → Converses (I2cTransaction (read_for (block_length - length got))) before now (Err why)
    → Converses (Reads (suc left) got) before now (Err why)
unfolding Reads
read_fails left got more c = choose_false (not_whole got more) (then_err c)

-- no byte is missing
read_all : (left : ℕ) (got : List ℕ) {Plan : Type 0} (state : PortState Plan) → length got ≡ block_length
    → Converses (Reads left got) state state (Ok got)
unfolding Reads
read_all zero got state all = choose_true (whole got all) (ends state (Ok got))
read_all (suc left) got state all = choose_true (whole got all) (ends state (Ok got))

one_left : {left got : ℕ} → IsEnough left got → got < block_length → left ≡ suc (left - 1)
one_left e more = omega (arith, e.some more)

one_more : {Plan : Type 0} {got : List ℕ} {before middle now : PortState Plan} {bytes : List ℕ}
    → ReadSoFar got before middle → length got < block_length
    → Converses (I2cTransaction (read_for (block_length - length got))) middle now (Ok bytes)
    → Brings (block_length - length got) (length bytes) → now.asked ≤ middle.asked + asks_at_most
    → ReadSoFar (got ++ bytes) before now
one_more {got = got} {middle = middle} {bytes = bytes} r more c brings few =
    let one = one_left r.enough more in
    record {
      left = r.left - 1;
      rest = λ later given d.
          r.rest later given (subst (λ n. Converses (Reads n got) middle later given) (sym one)
          (read_then (r.left - 1) got more c d));
      enough = enough_more (r.left - 1) got bytes more (subst (λ n. IsEnough n (length got)) one r.enough) brings;
      within = omega (arith, r.within);
      asked = omega (arith, r.asked, few, one);
    }

-- one more read, for what is missing
pub read_more : {Plan : Type 0} {got all bytes : List ℕ} {before middle now : PortState Plan} {missing : ℕ}
    → ReadSoFar got before middle → length got < block_length → missing ≡ block_length - length got
    → Converses (I2cTransaction (read_for missing)) middle now (Ok bytes)
    → Brings missing (length bytes) → now.asked ≤ middle.asked + asks_at_most → all ≡ got ++ bytes
    → ReadSoFar all before now
read_more {bytes = bytes} {before = before} {middle = middle} {now = now} r more e c brings few grown =
    subst (λ xs. ReadSoFar xs before now) (sym grown) (one_more r more
    (subst (λ n. Converses (I2cTransaction (read_for n)) middle now (Ok bytes)) e c)
    (subst (λ n. Brings n (length bytes)) e brings) few)

-- the block is whole
pub read_whole : {Plan : Type 0} {got block : List ℕ} {before now : PortState Plan} → ReadSoFar got before now
    → block_length ≤ length got → block ≡ got → Converses (Reads reads_at_most []) before now (Ok block)
read_whole {got = got} {before = before} {now = now} r all same =
    subst (λ xs. Converses (Reads reads_at_most []) before now (Ok xs)) (sym same)
    (r.rest now (Ok got) (read_all r.left got now (omega (arith, r.enough.fits))))

-- a transaction that failed ends the fetch
pub read_ends : {Plan : Type 0} {got : List ℕ} {before middle now : PortState Plan} {missing : ℕ} {why : I2cEnd}
    → ReadSoFar got before middle → length got < block_length → missing ≡ block_length - length got
    → Converses (I2cTransaction (read_for missing)) middle now (Err why)
    → Converses (Reads reads_at_most []) before now (Err why)
read_ends {got = got} {middle = middle} {now = now} {why = why} r more e c =
    r.rest now (Err why) (subst (λ n. Converses (Reads n got) middle now (Err why)) (sym (one_left r.enough more))
    (read_fails (r.left - 1) got more
    (subst (λ n. Converses (I2cTransaction (read_for n)) middle now (Err why)) e c)))

-- what was taken where all of it had room
pub from_ok : {T E P : Type 0} (given : Result T E) → IsOk given → OnOk given P → P
from_ok (Ok value) ok p = p
from_ok (Err error) ok p = absurd (cc)
