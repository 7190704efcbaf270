-- How many bytes an acknowledged request brings.
use Rattle.std.proofs.Common.{◌≡◌, ℕ, ◌+◌, ◌≤◌, ◌==◌, ◌||◌, Bool, true, false, nat_lt, List, [], ◌∷◌, length}
use Rattle.std.proofs.Common.{refl, subst, arith, Result, Ok, Err, IfOk, if◌then◌else◌}
use Rattle.std.proofs.lemmas.Grind.{common_steps}
use Rattle.dpx_base.specs.declared.aux_port.Answer.{Answer}
use Rattle.dpx_base.specs.declared.aux_port.Answer.TheVariants.{Silent, Bytes}
use Rattle.dpx_base.specs.declared.aux_port.Entry.{Entry}
use Rattle.dpx_base.specs.Port.{PortState}
use Rattle.dpx_aux.specs.Asking.{EndsAs}
use Rattle.dpx_aux.specs.Conversation.{Converses}
use Rattle.dpx_edid.specs.declared.i2c.I2c.{I2c}
use Rattle.dpx_edid.specs.declared.i2c.I2c.TheVariants.{Read}
use Rattle.dpx_edid.specs.declared.i2c_reply.I2cReply.{I2cReply}
use Rattle.dpx_edid.specs.declared.i2c_reply.I2cReply.TheVariants.{Ack, Nack, Defer, Malformed}
use Rattle.dpx_edid.specs.declared.fetch.I2cEnd.{I2cEnd}
use Rattle.dpx_edid.specs.declared.fetch.I2cEnd.TheVariants.{Refused, Spent}
use Rattle.dpx_edid.specs.I2cReply.{may_bring, acknowledged, alone, read_i2c_reply}
use Rattle.dpx_edid.specs.Fetch.{I2cTransaction, Brings, heard_from, meaning, read_for}

-- a transaction that brings bytes ended at their acknowledgement
acknowledges : (asked : ℕ) (reply : I2cReply) (bytes : List ℕ) → EndsAs Spent asked (meaning reply) (Ok bytes)
    → reply ≡ Ack bytes
acknowledges asked (Ack found) bytes ends =
    let same : ◌≡◌ {A = Result (List ℕ) I2cEnd} (Ok bytes) (Ok found) = ends in cc
acknowledges asked Nack bytes ends = let none : ◌≡◌ {A = Result (List ℕ) I2cEnd} (Ok bytes) (Err Refused) = ends in absurd (cc)
acknowledges asked Defer bytes ends = absurd (cc ends.1)
acknowledges asked Malformed bytes ends = absurd (cc ends.1)

acknowledged_brings : (request : I2c) (payload bytes : List ℕ) (may : Bool) → may_bring request (length payload) ≡ may
    → (if may then Ack payload else Malformed) ≡ Ack bytes → may_bring request (length bytes) ≡ true
acknowledged_brings request payload bytes true e same =
    let alike : payload ≡ bytes = cc in
    subst (λ (found : List ℕ). may_bring request (length found) ≡ true) alike e
acknowledged_brings request payload bytes false e same = absurd (cc)

alone_no_ack : (says : I2cReply) (rest bytes : List ℕ) → (says ≡ Ack bytes → ⊥) → alone says rest ≡ Ack bytes → ⊥
alone_no_ack says [] bytes none same = none same
alone_no_ack says (more ∷ rest) bytes none same = cc

-- by the three tests of the code
codes_bring : (request : I2c) (rest bytes : List ℕ) (ack nack defer : Bool)
    → (if ack then acknowledged request rest
    else if nack then alone Nack rest
    else if defer then alone Defer rest
    else Malformed) ≡ Ack bytes → may_bring request (length bytes) ≡ true
codes_bring request rest bytes true nack defer same =
    acknowledged_brings request rest bytes (may_bring request (length rest)) refl same
codes_bring request rest bytes false true defer same = absurd (alone_no_ack Nack rest bytes (λ e. cc) same)
codes_bring request rest bytes false false true same = absurd (alone_no_ack Defer rest bytes (λ e. cc) same)
codes_bring request rest bytes false false false same = absurd (cc)

reply_brings : (request : I2c) (found bytes : List ℕ) → read_i2c_reply request found ≡ Ack bytes
    → may_bring request (length bytes) ≡ true
reply_brings request [] bytes same = absurd (cc)
reply_brings request (code ∷ rest) bytes same =
    codes_bring request rest bytes (code == 0x00) (code == 0x10 || code == 0x40) (code == 0x20 || code == 0x80) same

answer_brings : (request : I2c) (asked : ℕ) (answer : Answer) (bytes : List ℕ)
    → EndsAs Spent asked (heard_from request answer) (Ok bytes) → may_bring request (length bytes) ≡ true
answer_brings request asked Silent bytes ends = absurd (cc ends.1)
answer_brings request asked (Bytes found) bytes ends =
    reply_brings request found bytes (acknowledges asked (read_i2c_reply request found) bytes ends)

pub transaction_brings : (request : I2c) (bytes : List ℕ) (history : List Entry)
    → I2cTransaction request (Ok bytes) history → may_bring request (length bytes) ≡ true
unfolding I2cTransaction
transaction_brings request bytes history t = answer_brings request (length t.tried + 1) t.last bytes t.ends

read_brings : (missing count : ℕ) (more : Bool) → 1 ≤ missing → nat_lt 16 missing ≡ more
    → may_bring (if more then Read 16 false else Read missing true) count ≡ true → Brings missing count
read_brings missing count true some e may = record {
  some = grind (arith, common_steps);
  few = grind (arith, common_steps);
  all = λ few. absurd (grind (arith, common_steps));
}
read_brings missing count false some e may =
    let same : count ≡ missing = grind (arith, common_steps) in
    record { some = omega (arith, same); few = omega (arith, same); all = λ few. same }

-- the read for so many missing bytes
pub next_brings : (missing : ℕ) (bytes : List ℕ) (history : List Entry) → 1 ≤ missing
    → I2cTransaction (read_for missing) (Ok bytes) history → Brings missing (length bytes)
next_brings missing bytes history some t =
    read_brings missing (length bytes) (nat_lt 16 missing) some refl
    (transaction_brings (read_for missing) bytes history t)

pub ok_brings : {Plan : Type 0} {before now : PortState Plan} (missing : ℕ) (request : I2c)
    (given : Result (List ℕ) I2cEnd) → 1 ≤ missing → request ≡ read_for missing
    → Converses (I2cTransaction request) before now given → IfOk given (λ bytes. Brings missing (length bytes))
ok_brings missing request (Ok bytes) some e c =
    next_brings missing bytes c.entries some (subst (λ r. I2cTransaction r (Ok bytes) c.entries) e c.done)
ok_brings missing request (Err why) some e c = tt
