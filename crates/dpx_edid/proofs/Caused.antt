-- A failed fetch has its cause at the end of its history, and a block is whole.
use Rattle.std.proofs.Common.{◌≡◌, ℕ, zero, suc, ◌+◌, ◌==◌, true, List, [], ◌∷◌, ◌++◌, length, refl, sym}
use Rattle.std.proofs.Common.{inl, inr, ap, ◌∙◌, subst, arith, append_assoc, Result, Ok, Err, MatchResult}
use Rattle.std.proofs.lemmas.Bool.{cases_Bool}
use Rattle.std.proofs.lemmas.Grind.{common_steps}
use Rattle.std.specs.List.{AllByRecursion}
use Rattle.dpx_base.specs.declared.aux_port.Answer.{Answer}
use Rattle.dpx_base.specs.declared.aux_port.Answer.TheVariants.{Silent, Bytes}
use Rattle.dpx_base.specs.declared.aux_port.Entry.{Entry}
use Rattle.dpx_base.specs.declared.aux_port.Entry.TheVariants.{Asked}
use Rattle.dpx_aux.specs.declared.asking.Heard.TheVariants.{InVain}
use Rattle.dpx_aux.specs.declared.asking.LastAnswer.{LastAnswer}
use Rattle.dpx_aux.specs.declared.asking.LastAnswer.TheVariants as last
use Rattle.dpx_aux.specs.Asking.{EndsAs, IsInVain, asks_at_most, asked_with}
use Rattle.dpx_aux.specs.Conversation.{◌>>=◌, AlwaysIs}
use Rattle.std.proofs.lemmas.List.{append-nil, map-append}
use Rattle.dpx_edid.specs.declared.i2c.I2c.{I2c}
use Rattle.dpx_edid.specs.declared.i2c_reply.I2cReply.{I2cReply}
use Rattle.dpx_edid.specs.declared.i2c_reply.I2cReply.TheVariants.{Ack, Nack, Defer, Malformed}
use Rattle.dpx_edid.specs.declared.fetch.I2cEnd.{I2cEnd}
use Rattle.dpx_edid.specs.declared.fetch.I2cEnd.TheVariants.{Refused, Spent}
use Rattle.dpx_edid.specs.I2c.{encode_i2c}
use Rattle.dpx_edid.specs.I2cReply.{read_i2c_reply}
use Rattle.dpx_edid.specs.Causes.{EndsRefused, EndsSpent, CausedBy, IsCaused}
use Rattle.dpx_edid.specs.Fetch.{I2cTransaction, Reads, FetchOutcome, Fetch, heard_from, meaning, block_length}
use Rattle.dpx_edid.specs.Fetch.{reads_at_most, end_of}

-- what is common to both causes: the asks of the last request, of which the last one was answered so
record Asks (request : I2c) (tried : List Answer) (answer : Answer) (history : List Entry) : Type 0 where
  pub asked : history ≡ asked_with (encode_i2c request) (tried ++ answer ∷ [])
  pub in_vain : AllByRecursion (λ other. IsInVain (heard_from request other)) tried

refused_by : (request : I2c) (tried : List Answer) (bytes : List ℕ) (history : List Entry)
    → Asks request tried (Bytes bytes) history → read_i2c_reply request bytes ≡ Nack → EndsRefused history
refused_by request tried bytes history a nack = record {
  before = asked_with (encode_i2c request) tried;
  request = request;
  reply = bytes;
  joined = a.asked ∙ map-append (λ answer. Asked (encode_i2c request) answer) tried (Bytes bytes ∷ []);
  refused = nack;
}

spent_by : (request : I2c) (tried : List Answer) (answer : Answer) (last : LastAnswer) (history : List Entry)
    → Asks request tried answer history → length tried + 1 ≡ asks_at_most → heard_from request answer ≡ InVain last
    → EndsSpent last history
spent_by request tried answer last history a often heard = record {
  before = [];
  request = request;
  tried = tried;
  answer = answer;
  joined = a.asked;
  often = often;
  in_vain = a.in_vain;
  last_in_vain = heard;
}

in_vain_caused : (request : I2c) (tried : List Answer) (answer : Answer) (last : LastAnswer) (why : I2cEnd)
    (history : List Entry) → Asks request tried answer history → heard_from request answer ≡ InVain last
    → EndsAs Spent (length tried + 1) (InVain last) (Err why) → CausedBy why history
in_vain_caused request tried answer last why history a heard ends =
    let same : why ≡ Spent last = cc ends.1 in
    subst (λ end. CausedBy end history) (sym same) (spent_by request tried answer last history a ends.0 heard)

reply_caused : (request : I2c) (tried : List Answer) (bytes : List ℕ) (reply : I2cReply) (why : I2cEnd)
    (history : List Entry) → Asks request tried (Bytes bytes) history → read_i2c_reply request bytes ≡ reply
    → EndsAs Spent (length tried + 1) (meaning reply) (Err why) → CausedBy why history
reply_caused request tried bytes (Ack brought) why history a e ends =
    let none : ◌≡◌ {A = Result (List ℕ) I2cEnd} (Err why) (Ok brought) = ends in absurd (cc)
reply_caused request tried bytes Nack why history a e ends =
    let same : ◌≡◌ {A = Result (List ℕ) I2cEnd} (Err why) (Err Refused) = ends in
    let refused : why ≡ Refused = cc in
    subst (λ end. CausedBy end history) (sym refused) (refused_by request tried bytes history a e)
reply_caused request tried bytes Defer why history a e ends =
    in_vain_caused request tried (Bytes bytes) last.Defer why history a (ap meaning e) ends
reply_caused request tried bytes Malformed why history a e ends =
    in_vain_caused request tried (Bytes bytes) last.Malformed why history a (ap meaning e) ends

answer_caused : (request : I2c) (tried : List Answer) (answer : Answer) (why : I2cEnd) (history : List Entry)
    → Asks request tried answer history
    → EndsAs Spent (length tried + 1) (heard_from request answer) (Err why) → CausedBy why history
answer_caused request tried Silent why history a ends =
    in_vain_caused request tried Silent last.Silent why history a refl ends
answer_caused request tried (Bytes bytes) why history a ends =
    reply_caused request tried bytes (read_i2c_reply request bytes) why history a refl ends

transaction_caused : (request : I2c) (why : I2cEnd) (history : List Entry)
    → I2cTransaction request (Err why) history → CausedBy why history
unfolding I2cTransaction
transaction_caused request why history t =
    answer_caused request t.tried t.last why history (record { asked = t.asked; in_vain = t.in_vain }) t.ends

-- a cause is at the end also where more was asked before
caused_behind : (why : I2cEnd) (whole front back : List Entry) → whole ≡ front ++ back → CausedBy why back
    → CausedBy why whole
caused_behind Refused whole front back joined c = record {
  before = front ++ c.before;
  request = c.request;
  reply = c.reply;
  joined = joined ∙ (ap (λ entries. front ++ entries) c.joined ∙ sym (append_assoc front c.before _));
  refused = c.refused;
}
caused_behind (Spent last) whole front back joined c = record {
  before = front ++ c.before;
  request = c.request;
  tried = c.tried;
  answer = c.answer;
  joined = joined ∙ (ap (λ entries. front ++ entries) c.joined ∙ sym (append_assoc front c.before _));
  often = c.often;
  in_vain = c.in_vain;
  last_in_vain = c.last_in_vain;
}

-- how reads end: the block is whole, or the last transaction failed
abbrev Concludes : Result (List ℕ) I2cEnd → List Entry → Type 0
Concludes (Ok block) history = length block ≡ block_length
Concludes (Err why) history = CausedBy why history

concludes_behind : (given : Result (List ℕ) I2cEnd) (whole front back : List Entry) → whole ≡ front ++ back
    → Concludes given back → Concludes given whole
concludes_behind (Ok block) whole front back joined c = c
concludes_behind (Err why) whole front back joined c = caused_behind why whole front back joined c

next_concludes : (request : I2c) (next : List ℕ → Result (List ℕ) I2cEnd → List Entry → Type 0)
    (middle given : Result (List ℕ) I2cEnd) (whole front back : List Entry)
    → ((bytes : List ℕ) → AlwaysIs (next bytes) Concludes) → whole ≡ front ++ back
    → I2cTransaction request middle front
    → MatchResult middle (λ bytes. next bytes given back) (λ error. (given ≡ Err error) × (back ≡ []))
    → Concludes given whole
next_concludes request next (Ok bytes) given whole front back d joined t on =
    concludes_behind given whole front back joined (d bytes given back on)
next_concludes request next (Err why) given whole front back d joined t on =
    let all : whole ≡ front = joined ∙ (ap (λ entries. front ++ entries) on.1 ∙ append-nil front) in
    subst (λ end. Concludes end whole) (sym on.0)
    (subst (λ entries. CausedBy why entries) (sym all) (transaction_caused request why front t))

then_concludes : (request : I2c) (next : List ℕ → Result (List ℕ) I2cEnd → List Entry → Type 0)
    → ((bytes : List ℕ) → AlwaysIs (next bytes) Concludes) → AlwaysIs (I2cTransaction request >>= next) Concludes
then_concludes request next d given history t =
    next_concludes request next t.middle given history t.front t.back d t.joined t.begins t.goes_on

whole_concludes : (got : List ℕ) (given : Result (List ℕ) I2cEnd) (history : List Entry)
    → length got == block_length ≡ true → given ≡ Ok got → Concludes given history
whole_concludes got given history test same =
    let all : length got ≡ block_length = grind (arith, common_steps) in
    subst (λ end. Concludes end history) (sym same) all

-- by whether the bytes so far are the whole block
reads_conclude : (left : ℕ) (got : List ℕ) → AlwaysIs (Reads left got) Concludes
unfolding Reads
reads_conclude zero got given history c =
    elim (cases_Bool (length got == block_length)) [
      | inl test ↦ whole_concludes got given history test (c.if_true test).same
      | inr test ↦ absurd (c.if_false test).never
    ]
reads_conclude (suc left) got given history c =
    elim (cases_Bool (length got == block_length)) [
      | inl test ↦ whole_concludes got given history test (c.if_true test).same
      | inr test ↦ then_concludes _ _ (λ brought. reads_conclude left (got ++ brought)) given history (c.if_false test)
    ]

outcome_concludes : AlwaysIs FetchOutcome Concludes
unfolding FetchOutcome
outcome_concludes = then_concludes _ _ (λ started. reads_conclude reads_at_most [])

ends_concluded : (asked : ℕ) (outcome : Result (List ℕ) I2cEnd) (history : List Entry) → Concludes outcome history
    → IsCaused (end_of asked outcome) history
ends_concluded asked (Ok block) history c = c
ends_concluded asked (Err why) history c = c

pub fetch_caused : AlwaysIs Fetch IsCaused
fetch_caused given history t =
    subst (λ end. IsCaused end history) (sym t.ends)
    (ends_concluded _ t.outcome history (outcome_concludes t.outcome history t.fetches))
