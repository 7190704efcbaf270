-- Parts of a conversation that a modelled sink answers.
use Rattle.std.proofs.Common.{◌≡◌, ℕ, ◌+◌, ◌≤◌, Bool, true, false, List, [], length, map, refl, sym, ap, ◌∙◌, subst}
use Rattle.std.proofs.Common.{arith, Result, Ok, Err, MatchResult}
use Rattle.std.specs.Prelude.{⊤}
use Rattle.std.specs.List.{range_with_len}
use Rattle.dpx_base.specs.declared.aux_port.Entry.{Entry}
use Rattle.dpx_aux.specs.declared.request.Request.{Request}
use Rattle.dpx_aux.specs.declared.request.Request.TheVariants.{Read, Write}
use Rattle.dpx_aux.specs.declared.transaction.AuxEnd.{AuxEnd}
use Rattle.dpx_aux.specs.Conversation.{Ends, Waits, ◌>>=◌, Choice}
use Rattle.dpx_aux.specs.Request.{IsValid, address_of}
use Rattle.dpx_aux.specs.Asking.{EndsAs}
use Rattle.dpx_aux.specs.Transaction.{Transaction, heard_from, spent}
use Rattle.dpx_dpcd.specs.declared.status.Status6.{Status6}
use Rattle.dpx_dpcd.specs.RegFile.{SinkFacts, brought, registers_after, shown, written}
use Rattle.dpx_dpcd.specs.Registers.{ReadsBlock, ReadsStatus, Writes}
use Rattle.dpx_dpcd.specs.SinkPlan.{SinkState}
use Rattle.dpx_complete.proofs.SinkAnswers.{state_after, Answers, answers-front, answers-back, state_after-append}
use Rattle.dpx_complete.proofs.SinkAnswers.{Stands, transacts, request_read}

-- a part was done: the sink is between two rhythms, and result and registers are such
pub record Met {R : Type 0} (defers : ℕ) (After : R → (ℕ → ℕ) → Type 0) (given : R) (now : SinkState) : Type 0 where
  pub registers : ℕ → ℕ
  pub stands : Stands defers 0 registers now
  pub after : After given registers

-- Whatever conversation of this part the sink answers that begins between two rhythms, with registers that are such:
-- it ends between two rhythms, with a result and registers that are such.
pub record Meets {R : Type 0} (sink : SinkFacts) (defers : ℕ) (part : R → List Entry → Type 0)
    (Before : (ℕ → ℕ) → Type 0) (After : R → (ℕ → ℕ) → Type 0) : Type 0 where
  pub meets : (registers : ℕ → ℕ) (state : SinkState) (given : R) (history : List Entry)
      → Stands defers 0 registers state → Before registers → part given history → Answers sink defers state history
      → Met defers After given (state_after defers state history)

-- no transaction failed, and the value and the registers are such
abbrev pub Gives : {A E : Type 0} → (A → (ℕ → ℕ) → Type 0) → Result A E → (ℕ → ℕ) → Type 0
Gives After (Ok value) registers = After value registers
Gives After (Err error) registers = ⊥

-- whatever the registers are
abbrev pub Anything : (ℕ → ℕ) → Type 0
Anything registers = ⊤

-- less is known before, more after
pub meets_more : {R : Type 0} {sink : SinkFacts} {defers : ℕ} {part : R → List Entry → Type 0}
    (Before Now : (ℕ → ℕ) → Type 0) (After Later : R → (ℕ → ℕ) → Type 0) → Meets sink defers part Now After
    → ((registers : ℕ → ℕ) → Before registers → Now registers)
    → ((given : R) (registers : ℕ → ℕ) → After given registers → Later given registers)
    → Meets sink defers part Before Later
meets_more Before Now After Later m front back = record {
  meets = λ registers state given history s b p a.
      let met = m.meets registers state given history s (front registers b) p a in
      record { registers = met.registers; stands = met.stands; after = back given met.registers met.after };
}

pub meets_ends : {R : Type 0} {sink : SinkFacts} {defers : ℕ} (value : R) (Before : (ℕ → ℕ) → Type 0)
    (After : R → (ℕ → ℕ) → Type 0) → ((registers : ℕ → ℕ) → Before registers → After value registers)
    → Meets sink defers (Ends value) Before After
meets_ends {defers = defers} value Before After leads = record {
  meets = λ registers state given history s b p a. record {
    registers = registers;
    stands = subst (λ (entries : List Entry). Stands defers 0 registers (state_after defers state entries))
        (sym p.nothing) s;
    after = subst (λ r. After r registers) (sym p.same) (leads registers b);
  };
}

pub meets_waits : {E : Type 0} {sink : SinkFacts} {defers : ℕ} (micros : ℕ) (Before : (ℕ → ℕ) → Type 0)
    → Meets sink defers (Waits {E = E} micros) Before (Gives (λ waited. Before))
meets_waits {E = E} {defers = defers} micros Before = record {
  meets = λ registers state given history s b p a. record {
    registers = registers;
    stands = subst (λ (entries : List Entry). Stands defers 0 registers (state_after defers state entries))
        (sym p.waited) s;
    after = subst (λ (r : Result ⊤ E). Gives (λ waited. Before) r registers) (sym p.done) b;
  };
}

-- what follows a part that gave a value
then_next : {A B E : Type 0} (sink : SinkFacts) (defers : ℕ) (next : A → Result B E → List Entry → Type 0)
    (Middle : A → (ℕ → ℕ) → Type 0) (After : Result B E → (ℕ → ℕ) → Type 0)
    → ((value : A) → Meets sink defers (next value) (Middle value) After)
    → (middle : Result A E) (given : Result B E) (back : List Entry) (state : SinkState)
    → MatchResult middle (λ value. next value given back) (λ error. (given ≡ Err error) × (back ≡ []))
    → Answers sink defers state back → Met defers (Gives Middle) middle state
    → Met defers After given (state_after defers state back)
then_next sink defers next Middle After m (Ok value) given back state on answers met =
    (m value).meets met.registers state given back met.stands met.after on answers
then_next sink defers next Middle After m (Err error) given back state on answers met = absurd met.after

pub meets_then : {A B E : Type 0} {sink : SinkFacts} {defers : ℕ} {first : Result A E → List Entry → Type 0} {next : A
    → Result B E → List Entry → Type 0} (Before : (ℕ → ℕ) → Type 0) (Middle : A → (ℕ → ℕ) → Type 0)
    (After : Result B E → (ℕ → ℕ) → Type 0) → Meets sink defers first Before (Gives Middle)
    → ((value : A) → Meets sink defers (next value) (Middle value) After)
    → Meets sink defers (first >>= next) Before After
meets_then {sink = sink} {defers = defers} {next = next} Before Middle After f m = record {
  meets = λ registers state given history s b p a.
      let answers = subst (Answers sink defers state) p.joined a in
      let front = answers-front sink defers state p.front p.back answers in
      let back = answers-back sink defers state p.front p.back answers in
      let met = f.meets registers state p.middle p.front s b p.begins front in
      let whole : state_after defers state history ≡ state_after defers (state_after defers state p.front) p.back =
      ap (state_after defers state) p.joined ∙ state_after-append defers state p.front p.back in
      subst (Met defers After given) (sym whole)
      (then_next sink defers next Middle After m p.middle given p.back
      (state_after defers state p.front) p.goes_on back met);
}

pub meets_choice : {R : Type 0} {sink : SinkFacts} {defers : ℕ} {chosen other : R → List Entry → Type 0} (test : Bool)
    (Before : (ℕ → ℕ) → Type 0) (After : R → (ℕ → ℕ) → Type 0) → (test ≡ true → Meets sink defers chosen Before After)
    → (test ≡ false → Meets sink defers other Before After) → Meets sink defers (Choice test chosen other) Before After
meets_choice true Before After c o = record {
  meets =
      λ registers state given history s b p a. (c refl).meets registers state given history s b (p.if_true refl) a;
}
meets_choice false Before After c o = record {
  meets =
      λ registers state given history s b p a. (o refl).meets registers state given history s b (p.if_false refl) a;
}

-- a transaction of a sink that defers at most seven times
abbrev Transacted : SinkFacts → Request → ((ℕ → ℕ) → Type 0) → List ℕ → (ℕ → ℕ) → Type 0
Transacted sink request Before bytes now =
    (registers : ℕ → ℕ) × Before registers × (bytes ≡ brought sink registers request)
    × (now ≡ registers_after request registers)

meets_transaction : {sink : SinkFacts} {defers : ℕ} (request : Request) (Before : (ℕ → ℕ) → Type 0) → defers ≤ 7
    → IsValid request → Meets sink defers (Transaction request) Before (Gives (Transacted sink request Before))
unfolding Transaction
meets_transaction {sink = sink} {defers = defers} request Before few valid = record {
  meets = λ registers state given history s b t a.
      let ends = subst (λ (n : ℕ). EndsAs (spent (address_of request)) n (heard_from request t.last) given)
      (let e : length t.tried + 1 ≡ 0 + length t.tried + 1 = omega arith in e) t.ends in
      let done = transacts sink defers registers request t.last given few (request_read request valid) t.tried 0 state s
      (omega arith) t.in_vain ends (subst (Answers sink defers state) t.asked a) in
      record {
        registers = registers_after request registers;
        stands = subst (λ (entries : List Entry). Stands defers 0 (registers_after request registers)
            (state_after defers state entries)) (sym t.asked) done.1;
        after = subst (λ (r : Result (List ℕ) AuxEnd). Gives (Transacted sink request Before) r
            (registers_after request registers)) (sym done.0) (registers, b, refl, refl);
      };
}

-- a write
pub meets_writes : {sink : SinkFacts} {defers : ℕ} (address : ℕ) (bytes : List ℕ) (Before After : (ℕ → ℕ) → Type 0)
    → defers ≤ 7 → IsValid (Write address bytes)
    → ((registers : ℕ → ℕ) → Before registers → After (written registers address bytes))
    → Meets sink defers (Writes address bytes) Before (Gives (λ nothing. After))
meets_writes {sink = sink} address bytes Before After few valid leads =
    meets_then Before (Transacted sink (Write address bytes) Before) (Gives (λ nothing. After))
    (meets_transaction (Write address bytes) Before few valid)
    (λ value. meets_ends (Ok tt) (Transacted sink (Write address bytes) Before value) (Gives (λ nothing. After))
    (λ registers t. subst After (sym t.3) (leads t.0 t.1)))

-- a block is read
pub meets_block : {sink : SinkFacts} {defers : ℕ} (address : ℕ) (Before : (ℕ → ℕ) → Type 0)
    (After : List ℕ → (ℕ → ℕ) → Type 0) → defers ≤ 7 → IsValid (Read address 16)
    → ((registers : ℕ → ℕ) → Before registers
    → After (map (shown sink registers) (range_with_len address 16)) registers)
    → Meets sink defers (ReadsBlock address) Before (Gives After)
meets_block {sink = sink} address Before After few valid leads =
    meets_then Before (Transacted sink (Read address 16) Before) (Gives After)
    (meets_transaction (Read address 16) Before few valid)
    (λ value. meets_ends (Ok value) (Transacted sink (Read address 16) Before value) (Gives After)
    (λ registers t. subst (After value) (sym t.3)
    (subst (λ (bytes : List ℕ). After bytes t.0) (sym t.2) (leads t.0 t.1))))

-- the status that a sink shows
abbrev pub status_of : SinkFacts → (ℕ → ℕ) → Status6
status_of sink registers = record { bytes = map (shown sink registers) (range_with_len 0x00202 6) }

-- the status is read
pub meets_status : {sink : SinkFacts} {defers : ℕ} (Before : (ℕ → ℕ) → Type 0) → defers ≤ 7
    → Meets sink defers ReadsStatus Before (Gives
    (λ status registers. Before registers × (status ≡ status_of sink registers)))
meets_status {sink = sink} Before few =
    meets_then Before (Transacted sink (Read 0x00202 6) Before)
    (Gives (λ status registers. Before registers × (status ≡ status_of sink registers)))
    (meets_transaction (Read 0x00202 6) Before few
    (record { some = omega arith; few = omega arith; within = omega arith }))
    (λ value. meets_ends (Ok (record { bytes = value })) (Transacted sink (Read 0x00202 6) Before value)
    (Gives (λ status registers. Before registers × (status ≡ status_of sink registers)))
    (λ registers t. (
      subst Before (sym t.3) t.1,
      ap (λ (bytes : List ℕ). record { bytes = bytes }) t.2 ∙ ap (status_of sink) (sym t.3),
    )))
