-- A sink that defers eight times or more spends the first transaction, and with it the training.
use Rattle.std.proofs.Common.{◌≡◌, ℕ, ◌+◌, ◌<◌, ◌≤◌, List, [], ◌∷◌, ◌++◌, length, refl, sym, ap, ◌∙◌, subst, arith}
use Rattle.std.proofs.Common.{Result, Ok, Err, MatchResult}
use Rattle.dpx_base.specs.declared.aux_port.Answer.{Answer}
use Rattle.dpx_base.specs.declared.aux_port.Answer.TheVariants.{Bytes}
use Rattle.dpx_base.specs.declared.aux_port.Entry.{Entry}
use Rattle.dpx_base.specs.declared.link.Link.{Link}
use Rattle.dpx_base.specs.Port.{asks}
use Rattle.dpx_aux.specs.declared.request.AuxBad.{AuxBad}
use Rattle.dpx_aux.specs.declared.request.Request.{Request}
use Rattle.dpx_aux.specs.declared.request.Request.TheVariants.{Read}
use Rattle.dpx_aux.specs.declared.transaction.AuxEnd.{AuxEnd}
use Rattle.dpx_aux.specs.declared.transaction.AuxEnd.TheVariants.{Spent}
use Rattle.dpx_aux.specs.declared.asking.LastAnswer.TheVariants.{Defer}
use Rattle.dpx_aux.specs.Conversation.{◌>>=◌}
use Rattle.dpx_aux.specs.Request.{encode_request, read_request, address_of}
use Rattle.dpx_aux.specs.Asking.{EndsAs, asked_with}
use Rattle.dpx_aux.specs.Transaction.{Transaction, heard_from, spent}
use Rattle.dpx_dpcd.specs.Cell.{CellFacts}
use Rattle.dpx_dpcd.specs.RegFile.{SinkFacts}
use Rattle.dpx_dpcd.specs.Registers.{ReadsBlock}
use Rattle.dpx_dpcd.specs.SinkPlan.{SinkState, new_sink, sink_answer, after_request}
use Rattle.dpx_link.specs.declared.train_end.TrainEnd.{TrainEnd}
use Rattle.dpx_link.specs.Training.{Capabilities, TrainOutcome, end_of}
use Rattle.dpx_complete.specs.Complete.{EndsDeferred, AnsweredTraining}
use Rattle.dpx_complete.proofs.SinkAnswers.{Answers, answers_planned, answers-front, Stands, new_stands, deferred}
use Rattle.dpx_complete.proofs.SinkAnswers.{request_read}

-- a transaction with a sink that defers more often than it is asked
spends : (sink : SinkFacts) (defers : ℕ) (registers : ℕ → ℕ) (request : Request) (last : Answer)
    (given : Result (List ℕ) AuxEnd) → 8 ≤ defers → read_request (encode_request request) ≡ Ok request
    → (tried : List Answer) (place asked : ℕ) (state : SinkState) → Stands defers place registers state
    → place + length tried < 8 → EndsAs (spent (address_of request)) asked (heard_from request last) given
    → Answers sink defers state (asked_with (encode_request request) (tried ++ last ∷ []))
    → given ≡ Err (Spent (address_of request) Defer)
spends sink defers registers request last given many reads [] place asked state s few ends answers =
    let heard : last ≡ Bytes (0x20 ∷ []) = answers.0 ∙ ap (sink_answer sink defers state) reads
    ∙ (deferred sink defers place registers state request s (omega arith)).0 in
    let spent : (asked ≡ 8) × (given ≡ Err (Spent (address_of request) Defer)) =
    subst (λ (answer : Answer). EndsAs (spent (address_of request)) asked (heard_from request answer) given) heard ends in
    spent.1
spends sink defers registers request last given many reads (x ∷ xs) place asked state s few ends answers =
    let later : Stands defers (place + 1) registers
    (after_request defers state (read_request (encode_request request))) =
    subst (λ (r : Result Request AuxBad). Stands defers (place + 1) registers (after_request defers state r))
    (sym reads) (deferred sink defers place registers state request s (omega arith)).1 in
    spends sink defers registers request last given many reads xs (place + 1) asked
    (after_request defers state (read_request (encode_request request))) later (omega arith) ends answers.1

-- whatever a sink that stands so answers to this part, it ends with this error
abbrev FailsWith : {A E : Type 0} → SinkFacts → ℕ → SinkState → (Result A E → List Entry → Type 0) → E → Type 0
FailsWith {A} {E} sink defers state part why =
    (given : Result A E) (history : List Entry) → part given history → Answers sink defers state history
    → given ≡ Err why

-- what follows a part that failed
next_fails : {A B E : Type 0} (next : A → Result B E → List Entry → Type 0) (why : E) (middle : Result A E)
    (given : Result B E) (back : List Entry) → middle ≡ Err why
    → MatchResult middle (λ value. next value given back) (λ error. (given ≡ Err error) × (back ≡ [])) → given ≡ Err why
next_fails next why (Ok value) given back e on = absurd (cc)
next_fails next why (Err error) given back e on = let same = on.0 in cc

then_fails : {A B E : Type 0} (sink : SinkFacts) (defers : ℕ) (state : SinkState)
    (first : Result A E → List Entry → Type 0) (next : A → Result B E → List Entry → Type 0) (why : E)
    → FailsWith sink defers state first why → FailsWith sink defers state (first >>= next) why
then_fails sink defers state first next why f given history t answers =
    next_fails next why t.middle given t.back
    (f t.middle t.front t.begins (answers-front sink defers state t.front t.back
    (subst (Answers sink defers state) t.joined answers))) t.goes_on

first_fails : (sink : SinkFacts) (defers : ℕ) → 8 ≤ defers
    → FailsWith sink defers new_sink (Transaction (Read 0x00000 16)) (Spent 0x00000 Defer)
unfolding Transaction
first_fails sink defers many given history t answers =
    spends sink defers (λ address. 0) (Read 0x00000 16) t.last given many
    (request_read (Read 0x00000 16) (record {
      some = omega arith;
      few = omega arith;
      within =
          omega arith;
    })) t.tried 0 _ new_sink (new_stands defers) (omega (arith, t.few)) t.ends
    (subst (Answers sink defers new_sink) t.asked answers)

capabilities_fail : (sink : SinkFacts) (defers : ℕ) → 8 ≤ defers
    → FailsWith sink defers new_sink Capabilities (Spent 0x00000 Defer)
unfolding Capabilities
capabilities_fail sink defers many =
    then_fails sink defers new_sink (ReadsBlock 0x00000) _ (Spent 0x00000 Defer)
    (then_fails sink defers new_sink (Transaction (Read 0x00000 16)) _ (Spent 0x00000 Defer)
    (first_fails sink defers many))

trains_fail : (sink : SinkFacts) (defers : ℕ) (top : Link) → 8 ≤ defers
    → FailsWith sink defers new_sink (TrainOutcome top) (Spent 0x00000 Defer)
unfolding TrainOutcome
trains_fail sink defers top many =
    then_fails sink defers new_sink Capabilities _ (Spent 0x00000 Defer) (capabilities_fail sink defers many)

pub ends_deferred : (top : Link) (caps extended : List ℕ) (defers : ℕ) (channel : List CellFacts) (end : TrainEnd)
    (history : List Entry) → AnsweredTraining top caps extended defers channel end history → 8 ≤ defers
    → EndsDeferred end
ends_deferred top caps extended defers channel end history t many =
    let sink : SinkFacts = record { caps = caps; extended = extended; channel = channel } in
    let spent = trains_fail sink defers top many t.training.outcome history t.training.trains
    (answers_planned sink defers new_sink history t.answered) in
    subst EndsDeferred (sym t.training.ends) (subst (λ outcome. EndsDeferred (end_of (asks history) outcome))
    (sym spent) refl)
