-- What a fetch gives whose port answered as it was loaded.
use Rattle.std.proofs.Common.{◌≡◌, ℕ, ◌+◌, List, [], ◌∷◌, ◌++◌, length, refl, sym, ap, ◌∙◌, subst, arith, length-append}
use Rattle.std.proofs.Common.{Result, Ok, Err, Option, Some, None, MatchResult}
use Rattle.std.specs.Prelude.{IfSome}
use Rattle.std.specs.List.{AllByRecursion}
use Rattle.dpx_base.specs.declared.aux_port.Answer.{Answer}
use Rattle.dpx_base.specs.declared.aux_port.Answer.TheVariants.{Silent}
use Rattle.dpx_base.specs.declared.aux_port.Entry.{Entry}
use Rattle.dpx_base.specs.Port.{answers_in, asks}
use Rattle.dpx_base.proofs.Port.{asks-append}
use Rattle.dpx_aux.specs.declared.asking.LastAnswer.TheVariants as last
use Rattle.dpx_aux.specs.Asking.{EndsAs, asked_with}
use Rattle.dpx_dpcd.specs.declared.plan.SinkPlan.{SinkPlan}
use Rattle.dpx_dpcd.specs.declared.plan.SinkPlan.TheVariants.{Script, Model}
use Rattle.dpx_dpcd.specs.LoadPort.{requests_in}
use Rattle.dpx_dpcd.specs.RegFile.{SinkFacts}
use Rattle.dpx_dpcd.specs.SinkPlan.{SinkState, new_sink, sink_answer, after_request, sink_answers, planned}
use Rattle.dpx_edid.specs.declared.fetch.Fetched.{Fetched}
use Rattle.dpx_edid.specs.declared.fetch.FetchEnd.{FetchEnd}
use Rattle.dpx_edid.specs.declared.fetch.I2cEnd.{I2cEnd}
use Rattle.dpx_edid.specs.declared.fetch.I2cEnd.TheVariants.{Spent}
use Rattle.dpx_edid.specs.declared.i2c.I2c.TheVariants.{Start}
use Rattle.dpx_edid.specs.I2c.{encode_i2c}
use Rattle.dpx_edid.specs.Fetch.{I2cTransaction, Reads, FetchOutcome, Fetch, heard_from, end_of, reads_at_most}
use Rattle.dpx_cli.specs.Fetching.{FetchedAsPlanned}

-- a start is no native request: each ask of it meets with silence, and changes nothing
silent_front : (sink : SinkFacts) (defers : ℕ) (state : SinkState) (xs : List Answer) (back : List Entry)
    → answers_in (asked_with (encode_i2c Start) xs ++ back)
    ≡ sink_answers sink defers state (requests_in (asked_with (encode_i2c Start) xs ++ back))
    → AllByRecursion (λ answer. answer ≡ Silent) xs
unfolding sink_answer after_request
silent_front sink defers state [] back e = tt
silent_front sink defers state (x ∷ xs) back e =
    let silent : x ≡ Silent = cc in
    let rest : answers_in (asked_with (encode_i2c Start) xs ++ back)
    ≡ sink_answers sink defers state (requests_in (asked_with (encode_i2c Start) xs ++ back)) = cc in
    (silent, silent_front sink defers state xs back rest)

asks_with : (bytes : List ℕ) (answers : List Answer) → asks (asked_with bytes answers) ≡ length answers
asks_with bytes [] = refl
asks_with bytes (x ∷ xs) = omega (arith, asks_with bytes xs)

last_of : (tried : List Answer) (answer : Answer) → AllByRecursion (λ other. other ≡ Silent) (tried ++ answer ∷ [])
    → answer ≡ Silent
last_of [] answer all = all.0
last_of (x ∷ xs) answer all = last_of xs answer all.1

abbrev Spends : Result (List ℕ) I2cEnd → Type 0
Spends given = given ≡ Err (Spent last.Silent)

-- what follows a start that was spent
nothing_follows : (middle given : Result (List ℕ) I2cEnd) (back : List Entry) → Spends middle
    → MatchResult middle (λ started. Reads reads_at_most [] given back) (λ error. (given ≡ Err error) × (back ≡ []))
    → Spends given × (back ≡ [])
nothing_follows (Ok bytes) given back spends on = absurd (cc)
nothing_follows (Err why) given back spends on = (on.0 ∙ spends, on.1)

outcome_spends : (sink : SinkFacts) (defers : ℕ) (given : Result (List ℕ) I2cEnd) (history : List Entry)
    → FetchOutcome given history → answers_in history ≡ sink_answers sink defers new_sink (requests_in history)
    → Spends given × (asks history ≡ 8)
unfolding FetchOutcome I2cTransaction
outcome_spends sink defers given history t answers =
    let start = encode_i2c Start in
    let all = t.begins.tried ++ t.begins.last ∷ [] in
    let joined : history ≡ asked_with start all ++ t.back =
    t.joined ∙ ap (λ front. front ++ t.back) t.begins.asked in
    let silent = silent_front sink defers new_sink all t.back
    (subst (λ entries. answers_in entries ≡ sink_answers sink defers new_sink (requests_in entries)) joined answers) in
    let ends = subst (λ answer. EndsAs Spent (length t.begins.tried + 1) (heard_from Start answer) t.middle)
    (last_of t.begins.tried t.begins.last silent) t.begins.ends in
    let follows = nothing_follows t.middle given t.back ends.1 t.goes_on in (
      follows.0,
      omega (
        arith,
        ends.0,
        ap asks joined,
        asks-append (asked_with start all) t.back,
        ap asks follows.1,
        asks_with start all,
        length-append t.begins.tried (t.begins.last ∷ []),
      ),
    )

planned_fetch : (plan : SinkPlan) (given : Result Fetched FetchEnd) (history : List Entry) → Fetch given history
    → answers_in history ≡ planned plan (requests_in history) → FetchedAsPlanned plan given
planned_fetch (Script answers) given history t a = tt
planned_fetch (Model caps extended defers channel) given history t a =
    let spends = outcome_spends _ defers t.outcome history t.fetches a in
    t.ends ∙ (ap (λ outcome. end_of (asks history) outcome) spends.0
    ∙ ap (λ requests. end_of requests (Err (Spent last.Silent))) spends.1)

-- the same of a port that tells its plan and its history
pub told_fetch : (given : Result Fetched FetchEnd) (entries : List Entry) (told_plan : Option SinkPlan)
    (told : Option (List Entry)) → Fetch given entries → IfSome told (λ is. is ≡ entries)
    → IfSome told_plan (λ is. IfSome told (λ history. answers_in history ≡ planned is (requests_in history)))
    → IfSome told_plan (λ is. IfSome told (λ history. FetchedAsPlanned is given))
told_fetch given entries None told t h a = tt
told_fetch given entries (Some is) None t h a = tt
told_fetch given entries (Some is) (Some history) t h a =
    planned_fetch is given history (subst (λ es. Fetch given es) (sym h) t) a
