-- Trained only with a last status that shows every lane in use done.
use Rattle.std.proofs.Common.{◌≡◌, ℕ, suc, zero, List, [], ◌∷◌, sym, subst, Option, Some, None, Result, Ok, Err}
use Rattle.std.proofs.Common.{MatchResult}
use Rattle.std.specs.Prelude.{⊤, IfOk}
use Rattle.dpx_base.specs.declared.aux_port.Entry.{Entry}
use Rattle.dpx_base.specs.declared.link.Link.{Link}
use Rattle.dpx_base.specs.Port.{asks}
use Rattle.dpx_aux.specs.declared.transaction.AuxEnd.{AuxEnd}
use Rattle.dpx_aux.specs.Conversation.{Ends, ◌>>=◌, ResultsAre, Never}
use Rattle.dpx_dpcd.specs.declared.caps.Caps.{Caps}
use Rattle.dpx_dpcd.specs.declared.caps.CapsBad.{CapsBad}
use Rattle.dpx_dpcd.specs.declared.pattern.Pattern.{Pattern}
use Rattle.dpx_dpcd.specs.declared.status.Drive.{Drive}
use Rattle.dpx_dpcd.specs.declared.status.Status6.{Status6}
use Rattle.dpx_dpcd.specs.Caps.{caps_read, caps_start}
use Rattle.dpx_dpcd.specs.Registers.{Writes}
use Rattle.dpx_phase.specs.declared.phase_end.PhaseEnd.{PhaseEnd}
use Rattle.dpx_phase.specs.declared.phase_end.PhaseEnd.TheVariants.{Done, Failed, Lost, Aux}
use Rattle.dpx_phase.specs.Equalisation.{Equalisation, EndsEqualisation}
use Rattle.dpx_phase.proofs.EndsSay.{equalisation_honest, takes_always}
use Rattle.dpx_link.specs.declared.attempt.AttemptEnd.{AttemptEnd}
use Rattle.dpx_link.specs.declared.attempt.AttemptEnd.TheVariants as attempt
use Rattle.dpx_link.specs.declared.fallback.Next.{Next}
use Rattle.dpx_link.specs.declared.fallback.Next.TheVariants.{Try, Stop}
use Rattle.dpx_link.specs.declared.train_end.Verdict.{Verdict}
use Rattle.dpx_link.specs.declared.train_end.Verdict.TheVariants as verdict
use Rattle.dpx_link.specs.Attempt.{Attempt, PhasesInTurn, AfterRecovery, Equalises, equalised, AttemptIsDone}
use Rattle.dpx_link.specs.Fallback.{next_of, fall_back}
use Rattle.dpx_link.specs.Training.{Capable, Attempts, AfterAttempt, TrainsWith, TrainOutcome, Training}
use Rattle.dpx_link.specs.Training.{attempts_at_most, end_of, TrainedIsDone, VerdictIsDone}

-- what follows the first part gives only such values
next_good : {A B E : Type 0} (Is : B → Type 0) (first : Result A E → List Entry → Type 0)
    (next : A → Result B E → List Entry → Type 0) → ((value : A) → ResultsAre (next value) (λ given. IfOk given Is))
    → (middle : Result A E) (given : Result B E) (back : List Entry)
    → MatchResult middle (λ value. next value given back) (λ error. (given ≡ Err error) × (back ≡ [])) → IfOk given Is
next_good Is first next good (Ok value) given back on = good value given back on
next_good Is first next good (Err error) given back on = subst (λ (r : Result _ _). IfOk r Is) (sym on.0) tt

then_good : {A B E : Type 0} (Is : B → Type 0) (first : Result A E → List Entry → Type 0)
    (next : A → Result B E → List Entry → Type 0) → ((value : A) → ResultsAre (next value) (λ given. IfOk given Is))
    → ResultsAre (first >>= next) (λ given. IfOk given Is)
then_good Is first next good given history t = next_good Is first next good t.middle given t.back t.goes_on

-- a part that ends so, with a value that is such
ends_good : {B E : Type 0} (Is : B → Type 0) (value : Result B E) → IfOk value Is
    → ResultsAre (Ends value) (λ given. IfOk given Is)
ends_good Is value good given history e = subst (λ (r : Result _ _). IfOk r Is) (sym e.same) good

equalisation_good : (link : Link) (chosen : Pattern) (drive : Drive) (interval : ℕ)
    → ResultsAre (Equalisation link chosen drive interval) (EndsEqualisation link.lanes)
unfolding Equalisation
equalisation_good link chosen drive interval =
    takes_always (EndsEqualisation link.lanes) _ (equalisation_honest link.lanes drive.registers) (λ why. tt) _ _

equalised_good : (link : Link) (end : PhaseEnd) → EndsEqualisation link.lanes end
    → IfOk (equalised end) (AttemptIsDone link.lanes)
equalised_good link (Done drive last) e = e
equalised_good link (Failed last cause) e = tt
equalised_good link (Lost last) e = tt
equalised_good link (Aux why) e = tt

equalises_good : (caps : Caps) (link : Link) (drive : Drive)
    → ResultsAre (Equalises caps link drive) (λ given. IfOk given (AttemptIsDone link.lanes))
equalises_good caps link drive given history e =
    subst (λ (r : Result AttemptEnd AuxEnd). IfOk r (AttemptIsDone link.lanes)) (sym e.means)
    (equalised_good link e.end (equalisation_good link _ drive caps.interval e.end history e.phase))

after_good : (caps : Caps) (link : Link) (end : PhaseEnd)
    → ResultsAre (AfterRecovery caps link end) (λ given. IfOk given (AttemptIsDone link.lanes))
after_good caps link (Done drive last) = equalises_good caps link drive
after_good caps link (Failed last cause) = ends_good (AttemptIsDone link.lanes) (Ok (attempt.Unrecovered last)) tt
after_good caps link (Lost last) = ends_good (AttemptIsDone link.lanes) (Ok (attempt.Unrecovered last)) tt
after_good caps link (Aux why) = ends_good (AttemptIsDone link.lanes) (Err why) tt

phases_good : (caps : Caps) (link : Link) → ResultsAre (PhasesInTurn caps link)
    (λ given. IfOk given (AttemptIsDone link.lanes))
phases_good caps link given history p = after_good caps link p.end given p.back p.goes_on

attempt_good : (caps : Caps) (link : Link) → ResultsAre (Attempt caps link)
    (λ given. IfOk given (AttemptIsDone link.lanes))
unfolding Attempt
attempt_good caps link = then_good (AttemptIsDone link.lanes) _ _ (λ configured. phases_good caps link)

-- a step to the next configuration, or a good verdict
abbrev IsGoodNext : Next → Type 0
IsGoodNext (Try link) = ⊤
IsGoodNext (Stop verdict) = VerdictIsDone verdict

falls_back_good : (last : Status6) (next : Option Link) → IsGoodNext (fall_back last next)
falls_back_good last None = tt
falls_back_good last (Some link) = tt

next_of_good : (first link : Link) (end : AttemptEnd) → AttemptIsDone link.lanes end
    → IsGoodNext (next_of first link end)
next_of_good first link (attempt.Done drive last) good = good
next_of_good first link (attempt.Unrecovered last) good = falls_back_good last _
next_of_good first link (attempt.Unequalised last) good = falls_back_good last _

after_attempt_good : (more : Link → Result Verdict AuxEnd → List Entry → Type 0)
    → ((link : Link) → ResultsAre (more link) (λ given. IfOk given VerdictIsDone)) → (next : Next) → IsGoodNext next
    → ResultsAre (AfterAttempt more next) (λ given. IfOk given VerdictIsDone)
after_attempt_good more good (Try link) n = good link
after_attempt_good more good (Stop verdict) n = ends_good VerdictIsDone (Ok verdict) n

-- an attempt, and what follows it
tried_good : (left : ℕ) (caps : Caps) (first link : Link)
    → ((lower : Link) → ResultsAre (Attempts left caps first lower) (λ given. IfOk given VerdictIsDone))
    → (middle : Result AttemptEnd AuxEnd) (given : Result Verdict AuxEnd) (back : List Entry)
    → IfOk middle (AttemptIsDone link.lanes) → MatchResult middle
    (λ end. AfterAttempt (Attempts left caps first) (next_of first link end) given back)
    (λ error. (given ≡ Err error) × (back ≡ [])) → IfOk given VerdictIsDone
tried_good left caps first link good (Ok end) given back e on =
    after_attempt_good (Attempts left caps first) good (next_of first link end)
    (next_of_good first link end e) given back on
tried_good left caps first link good (Err error) given back e on =
    subst (λ (r : Result Verdict AuxEnd). IfOk r VerdictIsDone) (sym on.0) tt

never_good : {R : Type 0} (Is : R → Type 0) → ResultsAre (Never {R = R}) Is
never_good Is given history n = absurd n.never

more_good : (left : ℕ) (caps : Caps) (first link : Link)
    → ((lower : Link) → ResultsAre (Attempts left caps first lower) (λ given. IfOk given VerdictIsDone))
    → ResultsAre (Attempt caps link >>= λ end. AfterAttempt (Attempts left caps first) (next_of first link end))
    (λ given. IfOk given VerdictIsDone)
more_good left caps first link good given history t =
    tried_good left caps first link good t.middle given t.back
    (attempt_good caps link t.middle t.front t.begins) t.goes_on

attempts_good : (left : ℕ) (caps : Caps) (first link : Link)
    → ResultsAre (Attempts left caps first link) (λ given. IfOk given VerdictIsDone)
unfolding Attempts
attempts_good zero caps first link = never_good (λ given. IfOk given VerdictIsDone)
attempts_good (suc left) caps first link = more_good left caps first link (attempts_good left caps first)

-- the attempts' verdict, and the closing write
closed_good : (caps : Caps) (first : Link) (middle : Result Verdict AuxEnd) (given : Result Verdict AuxEnd)
    (back : List Entry) → IfOk middle VerdictIsDone
    → MatchResult middle (λ verdict. (Writes 0x00102 (0x00 ∷ []) >>= λ closed. Ends (Ok verdict)) given back)
    (λ error. (given ≡ Err error) × (back ≡ [])) → IfOk given VerdictIsDone
closed_good caps first (Ok verdict) given back good on =
    then_good VerdictIsDone (Writes 0x00102 (0x00 ∷ [])) (λ closed. Ends (Ok verdict))
    (λ closed. ends_good VerdictIsDone (Ok verdict) good) given back on
closed_good caps first (Err error) given back good on =
    subst (λ (r : Result Verdict AuxEnd). IfOk r VerdictIsDone) (sym on.0) tt

trains_with_good : (caps : Caps) (first : Link) → ResultsAre (TrainsWith caps first) (λ given. IfOk given VerdictIsDone)
unfolding TrainsWith
trains_with_good caps first =
    then_good VerdictIsDone _ _ (λ powered given history t. closed_good caps first t.middle given t.back
    (attempts_good attempts_at_most caps first first t.middle t.front t.begins) t.goes_on)

capable_good : (top : Link) (caps : Result Caps CapsBad)
    → ResultsAre (Capable top caps) (λ given. IfOk given VerdictIsDone)
capable_good top (Err why) = ends_good VerdictIsDone (Ok (verdict.CapsRefused why)) tt
capable_good top (Ok caps) = trains_with_good caps (caps_start caps top)

trains_good : (top : Link) → ResultsAre (TrainOutcome top) (λ given. IfOk given VerdictIsDone)
unfolding TrainOutcome
trains_good top = then_good VerdictIsDone _ _ (λ block. capable_good top (caps_read block))

end_good : (requests : ℕ) (outcome : Result Verdict AuxEnd) → IfOk outcome VerdictIsDone
    → TrainedIsDone (end_of requests outcome)
end_good requests (Ok (verdict.Trained link drive last)) good = good
end_good requests (Ok (verdict.NotTrained last)) good = tt
end_good requests (Ok (verdict.CapsRefused why)) good = tt
end_good requests (Err why) good = tt

pub training_good : (top : Link) → ResultsAre (Training top) TrainedIsDone
training_good top end history t = subst TrainedIsDone (sym t.ends)
    (end_good (asks history) t.outcome (trains_good top t.outcome history t.trains))
