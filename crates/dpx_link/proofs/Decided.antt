-- For given answers a training has one history, and one end.
use Rattle.std.proofs.lemmas.List.{append_cancel_left}
use Rattle.std.proofs.Common.{ℕ, suc, zero, List, ◌++◌, sym, ap, ◌∙◌, subst, Result, Ok, Err}
use Rattle.dpx_base.specs.declared.aux_port.Entry.{Entry}
use Rattle.dpx_base.specs.declared.link.Link.{Link}
use Rattle.dpx_base.specs.Port.{asks, answers_in}
use Rattle.dpx_aux.specs.declared.transaction.AuxEnd.{AuxEnd}
use Rattle.dpx_aux.specs.Conversation.{IsDecided}
use Rattle.dpx_aux.proofs.Decided.{ends_decided, choice_decided, then_decided, never_decided, answers_regrouped}
use Rattle.dpx_dpcd.specs.declared.caps.Caps.{Caps}
use Rattle.dpx_dpcd.specs.declared.caps.CapsBad.{CapsBad}
use Rattle.dpx_dpcd.specs.declared.pattern.Pattern.{Pattern}
use Rattle.dpx_dpcd.specs.declared.status.Drive.{Drive}
use Rattle.dpx_dpcd.specs.Caps.{has_extended, caps_read, caps_start}
use Rattle.dpx_phase.specs.declared.phase_end.PhaseEnd.{PhaseEnd}
use Rattle.dpx_phase.specs.declared.phase_end.PhaseEnd.TheVariants.{Done, Failed, Lost, Aux}
use Rattle.dpx_phase.specs.Equalisation.{Equalisation}
use Rattle.dpx_phase.specs.Recovery.{Recovery}
use Rattle.dpx_dpcd.proofs.Decided.{writes_decided, block_decided}
use Rattle.dpx_phase.proofs.Endings.{recovery_looks_back, equalisation_looks_back}
use Rattle.dpx_phase.proofs.Decided.{takes_decided}
use Rattle.dpx_link.specs.declared.fallback.Next.{Next}
use Rattle.dpx_link.specs.declared.fallback.Next.TheVariants.{Try, Stop}
use Rattle.dpx_link.specs.declared.train_end.Verdict.{Verdict}
use Rattle.dpx_link.specs.Attempt.{Attempt, Configures, PhasesInTurn, AfterRecovery, Equalises, equalised}
use Rattle.dpx_link.specs.Fallback.{next_of}
use Rattle.dpx_link.specs.Training.{Capabilities, Capable, Attempts, AfterAttempt, TrainsWith, TrainOutcome}
use Rattle.dpx_link.specs.Training.{Training, attempts_at_most, end_of}

recovery_decided : (link : Link) → IsDecided (Recovery link)
unfolding Recovery
recovery_decided link = takes_decided _ _ _ (recovery_looks_back link.lanes)

equalisation_decided : (link : Link) (chosen : Pattern) (drive : Drive) (interval : ℕ)
    → IsDecided (Equalisation link chosen drive interval)
unfolding Equalisation
equalisation_decided link chosen drive interval =
    takes_decided _ _ _ (equalisation_looks_back link.lanes drive.registers)

equalises_decided : (caps : Caps) (link : Link) (drive : Drive) → IsDecided (Equalises caps link drive)
equalises_decided caps link drive r s xs ys later after a b e =
    let same = equalisation_decided link _ drive caps.interval a.end b.end xs ys later after a.phase b.phase e in
    (same.0, a.means ∙ ap equalised same.1 ∙ sym b.means)

after_decided : (caps : Caps) (link : Link) (end : PhaseEnd) → IsDecided (AfterRecovery caps link end)
after_decided caps link (Done drive last) = equalises_decided caps link drive
after_decided caps link (Failed last cause) = ends_decided _
after_decided caps link (Lost last) = ends_decided _
after_decided caps link (Aux why) = ends_decided _

phases_decided : (caps : Caps) (link : Link) → IsDecided (PhasesInTurn caps link)
phases_decided caps link r s xs ys later after a b e =
    let grouped = sym (answers_regrouped xs a.front a.back later a.joined)
    ∙ (e ∙ answers_regrouped ys b.front b.back after b.joined) in
    let same = recovery_decided link a.end b.end a.front b.front (answers_in a.back ++ later)
    (answers_in b.back ++ after) a.recovery b.recovery grouped in
    let rest = append_cancel_left (answers_in a.front) (answers_in a.back ++ later) (answers_in b.back ++ after)
    (grouped ∙ ap (λ zs. answers_in zs ++ (answers_in b.back ++ after)) (sym same.0)) in
    let on = subst (λ (end : PhaseEnd). AfterRecovery caps link end s b.back) (sym same.1) b.goes_on in
    let ends = after_decided caps link a.end r s a.back b.back later after a.goes_on on rest in
    (a.joined ∙ (ap (λ zs. zs ++ a.back) same.0 ∙ (ap (λ zs. b.front ++ zs) ends.0 ∙ sym b.joined)), ends.1)

configures_decided : (link : Link) → IsDecided (Configures link)
unfolding Configures
configures_decided link = then_decided (writes_decided _ _) (λ configured. writes_decided _ _)

attempt_decided : (caps : Caps) (link : Link) → IsDecided (Attempt caps link)
unfolding Attempt
attempt_decided caps link = then_decided (configures_decided link) (λ configured. phases_decided caps link)

next_decided : (more : Link → Result Verdict AuxEnd → List Entry → Type 0) → ((link : Link) → IsDecided (more link))
    → (next : Next) → IsDecided (AfterAttempt more next)
next_decided more d (Try link) = d link
next_decided more d (Stop verdict) = ends_decided _

attempts_decided : (left : ℕ) (caps : Caps) (first link : Link) → IsDecided (Attempts left caps first link)
unfolding Attempts
attempts_decided zero caps first link = never_decided
attempts_decided (suc left) caps first link =
    then_decided (attempt_decided caps link) (λ end. next_decided (Attempts left caps first)
    (attempts_decided left caps first) (next_of first link end))

trains_with_decided : (caps : Caps) (first : Link) → IsDecided (TrainsWith caps first)
unfolding TrainsWith
trains_with_decided caps first =
    then_decided (writes_decided _ _) (λ powered. then_decided (attempts_decided attempts_at_most caps first first)
    (λ verdict. then_decided (writes_decided _ _) (λ closed. ends_decided _)))

capable_decided : (top : Link) (caps : Result Caps CapsBad) → IsDecided (Capable top caps)
capable_decided top (Err why) = ends_decided _
capable_decided top (Ok caps) = trains_with_decided caps (caps_start caps top)

capabilities_decided : IsDecided Capabilities
unfolding Capabilities
capabilities_decided =
    then_decided (block_decided _) (λ block. choice_decided (has_extended block) (block_decided _) (ends_decided _))

trains_decided : (top : Link) → IsDecided (TrainOutcome top)
unfolding TrainOutcome
trains_decided top = then_decided capabilities_decided (λ block. capable_decided top (caps_read block))

pub training_decided : (top : Link) → IsDecided (Training top)
training_decided top r s xs ys later after a b e =
    let same = trains_decided top a.outcome b.outcome xs ys later after a.trains b.trains e in (
      same.0,
      a.ends ∙ (ap (λ (history : List Entry). end_of (asks history) a.outcome) same.0
          ∙ ap (end_of (asks ys)) same.1) ∙ sym b.ends,
    )
