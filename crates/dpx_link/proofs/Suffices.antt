-- How many answers suffice for a training, whatever they are.
use Rattle.std.proofs.Common.{ℕ, zero, suc, ◌+◌, ◌*◌, ◌<◌, ◌++◌, refl, arith}
use Rattle.std.proofs.Common.{Option, Some, None, Result, Ok, Err}
use Rattle.dpx_base.specs.declared.link.Link.{Link}
use Rattle.dpx_base.specs.Port.{asks}
use Rattle.dpx_aux.specs.Conversation.{Suffices}
use Rattle.dpx_aux.specs.Asking.{asks_at_most}
use Rattle.dpx_aux.proofs.Suffices.{more_suffice, ends_suffice, then_suffices, choice_suffices, left_behind}
use Rattle.dpx_aux.proofs.Suffices.{begins_joined, few_joined}
use Rattle.dpx_dpcd.specs.declared.caps.Caps.{Caps}
use Rattle.dpx_dpcd.specs.declared.caps.CapsBad.{CapsBad}
use Rattle.dpx_dpcd.specs.declared.status.Drive.{Drive}
use Rattle.dpx_dpcd.specs.declared.status.Status6.{Status6}
use Rattle.dpx_dpcd.specs.Caps.{has_extended, caps_read, caps_start, caps_pattern}
use Rattle.dpx_dpcd.proofs.Suffices.{writes_suffice, block_suffices}
use Rattle.dpx_phase.specs.declared.phase_end.PhaseEnd.{PhaseEnd}
use Rattle.dpx_phase.specs.declared.phase_end.PhaseEnd.TheVariants.{Done, Failed, Lost, Aux}
use Rattle.dpx_phase.specs.Equalisation.{equalisation_asks}
use Rattle.dpx_phase.specs.Recovery.{recovery_asks}
use Rattle.dpx_phase.proofs.Suffices.{recovery_suffices, equalisation_suffices}
use Rattle.dpx_link.specs.declared.attempt.AttemptEnd.{AttemptEnd}
use Rattle.dpx_link.specs.declared.attempt.AttemptEnd.TheVariants as attempt
use Rattle.dpx_link.specs.Attempt.{Attempt, Configures, PhasesInTurn, AfterRecovery, Equalises, equalised}
use Rattle.dpx_link.specs.Attempt.{attempt_transactions}
use Rattle.dpx_link.specs.Fallback.{next_of, fall_back, after_failed_recovery, after_failed_equalisation}
use Rattle.dpx_link.specs.Training.{Capabilities, Capable, Attempts, AfterAttempt, TrainsWith, TrainOutcome, Training}
use Rattle.dpx_link.specs.Training.{attempts_at_most, training_asks, end_of}
use Rattle.dpx_link.proofs.Ranks.{rank_of, rank_of-bound, Below, unrecovered_below, unequalised_below}

equalises_suffices : (caps : Caps) (link : Link) (drive : Drive)
    → Suffices equalisation_asks (Equalises caps link drive)
equalises_suffices caps link drive answers enough =
    let f = equalisation_suffices link (caps_pattern caps) drive caps.interval answers enough in
    record {
      given = equalised f.given;
      history = f.history;
      rest = f.rest;
      done = record { end = f.given; phase = f.done; means = refl };
      begins = f.begins;
      few = f.few;
    }

after_recovery_suffices : (caps : Caps) (link : Link) (end : PhaseEnd)
    → Suffices equalisation_asks (AfterRecovery caps link end)
after_recovery_suffices caps link (Done drive last) answers enough = equalises_suffices caps link drive answers enough
after_recovery_suffices caps link (Failed last cause) answers enough = ends_suffice equalisation_asks _ answers enough
after_recovery_suffices caps link (Lost last) answers enough = ends_suffice equalisation_asks _ answers enough
after_recovery_suffices caps link (Aux why) answers enough = ends_suffice equalisation_asks _ answers enough

phases_suffice : (caps : Caps) (link : Link) → Suffices (recovery_asks + equalisation_asks) (PhasesInTurn caps link)
phases_suffice caps link answers enough =
    let r = recovery_suffices link answers (omega arith) in
    let v = after_recovery_suffices caps link r.given r.rest (left_behind r equalisation_asks enough) in
    record {
      given = v.given;
      history = r.history ++ v.history;
      rest = v.rest;
      done = record {
        end = r.given;
        front = r.history;
        back = v.history;
        joined = refl;
        recovery = r.done;
        goes_on = v.done;
      };
      begins = begins_joined answers r.rest v.rest r.history v.history r.begins v.begins;
      few = few_joined recovery_asks equalisation_asks r.history v.history r.few v.few;
    }

attempt_suffices : (caps : Caps) (link : Link) → Suffices (asks_at_most * attempt_transactions) (Attempt caps link)
unfolding Attempt Configures
attempt_suffices caps link =
    then_suffices (asks_at_most + asks_at_most) (recovery_asks + equalisation_asks)
    (then_suffices asks_at_most asks_at_most (writes_suffice _ _) (λ configured. writes_suffice _ _))
    (λ configured. phases_suffice caps link)

-- the attempts from each configuration that has fewer configurations after it than so many
abbrev MoreSuffice : ℕ → Caps → Link → Type 0
MoreSuffice left caps first =
    (link : Link) → rank_of link < left → Suffices (left * (asks_at_most * attempt_transactions))
    (Attempts left caps first link)

fall_back_suffices : (left : ℕ) (caps : Caps) (first link : Link) (last : Status6) (next : Option Link)
    → MoreSuffice left caps first → rank_of link < suc left → Below link next
    → Suffices (left * (asks_at_most * attempt_transactions))
    (AfterAttempt (Attempts left caps first) (fall_back last next))
fall_back_suffices left caps first link last None more room below answers enough = ends_suffice _ _ answers enough
fall_back_suffices left caps first link last (Some lower) more room below answers enough =
    more lower (omega arith) answers enough

after_attempt_suffices : (left : ℕ) (caps : Caps) (first link : Link) (end : AttemptEnd) → MoreSuffice left caps first
    → rank_of link < suc left
    → Suffices (left * (asks_at_most * attempt_transactions))
    (AfterAttempt (Attempts left caps first) (next_of first link end))
after_attempt_suffices left caps first link (attempt.Done drive last) more room answers enough =
    ends_suffice _ _ answers enough
after_attempt_suffices left caps first link (attempt.Unrecovered last) more room answers enough =
    fall_back_suffices left caps first link last (after_failed_recovery first link) more room
    (unrecovered_below first link.rate link.lanes link.enhanced) answers enough
after_attempt_suffices left caps first link (attempt.Unequalised last) more room answers enough =
    fall_back_suffices left caps first link last (after_failed_equalisation link) more room
    (unequalised_below link.rate link.lanes link.enhanced) answers enough

attempts_suffice : (left : ℕ) (caps : Caps) (first : Link) → MoreSuffice left caps first
unfolding Attempts
attempts_suffice zero caps first link room answers enough = absurd (omega arith)
attempts_suffice (suc left) caps first link room answers enough =
    let one = asks_at_most * attempt_transactions in
    more_suffice (one + left * one) (suc left * one) (omega arith)
    (then_suffices one (left * one) (attempt_suffices caps link) (λ end.
    after_attempt_suffices left caps first link end (attempts_suffice left caps first) room)) answers enough

trains_with_suffices : (caps : Caps) (first : Link)
    → Suffices (asks_at_most * (2 + attempts_at_most * attempt_transactions)) (TrainsWith caps first)
unfolding TrainsWith
trains_with_suffices caps first =
    let most = attempts_at_most * (asks_at_most * attempt_transactions) in
    then_suffices asks_at_most (most + asks_at_most) (writes_suffice _ _) (λ powered.
    then_suffices most asks_at_most (attempts_suffice attempts_at_most caps first first (rank_of-bound first))
    (λ verdict.
    then_suffices asks_at_most 0 (writes_suffice _ _) (λ closed. ends_suffice 0 _)))

capable_suffices : (top : Link) (caps : Result Caps CapsBad)
    → Suffices (asks_at_most * (2 + attempts_at_most * attempt_transactions)) (Capable top caps)
capable_suffices top (Err why) answers enough = ends_suffice _ _ answers enough
capable_suffices top (Ok caps) answers enough = trains_with_suffices caps (caps_start caps top) answers enough

outcome_suffices : (top : Link) → Suffices training_asks (TrainOutcome top)
unfolding TrainOutcome Capabilities
outcome_suffices top =
    then_suffices (asks_at_most + asks_at_most) (asks_at_most * (2 + attempts_at_most * attempt_transactions))
    (then_suffices asks_at_most asks_at_most (block_suffices _) (λ block.
    choice_suffices asks_at_most (has_extended block) (block_suffices _) (ends_suffice asks_at_most _)))
    (λ block. capable_suffices top (caps_read block))

pub training_suffices : (top : Link) → Suffices training_asks (Training top)
training_suffices top answers enough =
    let f = outcome_suffices top answers enough in
    record {
      given = end_of (asks f.history) f.given;
      history = f.history;
      rest = f.rest;
      done = record { outcome = f.given; trains = f.done; ends = refl };
      begins = f.begins;
      few = f.few;
    }
