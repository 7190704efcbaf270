-- The attempts along the fallback order: how many are left changes nothing, while there are enough.
use Rattle.std.proofs.Common.{ℕ, zero, suc, ◌<◌, List, arith, Option, Some, None}
use Rattle.dpx_base.specs.declared.aux_port.Entry.{Entry}
use Rattle.dpx_base.specs.declared.link.Link.{Link}
use Rattle.dpx_aux.specs.Conversation.{◌>>=◌}
use Rattle.dpx_dpcd.specs.declared.caps.Caps.{Caps}
use Rattle.dpx_dpcd.specs.declared.status.Status6.{Status6}
use Rattle.dpx_link.specs.declared.attempt.AttemptEnd.{AttemptEnd}
use Rattle.dpx_link.specs.declared.attempt.AttemptEnd.TheVariants as attempt
use Rattle.dpx_link.specs.Attempt.{Attempt}
use Rattle.dpx_link.specs.Fallback.{next_of, fall_back, after_failed_recovery, after_failed_equalisation}
use Rattle.dpx_link.specs.Inner.{TrainingGives}
use Rattle.dpx_link.specs.Training.{AfterAttempt, Attempts, attempts_at_most}
use Rattle.dpx_link.proofs.Ranks.{rank_of, rank_of-bound, Below, unrecovered_below, unequalised_below}
use Rattle.dpx_judge.specs.Remainder.{Same}
use Rattle.dpx_judge.proofs.Same.{same, then_next}

-- two ways to go on are the same from each configuration that has fewer after it
abbrev SameBelow : Link → (more other : Link → TrainingGives → List Entry → Type 0) → Type 0
SameBelow link more other = (lower : Link) → rank_of lower < rank_of link → Same (more lower) (other lower)

fall_back_same : (link : Link) (last : Status6) (next : Option Link)
    (more other : Link → TrainingGives → List Entry → Type 0) → SameBelow link more other → Below link next
    → Same (AfterAttempt more (fall_back last next)) (AfterAttempt other (fall_back last next))
fall_back_same link last None more other s below = same _
fall_back_same link last (Some lower) more other s below = s lower below

after_same : (first link : Link) (end : AttemptEnd) (more other : Link → TrainingGives → List Entry → Type 0)
    → SameBelow link more other
    → Same (AfterAttempt more (next_of first link end)) (AfterAttempt other (next_of first link end))
after_same first link (attempt.Done drive last) more other s = same _
after_same first link (attempt.Unrecovered last) more other s =
    fall_back_same link last (after_failed_recovery first link) more other s
    (unrecovered_below first link.rate link.lanes link.enhanced)
after_same first link (attempt.Unequalised last) more other s =
    fall_back_same link last (after_failed_equalisation link) more other s
    (unequalised_below link.rate link.lanes link.enhanced)

attempts_enough : (left other : ℕ) (caps : Caps) (first link : Link) → rank_of link < left → rank_of link < other
    → Same (Attempts left caps first link) (Attempts other caps first link)
unfolding Attempts
attempts_enough zero other caps first link l o = absurd (omega arith)
attempts_enough (suc left) zero caps first link l o = absurd (omega arith)
attempts_enough (suc left) (suc other) caps first link l o =
    then_next (Attempt caps link) (λ end. after_same first link end _ _ (λ lower less.
    attempts_enough left other caps first lower (omega arith) (omega arith)))

-- an attempt, and what follows it
pub attempt_first : (caps : Caps) (first link : Link)
    → Same (Attempts attempts_at_most caps first link)
    (Attempt caps link >>= λ end. AfterAttempt (Attempts attempts_at_most caps first) (next_of first link end))
unfolding Attempts
attempt_first caps first link =
    then_next (Attempt caps link) (λ end. after_same first link end _ _ (λ lower less.
    attempts_enough 11 attempts_at_most caps first lower (omega (arith, rank_of-bound link)) (rank_of-bound lower)))
