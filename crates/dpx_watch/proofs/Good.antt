-- Whatever a step gives, the link is up only with a good status.
use Rattle.std.proofs.Common.{Result, Ok, Err}
use Rattle.std.specs.Prelude.{IfOk}
use Rattle.dpx_base.specs.declared.lanes.Lanes.{Lanes}
use Rattle.dpx_base.specs.declared.lanes.Lanes.TheVariants.{One}
use Rattle.dpx_aux.specs.declared.transaction.AuxEnd.{AuxEnd}
use Rattle.dpx_watch.specs.declared.outcome.Outcome.{Outcome}
use Rattle.dpx_watch.specs.declared.outcome.Outcome.TheVariants as outcome
use Rattle.dpx_watch.specs.declared.state.WatchState.{WatchState}
use Rattle.dpx_watch.specs.declared.state.WatchState.TheVariants.{Down, Up}
use Rattle.dpx_watch.specs.State.{state_after, IsGoodOutcome, IsGoodState}
use Rattle.dpx_watch.specs.Step.{settled}

outcome_good : (state : WatchState) (outcome : Outcome) → ((lanes : Lanes) → IsGoodOutcome lanes outcome)
    → IsGoodState (state_after state outcome)
outcome_good state outcome.Nothing good = tt
outcome_good Down (outcome.Kept last) good = tt
outcome_good (Up link before) (outcome.Kept last) good = good link.lanes
outcome_good state (outcome.Trained link drive last) good = good One
outcome_good state (outcome.NotTrained last) good = tt
outcome_good state (outcome.CapsRefused why) good = tt
outcome_good state (outcome.AuxEnded why) good = tt
outcome_good state outcome.Unplugged good = tt

-- good whatever the lanes are, as a training gives it
pub settled_good : (state : WatchState) (given : Result Outcome AuxEnd)
    → ((lanes : Lanes) → IfOk given (IsGoodOutcome lanes)) → IsGoodState (state_after state (settled given))
settled_good state (Ok outcome) good = outcome_good state outcome good
settled_good state (Err why) good = tt
