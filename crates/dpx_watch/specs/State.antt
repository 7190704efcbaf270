-- Whether a link may carry frames: this project's own.
use Rattle.std.specs.Prelude.{Bool, true, false, ◌&&◌, Option, Some, None, ⊤}
use Rattle.dpx_base.specs.declared.lanes.Lanes.{Lanes}
use Rattle.dpx_base.specs.declared.link.Link.{Link}
use Rattle.dpx_dpcd.specs.declared.status.Status6.{Status6}
use Rattle.dpx_dpcd.specs.Status.{cr_done, eq_done, AllLanesDone}
use Rattle.dpx_watch.specs.declared.outcome.Outcome.{Outcome}
use Rattle.dpx_watch.specs.declared.outcome.Outcome.TheVariants as outcome
use Rattle.dpx_watch.specs.declared.state.WatchState.{WatchState}
use Rattle.dpx_watch.specs.declared.state.WatchState.TheVariants.{Down, Up}

-- what contracts see of a watch: the configuration that it trains from, and its state
pub record WatchSeen : Type 0 where
  pub top : Link
  pub state : WatchState

-- the status shows every lane in use done
abbrev pub all_lanes_done : Lanes → Status6 → Bool
all_lanes_done lanes status = cr_done lanes status.bytes && eq_done lanes status.bytes

-- a link that was up and was looked at is up with the new status
abbrev pub kept_with : WatchState → Status6 → WatchState
kept_with Down last = Down
kept_with (Up link before) last = Up link last

-- the state behind a step that came to this
abbrev pub state_after : WatchState → Outcome → WatchState
state_after state outcome.Nothing = Down
state_after state (outcome.Kept last) = kept_with state last
state_after state (outcome.Trained link drive last) = Up link last
state_after state (outcome.NotTrained last) = Down
state_after state (outcome.CapsRefused why) = Down
state_after state (outcome.AuxEnded why) = Down
state_after state outcome.Unplugged = Down

-- frames are allowed where the link is up
abbrev pub is_up : WatchState → Bool
is_up Down = false
is_up (Up link last) = true

-- the status that was read last, of a link that is up
abbrev pub last_of : WatchState → Option Status6
last_of Down = None
last_of (Up link last) = Some last

-- a link is up only with a status that shows every lane in use done
abbrev pub IsGoodState : WatchState → Type 0
IsGoodState Down = ⊤
IsGoodState (Up link last) = AllLanesDone link.lanes last

-- what a step came to says of a link on these lanes only what the status shows
abbrev pub IsGoodOutcome : Lanes → Outcome → Type 0
IsGoodOutcome lanes outcome.Nothing = ⊤
IsGoodOutcome lanes (outcome.Kept last) = AllLanesDone lanes last
IsGoodOutcome lanes (outcome.Trained link drive last) = AllLanesDone link.lanes last
IsGoodOutcome lanes (outcome.NotTrained last) = ⊤
IsGoodOutcome lanes (outcome.CapsRefused why) = ⊤
IsGoodOutcome lanes (outcome.AuxEnded why) = ⊤
IsGoodOutcome lanes outcome.Unplugged = ⊤
