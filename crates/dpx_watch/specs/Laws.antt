-- What every list of steps obeys: this project's own.
use Rattle.std.specs.Prelude.{◌≡◌, List, [], ◌∷◌, ◌++◌, ⊤}
use Rattle.dpx_base.specs.declared.aux_port.Entry.{Entry}
use Rattle.dpx_base.specs.declared.link.Link.{Link}
use Rattle.dpx_base.specs.declared.port_event.PortEvent.{PortEvent}
use Rattle.dpx_dpcd.specs.declared.status.Status6.{Status6}
use Rattle.dpx_dpcd.specs.Status.{AllLanesDone}
use Rattle.dpx_phase.specs.LastStatus.{IsLastRead}
use Rattle.dpx_watch.specs.declared.outcome.Outcome.{Outcome}
use Rattle.dpx_watch.specs.declared.state.WatchState.{WatchState}
use Rattle.dpx_watch.specs.declared.state.WatchState.TheVariants.{Down, Up}
use Rattle.dpx_watch.specs.State.{state_after}
use Rattle.dpx_watch.specs.Step.{WatchStep}

-- A link that is up has a status that shows every lane in use done, and that is the last one that was read.
pub record IsReadGood (link : Link) (last : Status6) (history : List Entry) : Type 0 where
  pub good : AllLanesDone link.lanes last
  pub read : IsLastRead last history

abbrev pub IsUpByRead : WatchState → List Entry → Type 0
IsUpByRead Down history = ⊤
IsUpByRead (Up link last) history = IsReadGood link last history

-- an event that was taken: what it came to, and what it added to the history
pub record Taken : Type 0 where
  pub event : PortEvent
  pub outcome : Outcome
  pub history : List Entry

-- the history of all
abbrev pub history_of : List Taken → List Entry
history_of [] = []
history_of (taken ∷ rest) = taken.history ++ history_of rest

-- the events were taken one behind the other, and led from one state to another
abbrev pub Watches : Link → WatchState → List Taken → WatchState → Type 0
Watches top state [] now = now ≡ state
Watches top state (taken ∷ rest) now =
    WatchStep top state taken.event taken.outcome taken.history × Watches top (state_after state taken.outcome) rest now
