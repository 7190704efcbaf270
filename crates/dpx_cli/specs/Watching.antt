-- Events taken as a step of a command: this project's own. `port` is the AUX port, `report` the text of the report.
use Rattle.std.specs.Prelude.{◌≡◌, ℕ, List, [], ◌++◌, OnOk, Result, ⊤}
use Rattle.dpx_base.specs.declared.link.Link.{Link}
use Rattle.dpx_base.specs.declared.port_event.PortEvent.{PortEvent}
use Rattle.dpx_base.specs.Port.{PortState, Added, asks}
use Rattle.dpx_dpcd.specs.declared.plan.SinkPlan.{SinkPlan}
use Rattle.dpx_watch.specs.declared.state.WatchState.{WatchState}
use Rattle.dpx_watch.specs.declared.state.WatchState.TheVariants.{Down}
use Rattle.dpx_watch.specs.Laws.{Taken, Watches, history_of}
use Rattle.dpx_watch.specs.State.{WatchSeen, state_after, is_up}
use Rattle.dpx_watch.specs.Step.{WatchStep}
use Rattle.dpx_cli.specs.Step.{Step}
use Rattle.dpx_cli.specs.Watch.{WatchedWith, events_of}
use Rattle.dpx_cli.specs.WatchLines.{event_line, watch_lines}

-- the event of this number was taken, and its line written where there was memory for it
pub record EventTaken {Plan E : Type 0} (number : ℕ) (event : PortEvent) (watch : Step WatchSeen)
    (port : Step (PortState Plan)) (report : Step (List ℕ)) (result : Result ⊤ E) : Type 0 where
  pub taken : Taken
  pub event_is : taken.event ≡ event
  pub stepped : WatchStep watch.before.top watch.before.state taken.event taken.outcome taken.history
  pub added : Added taken.history port.before port.now
  pub watch_is : watch.now ≡ record { top = watch.before.top; state = state_after watch.before.state taken.outcome }
  pub written : OnOk result (report.now
      ≡ report.before ++ event_line number event taken.outcome (asks taken.history) (is_up watch.now.state))

-- some first of these events were taken, one behind the other, all of them where there was memory for their lines
pub record EventsAreTaken {Plan E : Type 0} (top : Link) (events : List PortEvent) (port : Step (PortState Plan))
    (report : Step (List ℕ)) (result : Result ⊤ E) : Type 0 where
  pub taken : List Taken
  pub left : List PortEvent
  pub now : WatchState
  pub all : events ≡ events_of taken ++ left
  pub watches : Watches top Down taken now
  pub added : Added (history_of taken) port.before port.now
  pub whole : OnOk result (left ≡ [])
  pub written : OnOk result (report.now ≡ report.before ++ watch_lines 0 Down taken)

-- the plan was loaded, and the events were taken against it
pub record EventsAreWatched {E : Type 0} (link : Link) (plan : SinkPlan) (events : List PortEvent)
    (port : Step (PortState SinkPlan)) (report : Step (List ℕ)) (result : Result ⊤ E) : Type 0 where
  pub taken : List Taken
  pub left : List PortEvent
  pub all : events ≡ events_of taken ++ left
  pub watched : WatchedWith link plan port taken
  pub whole : OnOk result (left ≡ [])
  pub written : OnOk result (report.now ≡ report.before ++ watch_lines 0 Down taken)
