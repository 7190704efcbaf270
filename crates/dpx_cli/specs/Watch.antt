-- The command `watch`: this project's own. `src` is the source of the job, `port` the AUX port, `out` the sink of the
-- report; `PortKept` is the fact that the port is as it was.
use Rattle.std.specs.Prelude.{◌≡◌, ◌+◌, ◌-◌, ◌*◌, ◌^◌, ◌≤◌, min, ℕ, List, [], ◌++◌, length, map, Some, IfSome, Result, ⊤}
use Rattle.dpx_base.specs.declared.link.Link.{Link}
use Rattle.dpx_base.specs.declared.port_event.PortEvent.{PortEvent}
use Rattle.dpx_base.specs.Port.{PortState, asks}
use Rattle.dpx_base.specs.Seen.{SourceSeen, SinkSeen}
use Rattle.dpx_dpcd.specs.declared.plan.SinkPlan.{SinkPlan}
use Rattle.dpx_dpcd.specs.LoadPort.{AnswersAsPlanned}
use Rattle.dpx_files.specs.declared.job.Job.{Job}
use Rattle.dpx_files.specs.declared.job.Need.TheVariants as need
use Rattle.dpx_files.specs.Job.{link_asked, plan_asked, events_asked}
use Rattle.dpx_watch.specs.declared.state.WatchState.{WatchState}
use Rattle.dpx_watch.specs.declared.state.WatchState.TheVariants.{Down}
use Rattle.dpx_watch.specs.Laws.{Taken, Watches, IsUpByRead, history_of}
use Rattle.dpx_watch.specs.Step.{step_asks}
use Rattle.dpx_cli.specs.declared.stop.Stop.{Stop}
use Rattle.dpx_cli.specs.Jobs.{HasJob}
use Rattle.dpx_cli.specs.Reporting.{ReportCauses, ReportDoes}
use Rattle.dpx_cli.specs.Step.{Step}
use Rattle.dpx_cli.specs.WatchLines.{watch_lines}

-- A plan was loaded, and these events were taken against it, one behind the other from down on. The entries since the
-- load, told or not, are theirs, and all that was asked; where the port tells its plan, that is the one that was loaded,
-- and its answers are that plan's. Where the link is up behind them, the last status that was read shows every lane in
-- use done.
pub record WatchedWith (link : Link) (plan : SinkPlan) (port : Step (PortState SinkPlan)) (taken : List Taken) : Type 0
  where
    pub now : WatchState
    pub watches : Watches link Down taken now
    pub good : IsUpByRead now (history_of taken)
    pub history : IfSome port.now.history (λ told. told ≡ history_of taken)
    pub counted : port.now.asked ≡ asks (history_of taken)
    pub in_all : port.now.asked_in_all ≡ min port.before.asked_in_all (2 ^ 64 - 1) + port.now.asked
    pub few : port.now.asked ≤ length taken * step_asks
    pub loaded : IfSome port.now.plan (λ told. told ≡ plan)
    pub answers : AnswersAsPlanned port.now

-- the events that were taken
abbrev pub events_of : List Taken → List PortEvent
events_of taken = map (λ one. one.event) taken

module _ (src : Step SourceSeen) (port : Step (PortState SinkPlan)) where
  -- the job that the source had was watched so: its plan was loaded, and these of its events were taken
  pub record JobWatched (taken : List Taken) (left : List PortEvent) : Type 0 where
    pub asked : Job
    pub has : HasJob need.Watch src asked
    pub plan : SinkPlan
    pub loads : plan_asked asked ≡ Some plan
    pub told : events_asked asked ≡ Some (events_of taken ++ left)
    pub link : Link
    pub over : link_asked asked ≡ Some link
    pub watched : WatchedWith link plan port taken

  -- some first events were taken
  pub record EventsTaken : Type 0 where
    pub taken : List Taken
    pub left : List PortEvent
    pub watched : JobWatched taken left

  -- 0: all events were taken, and the report has a line for each
  pub record EventsReported (status : ℕ) (text : List ℕ) : Type 0 where
    pub status_is : status ≡ 0
    pub taken : List Taken
    pub watched : JobWatched taken []
    pub said : text ≡ watch_lines 0 Down taken

  module _ (PortKept : Type 0) where
    abbrev pub WatchCauses : Result ⊤ Stop → List ℕ → Type 0
    WatchCauses = ReportCauses need.Watch src PortKept EventsTaken EventsReported

    -- What the command does, status by status.
    abbrev pub WatchDoes : (out : Step SinkSeen) (status : ℕ) → Type 0
    WatchDoes = ReportDoes need.Watch src PortKept EventsTaken EventsReported
