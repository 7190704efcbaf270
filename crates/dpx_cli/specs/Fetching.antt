-- Fetching a base block as a step of a command: this project's own. `port` is the AUX port, `src` the source of the job,
-- `out` the sink of the report.
use Rattle.std.specs.Prelude.{◌≡◌, ◌+◌, ◌-◌, ◌^◌, ◌≤◌, ℕ, min, List, Some, IfSome, Result, Ok, Err, ⊤}
use Rattle.dpx_base.specs.declared.aux_port.Entry.{Entry}
use Rattle.dpx_base.specs.Port.{PortState, asks}
use Rattle.dpx_base.specs.Seen.{SourceSeen, SinkSeen}
use Rattle.dpx_aux.specs.declared.asking.LastAnswer.TheVariants.{Silent}
use Rattle.dpx_dpcd.specs.declared.plan.SinkPlan.{SinkPlan}
use Rattle.dpx_dpcd.specs.declared.plan.SinkPlan.TheVariants.{Script, Model}
use Rattle.dpx_dpcd.specs.LoadPort.{AnswersAsPlanned}
use Rattle.dpx_edid.specs.declared.edid.Edid.{Edid}
use Rattle.dpx_edid.specs.declared.edid.EdidBad.{EdidBad}
use Rattle.dpx_edid.specs.declared.fetch.Fetched.{Fetched}
use Rattle.dpx_edid.specs.declared.fetch.FetchEnd.{FetchEnd}
use Rattle.dpx_edid.specs.declared.fetch.I2cEnd.TheVariants.{Spent}
use Rattle.dpx_edid.specs.Causes.{IsCaused}
use Rattle.dpx_edid.specs.Edid.{read_edid}
use Rattle.dpx_edid.specs.Fetch.{Fetch, requests_told}
use Rattle.dpx_files.specs.declared.job.Job.{Job}
use Rattle.dpx_files.specs.declared.job.Need.TheVariants as need
use Rattle.dpx_files.specs.Job.{plan_asked}
use Rattle.dpx_cli.specs.declared.stop.Stop.{Stop}
use Rattle.dpx_cli.specs.declared.stop.Stop.TheVariants as stop
use Rattle.dpx_cli.specs.EdidLines.{edid_report, unfetched_line, bad_edid_line}
use Rattle.dpx_cli.specs.Jobs.{HasJob}
use Rattle.dpx_cli.specs.Step.{Step}
use Rattle.dpx_cli.specs.Stop.{stop_status, stop_lines}
use Rattle.dpx_cli.specs.Transfer.{Prints, PrintsFront}

-- a modelled sink answers native requests alone: eight starts are asked of it, and each meets with silence
abbrev pub FetchedAsPlanned : SinkPlan → Result Fetched FetchEnd → Type 0
FetchedAsPlanned (Script answers) given = ⊤
FetchedAsPlanned (Model caps extended defers channel) given =
    given ≡ Err (record { why = Spent Silent; requests = 8 })

-- A plan was loaded, and a base block fetched against it, and that gave this. The entries since the load, told or not,
-- are a fetch, and all that was asked; a failure has its cause at their end. Where the port tells its plan, that is the
-- one that was loaded, and its answers and what was fetched are that plan's.
pub record FetchedWith (plan : SinkPlan) (port : Step (PortState SinkPlan)) (given : Result Fetched FetchEnd) : Type 0
  where
    pub entries : List Entry
    pub fetch : Fetch given entries
    pub caused : IsCaused given entries
    pub history : IfSome port.now.history (λ told. told ≡ entries)
    pub counted : port.now.asked ≡ asks entries
    pub in_all : port.now.asked_in_all ≡ min port.before.asked_in_all (2 ^ 64 - 1) + port.now.asked
    pub few : port.now.asked ≤ 912
    pub told_requests : requests_told given ≡ port.now.asked
    pub loaded : IfSome port.now.plan (λ told. told ≡ plan)
    pub answers : AnswersAsPlanned port.now
    pub as_planned : IfSome port.now.plan (λ told. IfSome port.now.history (λ _. FetchedAsPlanned told given))

-- 4 where no block was fetched; else 0 where the block is read, and 13 where it is refused
abbrev pub block_status : Result Edid EdidBad → ℕ
block_status (Ok edid) = 0
block_status (Err why) = 13

abbrev pub fetch_status : Result Fetched FetchEnd → ℕ
fetch_status (Ok fetched) = block_status (read_edid fetched.block)
fetch_status (Err end) = 4

-- what is reported of it
abbrev pub block_report : ℕ → Result Edid EdidBad → List ℕ
block_report requests (Ok edid) = edid_report edid requests
block_report requests (Err why) = bad_edid_line why requests

abbrev pub fetch_report : Result Fetched FetchEnd → List ℕ
fetch_report (Ok fetched) = block_report fetched.requests (read_edid fetched.block)
fetch_report (Err end) = unfetched_line end

-- the stop has the status of what was fetched, and its report
pub record StopsFetch (given : Result Fetched FetchEnd) (why : Stop) : Type 0 where
  pub status : fetch_status given ≡ stop_status why
  pub lines : fetch_report given ≡ stop_lines why

-- how the step answers, by what was fetched: only what a block says is printed here
module _ (given : Result Fetched FetchEnd) (out : Step SinkSeen) where
  abbrev pub FetchStepEnds : Result ⊤ Stop → Type 0
  FetchStepEnds (Ok done) = (fetch_status given ≡ 0) × Prints out (fetch_report given)
  FetchStepEnds (Err (stop.Unfetched end)) = StopsFetch given (stop.Unfetched end) × (out.now ≡ out.before)
  FetchStepEnds (Err (stop.BadEdid why requests)) =
      StopsFetch given (stop.BadEdid why requests) × (out.now ≡ out.before)
  FetchStepEnds (Err stop.OutFault) = (fetch_status given ≡ 0) × PrintsFront out (fetch_report given)
  FetchStepEnds (Err stop.NoMemory) = out.now ≡ out.before
  FetchStepEnds (Err other) = ⊥

pub record FetchStep (plan : SinkPlan) (port : Step (PortState SinkPlan)) (out : Step SinkSeen) (result : Result ⊤ Stop)
    : Type 0 where
  pub given : Result Fetched FetchEnd
  pub fetched : FetchedWith plan port given
  pub ends : FetchStepEnds given out result

-- the plan of the job that the source had was loaded, and this was fetched
pub record JobFetched (src : Step SourceSeen) (port : Step (PortState SinkPlan)) (given : Result Fetched FetchEnd)
    : Type 0 where
  pub asked : Job
  pub has : HasJob need.Edid src asked
  pub plan : SinkPlan
  pub loads : plan_asked asked ≡ Some plan
  pub fetched : FetchedWith plan port given
