-- Training as a step of a command: this project's own. `port` is the AUX port, `src` the source of the job, `out` the
-- sink of the report.
use Rattle.std.specs.Prelude.{◌≡◌, ◌+◌, ◌-◌, ◌^◌, ◌≤◌, ◌⊎◌, ℕ, min, List, [], Option, Some, None, IfSome, IsSome}
use Rattle.std.specs.Prelude.{Result, Ok, Err}
use Rattle.dpx_base.specs.declared.aux_port.Entry.{Entry}
use Rattle.dpx_base.specs.declared.link.Link.{Link}
use Rattle.dpx_base.specs.Faults.{Rose}
use Rattle.dpx_base.specs.Port.{PortState, asks}
use Rattle.dpx_base.specs.Seen.{SourceSeen, SinkSeen}
use Rattle.dpx_dpcd.specs.declared.plan.SinkPlan.{SinkPlan}
use Rattle.dpx_dpcd.specs.LoadPort.{AnswersAsPlanned}
use Rattle.dpx_complete.specs.Complete.{EndsAsPlanned}
use Rattle.dpx_files.specs.declared.job.Job.{Job}
use Rattle.dpx_files.specs.declared.job.Need.{Need}
use Rattle.dpx_files.specs.Job.{link_asked, plan_asked}
use Rattle.dpx_link.specs.declared.train_end.TrainEnd.{TrainEnd}
use Rattle.dpx_link.specs.declared.train_end.TrainEnd.TheVariants.{Trained, NotTrained, CapsRefused, AuxEnded}
use Rattle.dpx_link.specs.LastStatus.{TrainingIsRead}
use Rattle.dpx_link.specs.Training.{Training, TrainedIsDone, requests_told}
use Rattle.dpx_cli.specs.declared.stop.Stop.{Stop}
use Rattle.dpx_cli.specs.declared.stop.Stop.TheVariants as stop
use Rattle.dpx_cli.specs.Lines.{train_report}
use Rattle.dpx_cli.specs.Step.{Step}
use Rattle.dpx_cli.specs.Transfer.{Prints, PrintsFront}
use Rattle.dpx_cli.specs.Jobs.{HasJob, JobRefused}

-- A plan was loaded, and this link trained against it, and that ended so. The entries since the load, told or not, are
-- a training of the link, and all that was asked; where the port tells its plan, that is the one that was loaded, and
-- its answers and the end are that plan's.
pub record TrainedWith (link : Link) (plan : SinkPlan) (port : Step (PortState SinkPlan)) (end : TrainEnd) : Type 0
  where
    pub entries : List Entry
    pub training : Training link end entries
    pub history : IfSome port.now.history (λ told. told ≡ entries)
    pub counted : port.now.asked ≡ asks entries
    pub in_all : port.now.asked_in_all ≡ min port.before.asked_in_all (2 ^ 64 - 1) + port.now.asked
    pub few : port.now.asked ≤ 3104
    pub told_requests : requests_told end ≡ port.now.asked
    pub done : TrainedIsDone end
    pub read_last : TrainingIsRead end entries
    pub loaded : IfSome port.now.plan (λ told. told ≡ plan)
    pub answers : AnswersAsPlanned port.now
    pub as_planned : IfSome port.now.plan (λ told. IfSome port.now.history (λ _. EndsAsPlanned told link end))

-- the link of a training that ended as trained
abbrev pub trained_link : TrainEnd → Option Link
trained_link (Trained link drive last requests) = Some link
trained_link (NotTrained last requests) = None
trained_link (CapsRefused why requests) = None
trained_link (AuxEnded why requests) = None

-- how the step answers, by how training ended: only that the link is trained is printed here
module _ (end : TrainEnd) (out : Step SinkSeen) where
  abbrev pub TrainStepEnds : Result Link Stop → Type 0
  TrainStepEnds (Ok link) = (trained_link end ≡ Some link) × Prints out (train_report end)
  TrainStepEnds (Err (stop.Untrained why)) = (why ≡ end) × (trained_link end ≡ None) × (out.now ≡ out.before)
  TrainStepEnds (Err stop.OutFault) = IsSome (trained_link end) × PrintsFront out (train_report end)
  TrainStepEnds (Err stop.NoMemory) = IsSome (trained_link end) × (out.now ≡ out.before)
  TrainStepEnds (Err other) = ⊥

pub record TrainStep (link : Link) (plan : SinkPlan) (port : Step (PortState SinkPlan)) (out : Step SinkSeen)
    (result : Result Link Stop) : Type 0 where
  pub end : TrainEnd
  pub trained : TrainedWith link plan port end
  pub ends : TrainStepEnds end out result

-- the job that the source had was trained so: its plan was loaded, and its link trained
pub record JobTrained (need : Need) (src : Step SourceSeen) (port : Step (PortState SinkPlan)) (end : TrainEnd)
    : Type 0 where
  pub asked : Job
  pub has : HasJob need src asked
  pub plan : SinkPlan
  pub asks : plan_asked asked ≡ Some plan
  pub top : Link
  pub trains : link_asked asked ≡ Some top
  pub trained : TrainedWith top plan port end

module _ (need : Need) (src : Step SourceSeen) (port : Step (PortState SinkPlan)) where
  -- the job was trained, and that ended so, whatever was printed of it
  pub record TrainingEnds : Type 0 where
    pub end : TrainEnd
    pub trained : JobTrained need src port end

  -- training ended as trained, and this is its report
  pub record ReportsTrained (text : List ℕ) : Type 0 where
    pub end : TrainEnd
    pub trained : JobTrained need src port end
    pub link : IsSome (trained_link end)
    pub said : text ≡ train_report end

  -- Why the job is not read and its link not trained, or that not printed; with what was printed, and with what became
  -- of the port. `PortKept` is the fact that it is as it was.
  abbrev pub TrainingStops : Type 0 → Stop → List ℕ → Type 0
  TrainingStops PortKept (stop.Job why) said = JobRefused need src why × PortKept × (said ≡ [])
  TrainingStops PortKept (stop.Untrained end) said =
      JobTrained need src port end × (trained_link end ≡ None) × (said ≡ [])
  TrainingStops PortKept stop.ReadFault said = Rose src.before.faults src.now.faults × PortKept × (said ≡ [])
  TrainingStops PortKept stop.OutFault said = ReportsTrained said
  TrainingStops PortKept stop.NoMemory said =
      (PortKept ⊎ TrainingEnds) × (src.now.faults ≡ src.before.faults) × (said ≡ [])
  TrainingStops PortKept other said = ⊥
