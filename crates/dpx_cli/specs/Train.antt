-- The command `train`: this project's own. `src` is the source of the job, `port` the AUX port, `out` the sink of the
-- report; `PortKept` is the fact that the port is as it was.
use Rattle.std.specs.Prelude.{◌≡◌, ◌≢◌, ◌⊎◌, ℕ, List, IfSome, IsSomeAnd, Result, Ok, Err, ⊤}
use Rattle.dpx_base.specs.declared.link.Link.{Link}
use Rattle.dpx_base.specs.Faults.{Rose}
use Rattle.dpx_base.specs.Port.{PortState}
use Rattle.dpx_base.specs.Seen.{SourceSeen, SinkSeen}
use Rattle.dpx_dpcd.specs.declared.status.Drive.{Drive}
use Rattle.dpx_dpcd.specs.declared.plan.SinkPlan.{SinkPlan}
use Rattle.dpx_dpcd.specs.declared.status.Status6.{Status6}
use Rattle.dpx_dpcd.specs.Status.{AllLanesDone}
use Rattle.dpx_files.specs.declared.job.Need.{Need}
use Rattle.dpx_files.specs.declared.job.Need.TheVariants as need
use Rattle.dpx_link.specs.declared.train_end.TrainEnd.{TrainEnd}
use Rattle.dpx_link.specs.declared.train_end.TrainEnd.TheVariants.{Trained, NotTrained, CapsRefused, AuxEnded}
use Rattle.dpx_phase.specs.LastStatus.{IsLastReadWith}
use Rattle.dpx_cli.specs.declared.stop.Stop.{Stop}
use Rattle.dpx_cli.specs.Jobs.{ReadsAsJob, ReadsAsNone, SaysJobRefused}
use Rattle.dpx_cli.specs.Lines.{train_report}
use Rattle.dpx_cli.specs.Printing.{BreaksReport}
use Rattle.dpx_cli.specs.Status.{IsClean}
use Rattle.dpx_cli.specs.Step.{Step}
use Rattle.dpx_cli.specs.Stop.{read_fault_line, memory_line}
use Rattle.dpx_cli.specs.Training.{JobTrained, ReportsTrained, TrainingEnds, TrainingStops}
use Rattle.dpx_cli.specs.Transfer.{Prints}

-- Trained is said, with this drive and this last status, which shows every lane in use done. Where the port tells its
-- history, that status is the last one that was read, with that drive in force. The requests are those that were asked.
-- `Says` is what a report does.
pub record SaysTrained (port : PortState SinkPlan) (Says : List ℕ → Type 0) : Type 0 where
  pub link : Link
  pub drive : Drive
  pub last : Status6
  pub requests : ℕ
  pub done : AllLanesDone link.lanes last
  pub read_last : IfSome port.history (IsLastReadWith link.lanes drive last)
  pub counted : requests ≡ port.asked
  pub said : Says (train_report (Trained link drive last requests))

-- 0 where training ended as trained, else 4
abbrev pub train_status : TrainEnd → ℕ
train_status (Trained link drive last requests) = 0
train_status (NotTrained last requests) = 4
train_status (CapsRefused why requests) = 4
train_status (AuxEnded why requests) = 4

-- the job was trained, that ended with this status, and that is printed
pub record SaysEnd (need : Need) (src : Step SourceSeen) (port : Step (PortState SinkPlan)) (out : Step SinkSeen)
    (status : ℕ) : Type 0 where
  pub end : TrainEnd
  pub trained : JobTrained need src port end
  pub status_is : status ≡ train_status end
  pub printed : Prints out (train_report end)

module _ (src : Step SourceSeen) (port : Step (PortState SinkPlan)) (PortKept : Type 0) where
  -- each end of the command's steps with its cause, with what they printed, and with what became of the port
  abbrev pub TrainCauses : Result ⊤ Stop → List ℕ → Type 0
  TrainCauses (Ok done) said = ReportsTrained need.Train src port said
  TrainCauses (Err stop) said = TrainingStops need.Train src port PortKept stop said

  -- What the command does, status by status.
  pub record TrainDoes (out : Step SinkSeen) (status : ℕ) : Type 0 where
    -- 0: the link is trained
    pub trained : status ≡ 0 → SaysTrained port.now (Prints out)
    -- 0, 4: the job was trained, and how that ended is printed
    pub ended : (status ≡ 0) ⊎ (status ≡ 4) → SaysEnd need.Train src port out status
    -- 3: the job has no reading; its first fault is printed, and the port is as it was
    pub refused : status ≡ 3 → SaysJobRefused need.Train src out × PortKept
    -- a job that has no reading is refused, and one that has a reading is trained, but for faults and want of memory
    pub refuses : IsSomeAnd src.before.left (ReadsAsNone need.Train) → IsClean status → status ≡ 3
    pub trains : IsSomeAnd src.before.left (ReadsAsJob need.Train) → IsClean status → (status ≡ 0) ⊎ (status ≡ 4)
    -- 7: a read failed; that is printed, and the port is as it was
    pub read_fault : status ≡ 7 → Rose src.before.faults src.now.faults × Prints out read_fault_line × PortKept
    -- 8: a write failed, and nothing was printed but a front of the report
    pub write_fault : status ≡ 8 → BreaksReport TrainCauses out
    -- 10: want of memory is printed, and nothing else
    pub no_memory : status ≡ 10 → Prints out memory_line
    -- there is no other status
    pub statuses : (status ≡ 0) ⊎ (status ≡ 3) ⊎ (status ≡ 4) ⊎ (status ≡ 7) ⊎ (status ≡ 8) ⊎ (status ≡ 10)
    -- a fault that was counted is not passed over
    pub reads_are_calm : IsClean status → src.now.faults ≡ src.before.faults
    pub writes_are_calm : status ≢ 8 → out.now.faults ≡ out.before.faults
    -- whatever the status, the port is as it was, or the job was trained on it
    pub port_kept_or_trained : PortKept ⊎ TrainingEnds need.Train src port
