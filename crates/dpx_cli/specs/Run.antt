-- The command `run`: this project's own. `src` is the source of the job, `port` the AUX port, `pipe` the display engine,
-- `pix` the sink of the capture, `out` the sink of the report; `PortKept` is the fact that the port is as it was, `Kept`
-- that the pipe and the sink of the capture are.
use Rattle.std.specs.Prelude.{◌≡◌, ◌⊎◌, ℕ, List, Option, Some, None, IfSome, Result, Ok, Err, ⊤}
use Rattle.dpx_base.specs.declared.link.Link.{Link}
use Rattle.dpx_base.specs.declared.pixel.Pixel.{Pixel}
use Rattle.dpx_base.specs.Pipe.{PipeState}
use Rattle.dpx_base.specs.Port.{PortState}
use Rattle.dpx_base.specs.Seen.{SourceSeen, SinkSeen}
use Rattle.dpx_dpcd.specs.declared.plan.SinkPlan.{SinkPlan}
use Rattle.dpx_files.specs.declared.job.Job.{Job}
use Rattle.dpx_files.specs.declared.job.Need.TheVariants as need
use Rattle.dpx_files.specs.declared.shape.Shape.{Shape}
use Rattle.dpx_files.specs.declared.refusal.JobBad.{JobBad}
use Rattle.dpx_files.specs.Job.{reading, link_asked, plan_asked, shape_asked}
use Rattle.dpx_link.specs.declared.train_end.TrainEnd.{TrainEnd}
use Rattle.dpx_cli.specs.declared.stop.Stop.{Stop}
use Rattle.dpx_cli.specs.Jobs.{HasJob}
use Rattle.dpx_cli.specs.Lines.{train_report}
use Rattle.dpx_cli.specs.SendingCommand.{SendingCauses, Sends, StatusOfShape}
use Rattle.dpx_cli.specs.Status.{IsClean}
use Rattle.dpx_cli.specs.Step.{Step}
use Rattle.dpx_cli.specs.Train.{SaysEnd, SaysTrained}
use Rattle.dpx_cli.specs.Training.{TrainedWith, TrainingEnds, TrainingStops, trained_link}
use Rattle.dpx_cli.specs.Transfer.{PrintsFirst}

module _ (src : Step SourceSeen) (port : Step (PortState SinkPlan)) where
  -- The job that the source had, read to its end, asks for this shape; its link was trained, and this is the link that
  -- was trained. The report of that is printed.
  pub record RunAsks (shape : Shape) (link : Link) (said : List ℕ) : Type 0 where
    pub asked : Job
    pub has : HasJob need.Run src asked
    pub asks : shape_asked asked ≡ Some shape
    pub plan : SinkPlan
    pub loads : plan_asked asked ≡ Some plan
    pub top : Link
    pub trains : link_asked asked ≡ Some top
    pub end : TrainEnd
    pub trained : TrainedWith top plan port end
    pub over : trained_link end ≡ Some link
    pub reported : said ≡ train_report end

  module _ (PortKept : Type 0) (pipe : Step PipeState) (pix : Step SinkSeen) (Kept : Type 0) where
    -- Each end of the command's steps with its cause, with what they printed, and with what became of the objects.
    abbrev pub RunCauses : Result ⊤ Stop → List ℕ → Type 0
    RunCauses done said =
        SendingCauses RunAsks pipe pix Kept (TrainingStops need.Run src port PortKept) done said

-- there is no other
abbrev pub IsRunStatus : ℕ → Type 0
IsRunStatus n = (n ≡ 0) ⊎ (n ≡ 3) ⊎ (n ≡ 4) ⊎ (n ≡ 5) ⊎ (n ≡ 7) ⊎ (n ≡ 8) ⊎ (n ≡ 9) ⊎ (n ≡ 10)

-- The status by how training ended: 4, or where a link was trained that of the shape over it.
abbrev pub StatusOfTrained : Option (List Pixel) → Option Shape → Option Link → ℕ → Type 0
StatusOfTrained pixels shape (Some link) status = StatusOfShape pixels shape link status
StatusOfTrained pixels shape None status = status ≡ 4

-- the job was trained, and that and the pixels decide the status
pub record TrainedAndSent (port : Step (PortState SinkPlan)) (pixels : Option (List Pixel)) (asked : Job) (status : ℕ)
    : Type 0 where
  pub plan : SinkPlan
  pub loads : plan_asked asked ≡ Some plan
  pub top : Link
  pub trains : link_asked asked ≡ Some top
  pub end : TrainEnd
  pub trained : TrainedWith top plan port end
  pub decided : StatusOfTrained pixels (shape_asked asked) (trained_link end) status

-- The status by what the job's bytes say, by how training ended, and by the pixels.
abbrev pub StatusOfRun : Step (PortState SinkPlan) → Option (List Pixel) → Result Job JobBad → ℕ → Type 0
StatusOfRun port pixels (Ok asked) status = TrainedAndSent port pixels asked status
StatusOfRun port pixels (Err bad) status = status ≡ 3

module _ (src : Step SourceSeen) (port : Step (PortState SinkPlan)) (PortKept : Type 0) (pipe : Step PipeState)
    (pix : Step SinkSeen) (Kept : Type 0) where
  -- What the command does, status by status.
  pub record RunDoes (out : Step SinkSeen) (status : ℕ) : Type 0 where
    -- what it sends over the link that was trained
    pub sends : Sends need.Run src (PortKept × Kept) (RunAsks src port) (TrainingStops need.Run src port PortKept) pipe
        pix Kept out status
    -- 0, 5, 9: the link is trained, and that is printed first
    pub trained : (status ≡ 0) ⊎ (status ≡ 5) ⊎ (status ≡ 9) → SaysTrained port.now (PrintsFirst out)
    -- 4: training ended otherwise; that is printed, and nothing is handed out
    pub untrained : status ≡ 4 → SaysEnd need.Run src port out status × Kept
    pub statuses : IsRunStatus status
    -- where no fault was met and there was memory, the bytes, the training and the pixels decide the status
    pub decided : IsClean status
        → IfSome src.before.left (λ bytes. StatusOfRun port pipe.before.pixels (reading need.Run bytes) status)
    -- whatever the status, the port is as it was, or the job was trained on it
    pub port_kept_or_trained : PortKept ⊎ TrainingEnds need.Run src port
