-- The command `send`: this project's own. `src` is the source of the job, `pipe` the display engine, `pix` the sink of
-- the capture, `out` the sink of the report; `Kept` is the fact that the pipe and the sink of the capture are as they
-- were.
use Rattle.std.specs.Prelude.{◌≡◌, ◌⊎◌, ℕ, List, [], Option, Some, IfSome, Result, Ok, Err, ⊤}
use Rattle.dpx_base.specs.declared.link.Link.{Link}
use Rattle.dpx_base.specs.declared.pixel.Pixel.{Pixel}
use Rattle.dpx_base.specs.Pipe.{PipeState}
use Rattle.dpx_base.specs.Seen.{SourceSeen, SinkSeen}
use Rattle.dpx_files.specs.declared.job.Job.{Job}
use Rattle.dpx_files.specs.declared.job.Need.TheVariants as need
use Rattle.dpx_files.specs.declared.shape.Shape.{Shape}
use Rattle.dpx_files.specs.declared.refusal.JobBad.{JobBad}
use Rattle.dpx_files.specs.Job.{reading, link_asked, shape_asked}
use Rattle.dpx_cli.specs.declared.stop.Stop.{Stop}
use Rattle.dpx_cli.specs.Jobs.{HasJob, ReadsJob}
use Rattle.dpx_cli.specs.SendingCommand.{SendingCauses, Sends, StatusOfShape}
use Rattle.dpx_cli.specs.Status.{IsClean}
use Rattle.dpx_cli.specs.Step.{Step}

module _ (src : Step SourceSeen) where
  -- The job that the source had, read to its end, asks for this shape over this link; nothing is printed of it.
  pub record SendAsks (shape : Shape) (link : Link) (said : List ℕ) : Type 0 where
    pub asked : Job
    pub has : HasJob need.Send src asked
    pub asks : shape_asked asked ≡ Some shape
    pub over : link_asked asked ≡ Some link
    pub nothing : said ≡ []

  -- there is no job, for this reason
  abbrev pub SendUnsent : Stop → List ℕ → Type 0
  SendUnsent stop said = ReadsJob need.Send src (Err stop) × (said ≡ [])

  module _ (pipe : Step PipeState) (pix : Step SinkSeen) (Kept : Type 0) where
    -- Each end of the command's steps with its cause, with what they printed, and with what became of the objects.
    abbrev pub SendCauses : Result ⊤ Stop → List ℕ → Type 0
    SendCauses done said = SendingCauses SendAsks pipe pix Kept SendUnsent done said

-- there is no other
abbrev pub IsSendStatus : ℕ → Type 0
IsSendStatus n = (n ≡ 0) ⊎ (n ≡ 3) ⊎ (n ≡ 5) ⊎ (n ≡ 7) ⊎ (n ≡ 8) ⊎ (n ≡ 9) ⊎ (n ≡ 10)

-- The status by what the job's bytes say, and by the pixels.
abbrev pub StatusOfSend : Option (List Pixel) → Result Job JobBad → ℕ → Type 0
StatusOfSend pixels (Ok asked) status =
    IfSome (link_asked asked) (λ link. StatusOfShape pixels (shape_asked asked) link status)
StatusOfSend pixels (Err bad) status = status ≡ 3

module _ (src : Step SourceSeen) (pipe : Step PipeState) (pix : Step SinkSeen) (Kept : Type 0) where
  -- What the command does, status by status.
  pub record SendDoes (out : Step SinkSeen) (status : ℕ) : Type 0 where
    pub sends : Sends need.Send src Kept (SendAsks src) (SendUnsent src) pipe pix Kept out status
    pub statuses : IsSendStatus status
    -- where no fault was met and there was memory, the bytes and the pixels decide the status
    pub decided : IsClean status
        → IfSome src.before.left (λ bytes. StatusOfSend pipe.before.pixels (reading need.Send bytes) status)
