-- A command that sends: this project's own. `Asks shape link said` is the fact that it has this shape to send over this
-- link, once this was printed. `Unsent stop said` is the fact that it stopped so before it had anything to send, and
-- printed this. `src` is the source of its job, which is read for `need`, `pipe` the display engine, `pix` the sink of
-- the capture, `out` the sink of the report. `Kept` is the fact that the pipe and the sink of the capture are as they
-- were, `Untouched` that everything is but the source and the report.
use Rattle.std.specs.Prelude.{◌≡◌, ◌≢◌, ◌⊎◌, ℕ, List, ◌++◌, Option, IfSome, Result, Ok, Err, ⊤}
use Rattle.dpx_base.specs.declared.link.Link.{Link}
use Rattle.dpx_base.specs.declared.pixel.Pixel.{Pixel}
use Rattle.dpx_base.specs.Faults.{Rose}
use Rattle.dpx_base.specs.Pipe.{PipeState}
use Rattle.dpx_base.specs.Plan.{PlanFacts}
use Rattle.dpx_base.specs.Seen.{SourceSeen, SinkSeen}
use Rattle.dpx_files.specs.declared.job.Need.{Need}
use Rattle.dpx_files.specs.declared.shape.Shape.{Shape}
use Rattle.dpx_source.specs.Drive.{IsWhole, StopsBad, StopsShort}
use Rattle.dpx_timing.specs.declared.fitting.Unfit.{Unfit}
use Rattle.dpx_timing.specs.Fit.{fit_of}
use Rattle.dpx_cli.specs.declared.stop.Stop.{Stop}
use Rattle.dpx_cli.specs.Jobs.{SaysJobRefused}
use Rattle.dpx_cli.specs.Printing.{CommandPrints}
use Rattle.dpx_cli.specs.SendLines.{plan_line, sent_line, unfit_line, bad_pixel_line, pixels_ended_line}
use Rattle.dpx_cli.specs.Sending.{shaped, SentSome, SentAll, PixelsStop, ShapeSent}
use Rattle.dpx_cli.specs.Status.{IsClean}
use Rattle.dpx_cli.specs.Step.{Step}
use Rattle.dpx_cli.specs.Transfer.{Prints}

-- The status of a shape to send over a link: by whether it fits, and where it does by the pixels.
abbrev pub StatusOfPixels : PlanFacts → List Pixel → ℕ → Type 0
StatusOfPixels p pixels status =
    (IsWhole p pixels → status ≡ 0) × ((IsWhole p pixels → ⊥) → status ≡ 3)

abbrev pub StatusOfFit : Option (List Pixel) → Result PlanFacts Unfit → ℕ → Type 0
StatusOfFit pixels (Ok plan) status = IfSome pixels (λ told. StatusOfPixels plan told status)
StatusOfFit pixels (Err why) status = status ≡ 5

abbrev pub StatusOfShape : Option (List Pixel) → Option Shape → Link → ℕ → Type 0
StatusOfShape pixels shape link status =
    IfSome shape (λ shape. StatusOfFit pixels (fit_of (shaped shape link)) status)

module _ (Asks : Shape → Link → List ℕ → Type 0) where
  -- it has this plan to send, which fits
  pub record HasPlan (said : List ℕ) (p : PlanFacts) : Type 0 where
    pub shape : Shape
    pub link : Link
    pub asked : Asks shape link said
    pub planned : p ≡ shaped shape link
    pub fits : fit_of p ≡ Ok p

  -- it has a shape to send, whose mode does not fit the link for this reason
  pub record HasUnfit (said : List ℕ) (why : Unfit) : Type 0 where
    pub shape : Shape
    pub link : Link
    pub asked : Asks shape link said
    pub unfit : fit_of (shaped shape link) ≡ Err why

  -- that is printed
  pub record SaysUnfit (out : Step SinkSeen) : Type 0 where
    pub said : List ℕ
    pub why : Unfit
    pub unfit : HasUnfit said why
    pub printed : Prints out (said ++ unfit_line why)

module _ (Asks : Shape → Link → List ℕ → Type 0) (pipe : Step PipeState) (pix : Step SinkSeen) (Kept : Type 0) where
  -- what it had to send was sent, which came to this end
  pub record AskedSent (done : Result ⊤ Stop) (said : List ℕ) : Type 0 where
    pub shape : Shape
    pub link : Link
    pub before : List ℕ
    pub asked : Asks shape link before
    pub behind : List ℕ
    pub sent : ShapeSent shape link pipe pix Kept done behind
    pub said_is : said ≡ before ++ behind

  -- a plan fits; of its sets the pipe has a front, and a front of its capture was taken
  pub record SendsSome : Type 0 where
    pub said : List ℕ
    pub plan : PlanFacts
    pub fit : HasPlan Asks said plan
    pub some : SentSome plan pipe pix

  -- all frames were sent, and that is printed
  pub record SaysSent (out : Step SinkSeen) : Type 0 where
    pub said : List ℕ
    pub plan : PlanFacts
    pub fit : HasPlan Asks said plan
    pub all : SentAll plan pipe pix
    pub printed : Prints out (said ++ plan_line plan ++ sent_line plan)

  -- a pixel is out of range, or one is missing, and that is printed
  pub record SaysPixels (out : Step SinkSeen) (line : List ℕ) (Cause : PlanFacts → List Pixel → Type 0) : Type 0 where
    pub said : List ℕ
    pub plan : PlanFacts
    pub fit : HasPlan Asks said plan
    pub some : SentSome plan pipe pix
    pub cause : PixelsStop plan pipe pix (Cause plan)
    pub printed : Prints out (said ++ plan_line plan ++ line)

  -- the first pixel that is out of range, or the pixels ended
  pub record SaysBadPixel (out : Step SinkSeen) : Type 0 where
    pub number : ℕ
    pub value : ℕ
    pub says : SaysPixels out (bad_pixel_line number value) (λ plan pixels. StopsBad plan pixels number value)

  pub record SaysPixelsEnded (out : Step SinkSeen) : Type 0 where
    pub number : ℕ
    pub says : SaysPixels out (pixels_ended_line number) (λ plan pixels. StopsShort plan pixels number)

  -- Each end of the command's steps with its cause, with what they printed, and with what became of the objects.
  module _ (Unsent : Stop → List ℕ → Type 0) where
    abbrev pub SendingCauses : Result ⊤ Stop → List ℕ → Type 0
    SendingCauses (Ok done) said = AskedSent (Ok done) said
    SendingCauses (Err stop) said = (Unsent stop said × Kept) ⊎ AskedSent (Err stop) said

module _ (need : Need) (src : Step SourceSeen) (Untouched : Type 0) (Asks : Shape → Link → List ℕ → Type 0)
    (Unsent : Stop → List ℕ → Type 0) (pipe : Step PipeState) (pix : Step SinkSeen) (Kept : Type 0) where
  -- What the command does about sending, status by status.
  pub record Sends (out : Step SinkSeen) (status : ℕ) : Type 0 where
    -- 0: all frames were sent
    pub sent : status ≡ 0 → SaysSent Asks pipe pix Kept out
    -- 3: the job has no reading, and nothing is touched; or the pixels are the cause
    pub refused : status ≡ 3 → (SaysJobRefused need src out × Untouched)
        ⊎ SaysBadPixel Asks pipe pix Kept out ⊎ SaysPixelsEnded Asks pipe pix Kept out
    -- 5: the mode does not fit, and nothing is handed out
    pub unfit : status ≡ 5 → SaysUnfit Asks out × Kept
    -- 7: a read failed, and nothing is touched; 8: a write failed; 9: the pipe failed
    pub read_fault : status ≡ 7 → Rose src.before.faults src.now.faults × Untouched
    pub write_fault : status ≡ 8
        → Rose pix.before.faults pix.now.faults ⊎ Rose out.before.faults out.now.faults
    pub pipe_fault : status ≡ 9 → Rose pipe.before.faults pipe.now.faults
    -- whatever the status, nothing is handed out, or a front of what the plan gives
    pub kept_or_sent : Kept ⊎ SendsSome Asks pipe pix Kept
    -- no counted fault is passed over
    pub reads_are_calm : IsClean status → src.now.faults ≡ src.before.faults
    pub pipe_is_calm : IsClean status → pipe.now.faults ≡ pipe.before.faults
    pub pix_is_calm : IsClean status → pix.now.faults ≡ pix.before.faults
    pub writes_are_calm : status ≢ 8 → out.now.faults ≡ out.before.faults
    -- what was printed, with what cause, whatever the status
    pub done : Result ⊤ Stop
    pub said : List ℕ
    pub caused : SendingCauses Asks pipe pix Kept Unsent done said
    pub printed : CommandPrints out said done status
