-- Sending as a step of a command: this project's own. `pipe` is the display engine, `pix` the sink of the capture, `out`
-- the sink of the report.
use Rattle.std.specs.Prelude.{◌≡◌, ◌⊎◌, ℕ, List, [], ◌++◌, IfSome, Result, Ok, Err, ⊤}
use Rattle.std.specs.Io.KnownBytes.{Appends}
use Rattle.dpx_base.specs.declared.link.Link.{Link}
use Rattle.dpx_base.specs.declared.pixel.Pixel.{Pixel}
use Rattle.dpx_base.specs.Capture.{IsCapture}
use Rattle.dpx_base.specs.Faults.{Rose}
use Rattle.dpx_base.specs.Pipe.{PipeState}
use Rattle.dpx_base.specs.Plan.{PlanFacts}
use Rattle.dpx_base.specs.Seen.{SinkSeen}
use Rattle.dpx_source.specs.Drive.{HandedFront, HandedAll, IsWhole, StopsBad, StopsShort}
use Rattle.dpx_base.specs.Transfer.{AppendsFront}
use Rattle.dpx_files.specs.declared.shape.Shape.{Shape}
use Rattle.dpx_timing.specs.Fit.{fit_of}
use Rattle.dpx_cli.specs.declared.stop.Stop.{Stop}
use Rattle.dpx_cli.specs.declared.stop.Stop.TheVariants as stop
use Rattle.dpx_cli.specs.SendLines.{plan_line, sent_line}
use Rattle.dpx_cli.specs.Step.{Step}

-- a job's shape over a link: what is sent where it fits
abbrev pub shaped : Shape → Link → PlanFacts
shaped shape link = record { mode = shape.mode; link = link; unit = shape.unit; frames = shape.frames }

module _ (p : PlanFacts) (pipe : Step PipeState) (pix : Step SinkSeen) where
  -- Of these pixels' sets the pipe was handed a front, and a front of their capture was taken.
  pub record SendsFront (pixels : List Pixel) : Type 0 where
    pub handed : HandedFront p pixels pipe.now
    pub taken : (bytes : List ℕ) → IsCapture p pixels bytes → AppendsFront pix.before.taken pix.now.taken bytes

  -- All pixels of the frames are there and in range. The pipe was handed all of their sets, and their capture was taken
  -- whole.
  pub record SendsAll (pixels : List Pixel) : Type 0 where
    pub whole : IsWhole p pixels
    pub handed : HandedAll p pixels pipe.now
    pub bytes : List ℕ
    pub capture : IsCapture p pixels bytes
    pub taken : Appends pix.before.taken pix.now.taken bytes

  -- the same of a pipe that tells its pixels
  abbrev pub SentSome : Type 0
  SentSome = IfSome pipe.before.pixels SendsFront

  abbrev pub SentAll : Type 0
  SentAll = IfSome pipe.before.pixels SendsAll

  abbrev pub PipeIsCalm : Type 0
  PipeIsCalm = pipe.now.faults ≡ pipe.before.faults

  abbrev pub PixIsCalm : Type 0
  PixIsCalm = pix.now.faults ≡ pix.before.faults

  -- the pixels are the cause: not all of them are there and in range
  abbrev pub PixelsStop : (List Pixel → Type 0) → Type 0
  PixelsStop Cause = IfSome pipe.before.pixels (λ pixels. Cause pixels × (IsWhole p pixels → ⊥))

  -- How the capture is written, by how that ended. Where there was no memory at once, nothing was touched.
  abbrev pub WritesCapture : Type 0 → Result ⊤ Stop → Type 0
  WritesCapture Kept (Ok done) = SentAll × PipeIsCalm × PixIsCalm
  WritesCapture Kept (Err (stop.BadPixel number value)) =
      SentSome × PipeIsCalm × PixIsCalm × PixelsStop (λ pixels. StopsBad p pixels number value)
  WritesCapture Kept (Err (stop.PixelsEnded number)) =
      SentSome × PipeIsCalm × PixIsCalm × PixelsStop (λ pixels. StopsShort p pixels number)
  WritesCapture Kept (Err stop.PipeFault) = SentSome × Rose pipe.before.faults pipe.now.faults × PixIsCalm
  WritesCapture Kept (Err stop.WriteFault) = SentSome × PipeIsCalm × Rose pix.before.faults pix.now.faults
  WritesCapture Kept (Err stop.NoMemory) = Kept ⊎ (SentSome × PipeIsCalm × PixIsCalm)
  WritesCapture Kept (Err other) = ⊥

  -- Each end of sending a plan that fits, with its cause; before the pipe is begun nothing is handed out. `Kept` is the
  -- fact that the pipe and the sink of the capture are as they were.
  module _ (Kept : Type 0) where
    abbrev pub PlanSent : Result ⊤ Stop → List ℕ → Type 0
    PlanSent (Ok done) said = (said ≡ plan_line p ++ sent_line p) × SentAll × PipeIsCalm × PixIsCalm
    PlanSent (Err (stop.BadPixel number value)) said =
        (said ≡ plan_line p) × SentSome × PipeIsCalm × PixIsCalm
        × PixelsStop (λ pixels. StopsBad p pixels number value)
    PlanSent (Err (stop.PixelsEnded number)) said =
        (said ≡ plan_line p) × SentSome × PipeIsCalm × PixIsCalm
        × PixelsStop (λ pixels. StopsShort p pixels number)
    PlanSent (Err stop.PipeFault) said =
        (said ≡ plan_line p) × SentSome × Rose pipe.before.faults pipe.now.faults × PixIsCalm
    PlanSent (Err stop.WriteFault) said =
        (said ≡ plan_line p) × SentSome × PipeIsCalm × Rose pix.before.faults pix.now.faults
    PlanSent (Err stop.OutFault) said =
        ((said ≡ plan_line p) × Kept) ⊎ ((said ≡ plan_line p ++ sent_line p) × SentAll × PipeIsCalm × PixIsCalm)
    PlanSent (Err stop.NoMemory) said =
        (((said ≡ []) ⊎ (said ≡ plan_line p)) × Kept)
        ⊎ ((said ≡ plan_line p) × SentSome × PipeIsCalm × PixIsCalm)
    PlanSent (Err other) said = ⊥

-- Each end of sending a shape over a link: it does not fit, and nothing is touched; or it fits, and is sent.
module _ (shape : Shape) (link : Link) (pipe : Step PipeState) (pix : Step SinkSeen) (Kept : Type 0) where
  pub record FitsAndSends (done : Result ⊤ Stop) (said : List ℕ) : Type 0 where
    pub fits : fit_of (shaped shape link) ≡ Ok (shaped shape link)
    pub sent : PlanSent (shaped shape link) pipe pix Kept done said

  abbrev pub ShapeSent : Result ⊤ Stop → List ℕ → Type 0
  ShapeSent (Err (stop.Unfit why)) said = (fit_of (shaped shape link) ≡ Err why) × Kept × (said ≡ [])
  ShapeSent done said = FitsAndSends done said
