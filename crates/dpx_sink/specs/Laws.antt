-- What is received of a capture that was sent.
use Rattle.std.specs.Prelude.{ℕ, ◌≡◌, ◌*◌, ◌++◌, List, replicate, Result, Ok}
use Rattle.std.specs.List.{flat_map}
use Rattle.dpx_base.specs.declared.link.Link.{Link}
use Rattle.dpx_base.specs.declared.pixel.Pixel.{Pixel}
use Rattle.dpx_base.specs.Capture.{IsCapture, header_bytes}
use Rattle.dpx_base.specs.Plan.{PlanFacts, IsPlan}
use Rattle.dpx_inversion.specs.Laws.{AreWhole}
use Rattle.dpx_msa.specs.Reading.{attributes_of}
use Rattle.dpx_reception.specs.Due.{pixel_records, attributes_line, Due}
use Rattle.dpx_reception.specs.Reception.{Fault, no_fault}
use Rattle.dpx_sink.specs.Receiver.{StandsFor, EndsAs, link_of}
use Rattle.dpx_sink.specs.declared.finish_end.FinishEnd.{FinishEnd}
use Rattle.dpx_sink.specs.declared.finish_end.Received.{Received}
use Rattle.dpx_sink.specs.declared.receiver.Receiver.{Receiver}

-- all frames and lines of a plan, and no tail
abbrev pub all_of : PlanFacts → Received
all_of p = record { frames = p.frames; lines = p.frames * p.mode.height; tail_clocks = 0 }

-- The end of bytes is one.
abbrev pub IsOneEnd : Type 0
IsOneEnd =
    (link : Link) (bytes : List ℕ) (result other : Result Received FinishEnd)
    → EndsAs link bytes result → EndsAs link bytes other → result ≡ other

-- a receiver that was fed the bytes of a plan's capture behind its header, in any pieces
pub record CaptureIsWritten (p : PlanFacts) (pixels : List Pixel) (bytes : List ℕ) : Type 0 where
  pub never_refused : (front rest records text : List ℕ) (fault : Fault) → bytes ≡ front ++ rest
      → Due p.link front fault records text → fault ≡ no_fault
  pub records : (r : Receiver) (records text : List ℕ) → link_of r ≡ p.link → StandsFor r bytes records text
      → records ≡ pixel_records pixels
  pub text : (r : Receiver) (records text : List ℕ) → link_of r ≡ p.link → StandsFor r bytes records text
      → text ≡ flat_map (λ line. line) (replicate p.frames (attributes_line (attributes_of p.mode p.link)))
  pub end : (result : Result Received FinishEnd) → EndsAs p.link bytes result → result ≡ Ok (all_of p)

-- A capture of a plan that fits and of exactly its pixels.
abbrev pub CapturesAreWritten : Type 0
CapturesAreWritten =
    (p : PlanFacts) (pixels : List Pixel) (bytes : List ℕ) → IsPlan p → AreWhole p pixels
    → IsCapture p pixels (header_bytes p.link ++ bytes) → CaptureIsWritten p pixels bytes
