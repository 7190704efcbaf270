-- What is sent of a plan, and where sending stops: this project's own.
use Rattle.std.specs.Prelude.{◌≡◌, ◌≤◌, ◌<◌, ℕ, ◌+◌, ◌*◌, false, List, [], ◌++◌, length, take, Option, Some, None}
use Rattle.std.specs.Prelude.{IfSome, Result, OnOk, Err}
use Rattle.std.specs.Io.KnownBytes.{Appends}
use Rattle.dpx_base.specs.declared.pixel.Pixel.{Pixel}
use Rattle.dpx_base.specs.Beam.{pixels_before}
use Rattle.dpx_base.specs.Capture.{capture_clocks, word_bytes}
use Rattle.dpx_base.specs.Lanes.{lanes_count}
use Rattle.dpx_base.specs.Mode.{depth_bits}
use Rattle.dpx_base.specs.Pipe.{PipeState}
use Rattle.dpx_base.specs.Plan.{PlanFacts, clocks}
use Rattle.dpx_base.specs.Sets.{sets}
use Rattle.dpx_base.specs.Words.{SentWords}
use Rattle.dpx_source.specs.declared.sending.DriveEnd.{DriveEnd}
use Rattle.dpx_source.specs.declared.sending.DriveEnd.TheVariants.{BadPixel, Ended}
use Rattle.dpx_source.specs.declared.sending.Sent.{Sent}
use Rattle.dpx_source.specs.Pixels.{first_bad}
use Rattle.dpx_source.specs.Ticker.{TickerState, StandsFor, shown}
use Rattle.dpx_base.specs.Transfer.{AppendsFront}

-- a pipe that has just begun with the frames and the clocks of a plan
pub record HasBegun (p : PlanFacts) (pipe : PipeState) : Type 0 where
  pub begun : pipe.begun ≡ Some (shown p)
  pub clocks_told : pipe.clocks ≡ clocks p
  pub clock : pipe.clock ≡ 0
  pub kept : pipe.refused ≡ false
  pub no_sets : IfSome pipe.sets (λ sets. sets ≡ [])

-- xs is the front of ys, or all of it
pub record IsFront {X : Type 0} (xs ys : List X) : Type 0 where
  pub rest : List X
  pub is : xs ++ rest ≡ ys

-- what is sent of a plan: its frames, their active lines, its clocks
abbrev pub sent_of : PlanFacts → Sent
sent_of p = record { frames = p.frames; lines = p.frames * p.mode.height; clocks = clocks p }

-- the pixels of all frames
abbrev pub pixel_count : PlanFacts → ℕ
pixel_count p = p.frames * p.mode.height * p.mode.width

-- The pipe, where it tells its sets, was handed a front of those of these pixels.
abbrev pub HandedFront : PlanFacts → List Pixel → PipeState → Type 0
HandedFront p pixels pipe = IfSome pipe.sets (λ handed. IsFront handed (sets p pixels))

abbrev pub HandedAll : PlanFacts → List Pixel → PipeState → Type 0
HandedAll p pixels pipe = IfSome pipe.sets (λ handed. handed ≡ sets p pixels)

-- A front of the bytes of the words of these pixels' sets was taken, and nothing more.
abbrev pub TakenFront : PlanFacts → List Pixel → (before now : Option (List ℕ)) → Type 0
TakenFront p pixels before now =
    (words : List (List ℕ)) → SentWords (lanes_count p.link.lanes) (sets p pixels) words
    → AppendsFront before now (word_bytes (lanes_count p.link.lanes) (capture_clocks p) words)

-- the words of these pixels' sets, whose bytes were taken whole
pub record TakenAll (p : PlanFacts) (pixels : List Pixel) (before now : Option (List ℕ)) : Type 0 where
  pub words : List (List ℕ)
  pub sent : SentWords (lanes_count p.link.lanes) (sets p pixels) words
  pub taken : Appends before now (word_bytes (lanes_count p.link.lanes) (capture_clocks p) words)

-- none of the first pixels has a component out of range
abbrev pub AreGood : PlanFacts → List Pixel → (count : ℕ) → Type 0
AreGood p pixels count = first_bad (depth_bits p.mode.depth) 0 (take count pixels) ≡ None

-- all pixels of the frames are there, and none of them has a component out of range
pub record IsWhole (p : PlanFacts) (pixels : List Pixel) : Type 0 where
  pub there : pixel_count p ≤ length pixels
  pub good : AreGood p pixels (pixel_count p)

-- Sending stops at the first clock among whose pixels one has a component out of range: the first such pixel has this
-- number, and its first such component this value.
pub record StopsBad (p : PlanFacts) (pixels : List Pixel) (number value : ℕ) : Type 0 where
  pub clock : ℕ
  pub within : clock < clocks p
  pub good : AreGood p pixels (pixels_before (shown p) clock)
  pub there : pixels_before (shown p) (clock + 1) ≤ length pixels
  pub bad : first_bad (depth_bits p.mode.depth) 0 (take (pixels_before (shown p) (clock + 1)) pixels)
      ≡ Some (record { number = number; value = value })

-- Sending stops at the first clock that needs a pixel which is not there: there are n in all.
pub record StopsShort (p : PlanFacts) (pixels : List Pixel) (n : ℕ) : Type 0 where
  pub all : n ≡ length pixels
  pub clock : ℕ
  pub within : clock < clocks p
  pub good : AreGood p pixels (pixels_before (shown p) clock)
  pub there : pixels_before (shown p) clock ≤ n
  pub short : n < pixels_before (shown p) (clock + 1)

-- what sending these pixels did, however it ended
pub record Drives (p : PlanFacts) (pixels : List Pixel) (result : Result Sent DriveEnd) (pipe : PipeState)
    (before now : Option (List ℕ)) (ticker : TickerState) : Type 0 where
  pub sets : HandedFront p pixels pipe
  pub all_sets : OnOk result (HandedAll p pixels pipe)
  pub bytes : TakenFront p pixels before now
  pub all_bytes : OnOk result (TakenAll p pixels before now)
  pub stands : OnOk result (StandsFor (take (pixel_count p) pixels) ticker)
  pub whole : OnOk result (IsWhole p pixels)
  pub bad_pixel : (number value : ℕ) → result ≡ Err (BadPixel number value) → StopsBad p pixels number value
  pub ended : (n : ℕ) → result ≡ Err (Ended n) → StopsShort p pixels n
