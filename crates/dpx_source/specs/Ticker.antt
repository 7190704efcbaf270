-- What a ticker stands for: this project's own.
use Rattle.std.specs.Prelude.{ℕ, ◌+◌, ◌*◌, ◌^◌, ◌<◌, ◌≤◌, ◌≡◌, Bool, if◌then◌else◌, List, length, Option}
use Rattle.dpx_base.specs.declared.pixel.Pixel.{Pixel}
use Rattle.dpx_base.specs.Beam.{Shown, pixels_before}
use Rattle.dpx_base.specs.Plan.{PlanFacts, IsPlan, clocks}
use Rattle.dpx_buffer.specs.Buffer.{BufferState, Holds}
use Rattle.dpx_source.specs.declared.bad_pixel.BadPixel.{BadPixel}
use Rattle.dpx_source.specs.LineSums.{sent_before}

-- Its plan and its clock; whether the clock's set was given; how many pixels it has absorbed; its line buffer; and its
-- refusal, if there was one.
pub record TickerState : Type 0 where
  pub plan : PlanFacts
  pub clock : ℕ
  pub given : Bool
  pub absorbed : ℕ
  pub buffer : BufferState
  pub refusal : Option BadPixel

-- what a display engine shows where a plan is sent
abbrev pub shown : PlanFacts → Shown
shown p = record { mode = p.mode; link = p.link; frames = p.frames }

-- how many sets it has given
abbrev pub sets_given : TickerState → ℕ
sets_given t = if t.given then t.clock + 1 else t.clock

-- The ticker stands for these pixels: they are those that arrive before its clock, and of the bytes that they make
-- whole those wait that have not gone out.
pub record StandsFor (pixels : List Pixel) (t : TickerState) : Type 0 where
  pub plan : t.buffer.plan ≡ t.plan
  pub absorbed : t.absorbed ≡ length pixels
  pub arrived : length pixels ≡ pixels_before (shown t.plan) t.clock
  pub buffer : Holds pixels (sent_before t.plan (sets_given t)) t.buffer

-- every ticker stands for some pixels
pub record IsTicker (t : TickerState) : Type 0 where
  pub planned : IsPlan t.plan
  pub pixels : List Pixel
  pub stands : StandsFor pixels t
  pub few : t.absorbed ≤ 2 * t.clock
  pub within : sets_given t ≤ clocks t.plan
  pub short : clocks t.plan < 2 ^ 58
