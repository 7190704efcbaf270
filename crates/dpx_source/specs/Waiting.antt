-- What waits in a ticker at the start of a clock: this project's own.
use Rattle.std.specs.Prelude.{ℕ, ◌<◌, ◌≡◌, List, []}
use Rattle.dpx_base.specs.declared.pixel.Pixel.{Pixel}
use Rattle.dpx_base.specs.Lanes.{lanes_count}
use Rattle.dpx_base.specs.Packing.{line_byte}
use Rattle.dpx_base.specs.Plan.{PlanFacts, timing}
use Rattle.dpx_base.specs.Sets.{line_of}
use Rattle.dpx_base.specs.Timing.{sent, waiting}
use Rattle.dpx_buffer.specs.Lane.{lane_of}
use Rattle.dpx_pack.specs.Positions.{span}
use Rattle.dpx_source.specs.LineSums.{active_line, active_lines}
use Rattle.dpx_source.specs.Ticker.{TickerState}

-- of a line's bytes on a lane, those from the first that has not gone out to the last that has arrived
abbrev pub waiting_bytes : PlanFacts → List Pixel → (line lane t : ℕ) → List ℕ
waiting_bytes p pixels line lane t =
    span (line_byte (line_of p pixels line) lane) (sent (timing p) line t) (waiting (timing p) line t)

abbrev pub on_lane : TickerState → (lane : ℕ) → List ℕ
on_lane t lane = (lane_of t.buffer.lanes lane).waiting

-- the bytes of the line that has any wait on the lanes, and where none has, nothing does
pub record BytesWait (pixels : List Pixel) (t : TickerState) : Type 0 where
  pub of_a_line : (i lane : ℕ) → i < active_lines t.plan
      → 0 < waiting (timing t.plan) (active_line t.plan i) t.clock → lane < lanes_count t.plan.link.lanes
      → on_lane t lane ≡ waiting_bytes t.plan pixels (active_line t.plan i) lane t.clock
  pub of_none : ((i : ℕ) → i < active_lines t.plan → waiting (timing t.plan) (active_line t.plan i) t.clock ≡ 0)
      → (lane : ℕ) → lane < lanes_count t.plan.link.lanes → on_lane t lane ≡ []
