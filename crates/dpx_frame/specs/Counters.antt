-- Where a schedule stands: this project's own.
use Rattle.std.specs.Prelude.{◌≡◌, ◌<◌, ◌≤◌, ℕ, ◌+◌, ◌-◌, ◌*◌, ◌%◌, ◌^◌}
use Rattle.dpx_base.specs.Plan.{PlanFacts, timing}
use Rattle.dpx_base.specs.Timing.{Timing, start, first_tick}
use Rattle.dpx_frame.specs.declared.counters.Counters.{Counters}
use Rattle.dpx_frame.specs.Units.{StandsInLine}

-- what a line's start leaves of a clock
abbrev pub spare_of : Timing → (line : ℕ) → ℕ
spare_of r line = (first_tick r line * r.symbol_clock) % r.pixel_clock

-- the counters stand at clock t: each follows from the clock and the line that it lies in
pub record StandsAt (p : PlanFacts) (t : ℕ) (c : Counters) : Type 0 where
  pub clock_is : t + c.before + 1 ≡ start (timing p) c.line + c.since
  pub before_first : 0 < c.before → c.line + c.since ≡ 0
  pub until_is : start (timing p) c.line + c.since + c.until ≡ start (timing p) (c.line + 1)
  pub until_some : 1 ≤ c.until
  pub row_is : c.row ≡ c.line % p.mode.vtotal
  pub spare_is : c.spare ≡ spare_of (timing p) (c.line + 1)
  pub in_frame_is : start (timing p) (c.line - c.row) + c.in_frame ≡ start (timing p) c.line + c.since
  pub units_is : StandsInLine (timing p) (c.since - 1) c.units

-- bounds that keep sums of counters in their types
pub record IsBounded (c : Counters) : Type 0 where
  pub line_to : c.line < 2 ^ 32 - 1
  pub row_to : c.row < 2 ^ 16
  pub since_to : c.since < 2 ^ 62
  pub in_frame_to : c.in_frame < 2 ^ 62
  pub until_from : 1 ≤ c.until
  pub spare_to : c.spare < 2 ^ 32
  pub rest_to : c.units.rest < 2 ^ 32
  pub place_to : c.units.place < 2 ^ 32
