-- A new ticker.
use Rattle.std.proofs.Common.{◌≡◌, ◌<◌, ◌^◌, [], refl, sym, arith, ◌∙◌, false, None}
use Rattle.dpx_base.proofs.Beams.{pixels_first}
use Rattle.dpx_base.specs.Plan.{PlanFacts, IsPlan, timing, clocks}
use Rattle.dpx_base.specs.Timing.{sent}
use Rattle.dpx_timing.proofs.Holds.{sent_is}
use Rattle.dpx_timing.proofs.Sizes.{plan_possible}
use Rattle.dpx_buffer.specs.Buffer.{BufferState, Holds}
use Rattle.dpx_source.specs.LineSums.{active_line, active_lines, sent_before}
use Rattle.dpx_source.specs.Ticker.{TickerState, StandsFor, IsTicker, shown}
use Rattle.dpx_source.proofs.Sums.{total_full}

none_sent : (p : PlanFacts) → IsPlan p → sent_before p 0 ≡ 0
unfolding sent_before
none_sent p plan =
    total_full (λ i. sent (timing p) (active_line p i) 0) 0 (active_lines p)
    (λ i h. sent_is (timing p) (active_line p i) 0 0 (plan_possible p plan) plan.fits (omega arith)
    (λ k j. absurd (omega (arith, j))) (λ k. omega arith))
    ∙ omega arith

-- a ticker before clock 0
abbrev pub first : PlanFacts → BufferState → TickerState
first p b = record { plan = p; clock = 0; given = false; absorbed = 0; buffer = b; refusal = None }

pub new_stands : (p : PlanFacts) (b : BufferState) → IsPlan p → b.plan ≡ p → Holds [] 0 b → StandsFor [] (first p b)
new_stands p b plan same holds = record {
  plan = same;
  absorbed = refl;
  arrived = sym (pixels_first (shown p));
  buffer = rw (none_sent p plan) holds;
}

pub new_ticker : (p : PlanFacts) (b : BufferState) → IsPlan p → b.plan ≡ p → Holds [] 0 b → clocks p < 2 ^ 58
    → IsTicker (first p b)
new_ticker p b plan same holds short = record {
  planned = plan;
  pixels = [];
  stands = new_stands p b plan same holds;
  few = omega arith;
  within = omega arith;
  short = short;
}
