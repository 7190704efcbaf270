-- What a ticker needs of its plan.
use Rattle.std.proofs.Common.{ℕ, ◌<◌, ◌≡◌, List}
use Rattle.dpx_base.specs.declared.pixel.Pixel.{Pixel}
use Rattle.dpx_base.specs.declared.slot.Slot.TheVariants.{Valid}
use Rattle.dpx_base.specs.Mode.{IsLegal}
use Rattle.dpx_base.specs.Plan.{PlanFacts, IsPlan, timing, clocks}
use Rattle.dpx_base.specs.Sets.{bytes_at, line_bytes}
use Rattle.dpx_base.specs.Slots.{slot_at}
use Rattle.dpx_base.specs.Timing.{Timing, IsPossible, IsFit, symbols, place}
use Rattle.dpx_timing.proofs.Sizes.{plan_possible}
use Rattle.dpx_source.specs.LineSums.{active_line, active_lines}

-- symbol j of line number i goes out at clock t
pub record IsPlace (r : Timing) (line : ℕ → ℕ) (m t i j : ℕ) : Type 0 where
  pub line_in : i < m
  pub symbol_in : j < symbols r
  pub at : place r (line i) j ≡ t

pub record IsReady (p : PlanFacts) : Type 0 where
  pub planned : IsPlan p
  pub mode : IsLegal p.mode
  pub possible : IsPossible (timing p)
  pub fits : IsFit (timing p)

pub ready_is : (p : PlanFacts) → IsPlan p → IsReady p
ready_is p planned = record {
  planned = planned;
  mode = planned.mode;
  possible = plan_possible p planned;
  fits = planned.fits;
}

abbrev pub IsDue : PlanFacts → (t i j : ℕ) → Type 0
IsDue p t i j = IsPlace (timing p) (active_line p) (active_lines p) t i j

pub record HasPlace (p : PlanFacts) (t : ℕ) : Type 0 where
  pub line : ℕ
  pub symbol : ℕ
  pub due : IsDue p t line symbol

-- what the table of slots says of symbols
pub record IsTable (p : PlanFacts) : Type 0 where
  pub valid : (t : ℕ) → slot_at p t ≡ Valid → HasPlace p t
  pub other : (t i j : ℕ) → t < clocks p → IsDue p t i j → slot_at p t ≡ Valid
  pub bytes : (t i j : ℕ) (pixels : List Pixel) → IsDue p t i j
      → bytes_at p pixels t ≡ line_bytes p pixels (active_line p i) j
