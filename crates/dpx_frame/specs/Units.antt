-- Where a line stands in its transfer units: this project's own.
use Rattle.std.specs.Prelude.{◌≡◌, ℕ, ◌+◌, ◌-◌, ◌*◌, ◌/◌, ◌%◌}
use Rattle.dpx_base.specs.Slots.{unit_symbols}
use Rattle.dpx_base.specs.Timing.{Timing, symbols, carried, n, m}
use Rattle.dpx_frame.specs.declared.units.Units.{Units}

-- the counters stand at clock w of a line
pub record StandsInLine (r : Timing) (w : ℕ) (c : Units) : Type 0 where
  pub place_is : c.place ≡ w % r.unit
  pub symbols_is : c.symbols ≡ unit_symbols r (w / r.unit)
  pub left_is : c.left ≡ symbols r - carried r (w / r.unit + 1)
  pub rest_is : c.rest ≡ ((w / r.unit + 1) * r.unit * n r) % m r
