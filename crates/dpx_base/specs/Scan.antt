-- Where a scan of frames stands.
use Rattle.std.specs.Prelude.{ℕ, ◌+◌, ◌*◌, ◌<◌, ◌≤◌, ◌≡◌}
use Rattle.dpx_base.specs.Beam.{Shown}
use Rattle.dpx_base.specs.Mode.{ModeFacts, IsLegal}
use Rattle.dpx_base.specs.Rate.{rate_clock_khz}

pub record Scanned : Type 0 where
  pub mode : ModeFacts
  pub frames : ℕ
  pub tick : ℕ

pub record IsScan (s : Scanned) (frame row column : ℕ) : Type 0 where
  pub legal : IsLegal s.mode
  pub tick_is : s.tick ≡ (frame * s.mode.vtotal + row) * s.mode.htotal + column
  pub column_below : column < s.mode.htotal
  pub row_below : row < s.mode.vtotal
  pub frame_small : frame ≤ s.tick

-- a display engine at a symbol clock
pub record Beaming : Type 0 where
  pub shown : Shown
  pub clock : ℕ

pub record IsBeam (b : Beaming) (s : Scanned) (spare : ℕ) : Type 0 where
  pub mode : s.mode ≡ b.shown.mode
  pub frames : s.frames ≡ b.shown.frames
  pub spare_below : spare < rate_clock_khz b.shown.link.rate
  pub spare_is : b.clock * b.shown.mode.clock_khz ≡ rate_clock_khz b.shown.link.rate * s.tick + spare
  pub two : b.shown.mode.clock_khz ≤ 2 * rate_clock_khz b.shown.link.rate
