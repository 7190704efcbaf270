-- Sums over the lines with pixels of all frames: this project's own.
use Rattle.std.specs.Prelude.{ℕ, zero, suc, ◌+◌, ◌-◌, ◌*◌, ◌/◌, ◌%◌}
use Rattle.dpx_base.specs.Plan.{PlanFacts, timing}
use Rattle.dpx_base.specs.Timing.{sent}

-- f 0 + .. + f (count - 1)
unfoldable pub total : (ℕ → ℕ) → (count : ℕ) → ℕ
total f zero = 0
total f (suc count) = total f count + f count

-- Lines with pixels are counted over all frames too. This is such a line's number among all lines.
abbrev pub line_at : (height vtotal i : ℕ) → ℕ
line_at height vtotal i = i / height * vtotal + (vtotal - height) + i % height

abbrev pub active_line : PlanFacts → (i : ℕ) → ℕ
active_line p = line_at p.mode.height p.mode.vtotal

abbrev pub active_lines : PlanFacts → ℕ
active_lines p = p.frames * p.mode.height

-- bytes of each lane that have gone out before clock t
unfoldable pub sent_before : PlanFacts → (t : ℕ) → ℕ
sent_before p t = total (λ i. sent (timing p) (active_line p i) t) (active_lines p)
