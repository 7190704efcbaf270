-- What holds of every plan: this project's own.
use Rattle.std.specs.Prelude.{ℕ, ◌+◌, ◌≤◌}
use Rattle.dpx_base.specs.Plan.{PlanFacts, timing, group_length, block_length}
use Rattle.dpx_base.specs.Slots.{header_start, attributes_length}
use Rattle.dpx_base.specs.Timing.{NeverShort, NeverOver, bound}
use Rattle.dpx_base.specs.TimingLaws.{IsCadence, IsApart, IsSending}

-- attributes that stand behind a line's header end before the next line's header
abbrev pub AttributesEnd : PlanFacts → Type 0
AttributesEnd p =
    (line : ℕ) → header_start p line + group_length p.link + block_length p.link + attributes_length p
    ≤ header_start p (line + 1)

pub record IsSchedule (p : PlanFacts) : Type 0 where
  pub never_short : NeverShort (timing p)
  pub never_over : NeverOver (timing p)
  pub few_wait : bound (timing p) ≤ 34
  pub cadence : IsCadence (timing p)
  pub apart : IsApart (timing p)
  pub sending : IsSending (timing p)
  pub attributes_end : AttributesEnd p
