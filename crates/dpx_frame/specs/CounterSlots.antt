-- What counters tell of their clock's slot: this project's own.
use Rattle.std.specs.Prelude.{ℕ, ◌+◌, ◌-◌, ◌%◌, ◌==◌, ◌&&◌, Bool, not, nat_lt, nat_le, if◌then◌else◌}
use Rattle.dpx_base.specs.declared.slot.Slot.{Slot}
use Rattle.dpx_base.specs.declared.slot.Slot.TheVariants.{Fill, Group, VbId, Msa, Be, Valid, Stuff}
use Rattle.dpx_base.specs.Plan.{PlanFacts, timing, group_length, block_length}
use Rattle.dpx_base.specs.Slots.{stuffing_of, attributes_length}
use Rattle.dpx_base.specs.Timing.{line_end}
use Rattle.dpx_frame.specs.declared.counters.Counters.{Counters}

-- rows are lines, counted in their frame
abbrev pub is_active_row : PlanFacts → (row : ℕ) → Bool
is_active_row p row = nat_le (p.mode.vtotal - p.mode.height) row

abbrev pub is_between_active : PlanFacts → (row : ℕ) → Bool
is_between_active p row = is_active_row p row && nat_lt (row + 1) p.mode.vtotal

-- from an active line's BE to its last symbol
unfoldable pub slot_in_line : PlanFacts → Counters → Slot
slot_in_line p c =
    if c.since == 0 then Be
    else if nat_lt c.units.place c.units.symbols then Valid
    else Stuff (stuffing_of p.unit c.units.symbols c.units.place)

-- in a header's group and block
unfoldable pub slot_in_header : PlanFacts → Counters → (index : ℕ) → Slot
slot_in_header p c index =
    if nat_lt index (group_length p.link) then Group index (c.line % 512 == 0)
    else VbId (index - group_length p.link) (not (is_between_active p c.row))

-- behind a frame's first block
unfoldable pub slot_in_frame : PlanFacts → Counters → Slot
slot_in_frame p c =
    let first = line_end (timing p) + group_length p.link + block_length p.link + 1 in
    if nat_le first c.in_frame && nat_lt c.in_frame (first + attributes_length p) then Msa (c.in_frame - first)
    else Fill

-- the clocks of a header's group and block, counted from the line's BE
abbrev pub is_in_header : PlanFacts → (since : ℕ) → Bool
is_in_header p since =
    let line = line_end (timing p) in
    nat_lt line since && nat_le (since - line) (group_length p.link + block_length p.link)

unfoldable pub slot : PlanFacts → Counters → Slot
slot p c =
    if nat_lt 0 c.before then Fill
    else if is_active_row p c.row && nat_le c.since (line_end (timing p)) then slot_in_line p c
    else if is_in_header p c.since then slot_in_header p c (c.since - line_end (timing p) - 1)
    else slot_in_frame p c
