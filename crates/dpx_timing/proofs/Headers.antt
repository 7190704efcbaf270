-- How long a header is, and that its attributes end before the next line's header.
use Rattle.std.proofs.Common.{ℕ, ◌+◌, ◌*◌, ◌/◌, ◌≤◌, arith, Bool, true, false}
use Rattle.std.specs.Prelude.{if◌then◌else◌}
use Rattle.dpx_base.specs.declared.lanes.Lanes.{Lanes}
use Rattle.dpx_base.specs.declared.lanes.Lanes.TheVariants.{One, Two, Four}
use Rattle.dpx_base.specs.Lanes.{lanes_count}
use Rattle.dpx_base.specs.Plan.{PlanFacts, IsPlan, timing, group_length, block_length}
use Rattle.dpx_base.specs.Slots.{header_start, attributes_length}
use Rattle.dpx_base.specs.Timing.{Timing, symbols, gap}
use Rattle.dpx_timing.proofs.Lines.{start_gap}
use Rattle.dpx_timing.proofs.Sizes.{plan_possible, plan_small}
use Rattle.dpx_timing.proofs.Slots.{header_room}

-- a header's parts are short
pub record IsShort (group block attributes : ℕ) : Type 0 where
  pub group_some : 1 ≤ group
  pub block_some : 1 ≤ block
  pub header : group + block ≤ 16
  pub attributes_to : attributes ≤ 39

these : {group block attributes : ℕ} → 1 ≤ group → 1 ≤ block → group + block ≤ 16 → attributes ≤ 39
    → IsShort group block attributes
these group block header attributes =
    record { group_some = group; block_some = block; header = header; attributes_to = attributes }

pub header_short : (p : PlanFacts) → IsShort (group_length p.link) (block_length p.link) (attributes_length p)
header_short p = short p.link.enhanced p.link.lanes
  where
    short : (enhanced : Bool) (lanes : Lanes)
        → IsShort (if enhanced then 4 else 1) (12 / lanes_count lanes) (3 + 36 / lanes_count lanes)
    short true One = these (omega arith) (omega arith) (omega arith) (omega arith)
    short true Two = these (omega arith) (omega arith) (omega arith) (omega arith)
    short true Four = these (omega arith) (omega arith) (omega arith) (omega arith)
    short false One = these (omega arith) (omega arith) (omega arith) (omega arith)
    short false Two = these (omega arith) (omega arith) (omega arith) (omega arith)
    short false Four = these (omega arith) (omega arith) (omega arith) (omega arith)

-- A line of at least 288 bits has clocks for the longest header: group, block and attributes.
header_fits : (enhanced : Bool) (lanes : Lanes) (count clocks : ℕ) → count + 22 ≤ clocks
    → 288 ≤ 8 * (lanes_count lanes * count)
    → (if enhanced then 4 else 1) + 12 / lanes_count lanes + (3 + 36 / lanes_count lanes) ≤ clocks
header_fits true One count clocks h k = omega arith
header_fits true Two count clocks h k = omega arith
header_fits true Four count clocks h k = omega arith
header_fits false One count clocks h k = omega arith
header_fits false Two count clocks h k = omega arith
header_fits false Four count clocks h k = omega arith

pub attributes_fit : (p : PlanFacts) (line : ℕ) → IsPlan p
    → header_start p line + group_length p.link + block_length p.link + attributes_length p
    ≤ header_start p (line + 1)
attributes_fit p line plan =
    let r : Timing = timing p in
    let possible = plan_possible p plan in
    let room : (symbols r + 22 ≤ gap r) × (288 ≤ 8 * (r.lanes * symbols r)) =
    header_room r possible plan.fits plan.mode.width.0 (plan_small p plan).bits_from in
    omega (
      arith,
      header_fits p.link.enhanced p.link.lanes (symbols r) (gap r) room.0 room.1,
      start_gap r line possible,
    )
