-- The numbers of a plan that fits.
use Rattle.std.proofs.Common.{ℕ, ◌+◌, ◌*◌, ◌/◌, ◌≤◌, ◌≡◌, Bool, true, false, refl, arith}
use Rattle.std.specs.Prelude.{if◌then◌else◌}
use Rattle.dpx_base.specs.declared.depth.Depth.{Depth}
use Rattle.dpx_base.specs.declared.depth.Depth.TheVariants.{Six, Eight, Ten, Twelve, Sixteen}
use Rattle.dpx_base.specs.declared.link.Link.{Link}
use Rattle.dpx_base.specs.declared.lanes.Lanes.{Lanes}
use Rattle.dpx_base.specs.declared.lanes.Lanes.TheVariants.{One, Two, Four}
use Rattle.dpx_base.specs.declared.rate.Rate.{Rate}
use Rattle.dpx_base.specs.declared.rate.Rate.TheVariants.{Rbr, Hbr, Hbr2, Hbr3}
use Rattle.dpx_base.specs.Lanes.{lanes_count}
use Rattle.dpx_base.specs.Mode.{pixel_bits}
use Rattle.dpx_base.specs.Plan.{group_length, PlanFacts, timing, IsPlan}
use Rattle.dpx_base.specs.Rate.{rate_clock_khz}
use Rattle.dpx_base.specs.Slots.{begins_frame}
use Rattle.dpx_base.specs.Timing.{IsPossible, symbols, start, gap, line_end}
use Rattle.dpx_timing.proofs.Lines.{start_gap}
use Rattle.dpx_timing.proofs.Slots.{header_room, delay_from}
use Rattle.dpx_inversion.specs.Source.{head_at, header_length}

pub count_pos : (l : Lanes) → 1 ≤ lanes_count l
count_pos One = omega arith
count_pos Two = omega arith
count_pos Four = omega arith

clock_pos : (r : Rate) → 1 ≤ rate_clock_khz r
clock_pos Rbr = omega arith
clock_pos Hbr = omega arith
clock_pos Hbr2 = omega arith
clock_pos Hbr3 = omega arith

bits_from : (d : Depth) → 18 ≤ pixel_bits d
bits_from Six = omega arith
bits_from Eight = omega arith
bits_from Ten = omega arith
bits_from Twelve = omega arith
bits_from Sixteen = omega arith

pub possible : (p : PlanFacts) → IsPlan p → IsPossible (timing p)
possible p plan = record {
  width_from = omega (arith, plan.mode.width.0);
  width_to = omega (arith, plan.mode.htotal.0);
  pixel_clock_from = plan.mode.clock_khz.0;
  symbol_clock_from = clock_pos p.link.rate;
  lanes_from = count_pos p.link.lanes;
  unit_from = omega (arith, plan.unit.0);
  bits_from = omega (arith, bits_from p.mode.depth);
}

-- a group takes one clock or four
pub group_fits : (l : Link) → (1 ≤ group_length l) × (group_length l ≤ 4)
group_fits l = by_framing l.enhanced
  where
    by_framing : (enhanced : Bool) → (1 ≤ (if enhanced then 4 else 1)) × ((if enhanced then 4 else 1) ≤ 4)
    by_framing true = (omega arith, omega arith)
    by_framing false = (omega arith, omega arith)

-- a header without attributes takes at most 16 clocks
pub block_fits : (l : Lanes) → 12 / lanes_count l ≤ 12
block_fits One = omega arith
block_fits Two = omega arith
block_fits Four = omega arith

-- a header with attributes fits where the line has room for them
pub attributes_fit : (l : Lanes) (s g : ℕ) → s + 22 ≤ g → 288 ≤ 8 * (lanes_count l * s)
    → 7 + 12 / lanes_count l + 36 / lanes_count l ≤ g
attributes_fit One s g h k = omega arith
attributes_fit Two s g h k = omega arith
attributes_fit Four s g h k = omega arith

pub started : (p : PlanFacts) (line : ℕ) → IsPlan p → 1 ≤ start (timing p) line
unfolding start
started p line plan = omega (arith, delay_from (timing p) (possible p plan) plan.fits (bits_from p.mode.depth))

-- the next line's header comes as late
pub apart : (p : PlanFacts) (line : ℕ) → IsPlan p → head_at p line + gap (timing p) ≤ head_at p (line + 1)
unfolding head_at
apart p line plan = omega (arith, start_gap (timing p) line (possible p plan))

-- room for a header, and where the next line is active for that line
pub room : (p : PlanFacts) (line : ℕ) (first active : Bool) → IsPlan p → begins_frame p line ≡ first
    → (first ≡ true → active ≡ false)
    → header_length p line + (if active then line_end (timing p) + 1 else 0) ≤ gap (timing p)
unfolding header_length
room p line true true plan f not_both = absurd (different (not_both refl))
  where
    different : true ≡ false → ⊥
    different e = cc
room p line true false plan f not_both =
    let h : (symbols (timing p) + 22 ≤ gap (timing p)) × (288 ≤ 8 * (lanes_count p.link.lanes * symbols (timing p))) =
    header_room (timing p) (possible p plan) plan.fits (omega (arith, plan.mode.width.0)) (bits_from p.mode.depth) in
    rw f (omega (
      arith,
      (group_fits p.link).1,
      attributes_fit p.link.lanes (symbols (timing p)) (gap (timing p)) h.0 h.1,
    ))
room p line false true plan f not_both = rw f
    (omega (
      arith,
      (group_fits p.link).1,
      block_fits p.link.lanes,
      plan.fits.room,
      delay_from (timing p) (possible p plan) plan.fits (bits_from p.mode.depth),
    ))
room p line false false plan f not_both = rw f
    (omega (arith, (group_fits p.link).1, block_fits p.link.lanes, plan.fits.room))
