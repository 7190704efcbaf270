-- What a line buffer holds of the pixels that it has absorbed: this project's own.
use Rattle.std.specs.Prelude.{ℕ, ◌+◌, ◌-◌, ◌*◌, ◌/◌, ◌%◌, ◌<◌, ◌≤◌, ◌≡◌, List, length, drop, slice_index_or, All}
use Rattle.dpx_base.specs.declared.pixel.Pixel.{Pixel}
use Rattle.dpx_base.specs.Lanes.{lanes_count}
use Rattle.dpx_base.specs.Mode.{depth_bits}
use Rattle.dpx_base.specs.Packing.{Line, line_bit, line_byte}
use Rattle.dpx_base.specs.Plan.{PlanFacts, IsPlan, timing}
use Rattle.dpx_base.specs.Sets.{black}
use Rattle.dpx_base.specs.Timing.{Timing, symbols, floor_div}
use Rattle.dpx_base.specs.Unpacking.{InRange}
use Rattle.dpx_pack.specs.Positions.{span}
use Rattle.dpx_buffer.specs.Lane.{LaneState, lane_of, ring_capacity}

-- What is seen of a line buffer. The group's pixels are not packed yet; `column` counts the pixels of the line so far.
pub record BufferState : Type 0 where
  pub plan : PlanFacts
  pub lanes : List LaneState
  pub group : List Pixel
  pub column : ℕ

-- The pixels of all lines stand one behind the other. This is one of the lines.
abbrev pub line_in : PlanFacts → List Pixel → (line : ℕ) → Line
line_in p pixels line = record {
  width = p.mode.width;
  lanes = lanes_count p.link.lanes;
  depth = depth_bits p.mode.depth;
  pixel = λ x. slice_index_or pixels (line * p.mode.width + x) black;
}

-- a lane's byte, where the bytes of all lines stand one behind the other
unfoldable pub lane_byte : PlanFacts → List Pixel → (lane number : ℕ) → ℕ
lane_byte p pixels lane number =
    line_byte (line_in p pixels (number / symbols (timing p))) lane (number % symbols (timing p))

-- bits of each lane that the whole groups among so many pixels of a line have
abbrev pub group_bits : Timing → (column : ℕ) → ℕ
group_bits r column = floor_div column r.lanes * r.bits

-- bytes of each lane that so many pixels make whole
unfoldable pub bytes_whole : Timing → (count : ℕ) → ℕ
bytes_whole r count = count / r.width * symbols r + floor_div (group_bits r (count % r.width)) 8

-- the bits of a lane that are no whole byte, where a line's whole groups have so many
abbrev pub open_bits : PlanFacts → List Pixel → (line lane bits : ℕ) → List ℕ
open_bits p pixels line lane bits =
    span (line_bit (line_in p pixels line) lane) (8 * floor_div bits 8) (bits - 8 * floor_div bits 8)

-- the buffer has absorbed these pixels, and so many bytes of each lane were taken
pub record Holds (pixels : List Pixel) (taken : ℕ) (b : BufferState) : Type 0 where
  pub lanes : length b.lanes ≡ lanes_count b.plan.link.lanes
  pub column : b.column ≡ length pixels % b.plan.mode.width
  pub group : b.group ≡ drop (length pixels - b.column % lanes_count b.plan.link.lanes) pixels
  pub taken_few : taken ≤ bytes_whole (timing b.plan) (length pixels)
  pub waiting : (lane : ℕ) → lane < lanes_count b.plan.link.lanes
      → (lane_of b.lanes lane).waiting
      ≡ span (lane_byte b.plan pixels lane) taken (bytes_whole (timing b.plan) (length pixels) - taken)
  pub bits : (lane : ℕ) → lane < lanes_count b.plan.link.lanes
      → (lane_of b.lanes lane).bits
      ≡ open_bits b.plan pixels (length pixels / b.plan.mode.width) lane (group_bits (timing b.plan) b.column)

-- so many further pixels make so many bytes of each lane whole
abbrev pub made_whole : BufferState → (count : ℕ) → ℕ
made_whole b count = bytes_whole (timing b.plan) (b.column + count) - bytes_whole (timing b.plan) b.column

-- each lane has room for what so many further pixels make whole
abbrev pub HasRoom : BufferState → (count : ℕ) → Type 0
HasRoom b count =
    (lane : ℕ) → lane < lanes_count b.plan.link.lanes
    → length (lane_of b.lanes lane).waiting + made_whole b count ≤ ring_capacity

-- Every buffer is a plan's, has absorbed some pixels, and some bytes of it were taken.
pub record Reached (b : BufferState) : Type 0 where
  pub planned : IsPlan b.plan
  pub pixels : List Pixel
  pub taken : ℕ
  pub holds : Holds pixels taken b
  pub in_range : All (InRange (depth_bits b.plan.mode.depth)) pixels
