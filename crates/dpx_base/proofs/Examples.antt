-- The definitions on small inputs, whose values were computed by hand.
use Rattle.std.proofs.Common.{ℕ, ◌≡◌, refl, List, [], ◌∷◌, map, Bool, true, false}
use Rattle.std.specs.List.{range_with_len}
use Rattle.std.specs.Prelude.{slice_index_or, if◌then◌else◌, ◌==◌}
use Rattle.dpx_base.specs.declared.depth.Depth.{Depth}
use Rattle.dpx_base.specs.declared.depth.Depth.TheVariants.{Eight, Twelve, Sixteen}
use Rattle.dpx_base.specs.declared.lanes.Lanes.TheVariants.{Two}
use Rattle.dpx_base.specs.declared.pixel.Pixel.{Pixel}
use Rattle.dpx_base.specs.declared.rate.Rate.TheVariants.{Rbr}
use Rattle.dpx_base.specs.declared.slot.Slot.TheVariants.{Fill, Group, VbId, Msa, Be, Valid, Stuff, Ended}
use Rattle.dpx_base.specs.declared.slot.Stuffing.TheVariants.{Fs, Zero, Fe}
use Rattle.dpx_base.specs.Attributes.{attributes_bytes, block_byte, column_symbol}
use Rattle.dpx_base.specs.Packing.{Line, line_byte, line_bit}
use Rattle.dpx_base.specs.Plan.{PlanFacts, timing, clocks}
use Rattle.dpx_base.specs.Sets.{black}
use Rattle.dpx_base.specs.Slots.{slot_at, start_row, symbol_row, stuffing_row, group_row, block_row, attributes_row}
use Rattle.dpx_base.specs.Slots.{symbol_at, unit_symbols}
use Rattle.dpx_base.specs.Timing.{n, m, symbols, delay, line_end, bound, start, due, first_tick, place, carried}
use Rattle.dpx_base.specs.Timing.{unit_of}
use Rattle.dpx_base.specs.Timing.{last_unit, floor_div, ceil_div}

-- ---- packing

abbrev pixel : ℕ → ℕ → ℕ → Pixel
pixel r g b = record { r = r; g = g; b = b }

abbrev line : (width lanes depth : ℕ) → List Pixel → Line
line width lanes depth pixels = record {
  width = width;
  lanes = lanes;
  depth = depth;
  pixel = λ x. slice_index_or pixels x black;
}

abbrev three : Line
three = line 3 1 6 (pixel 1 2 3 ∷ pixel 63 0 42 ∷ pixel 33 0 1 ∷ [])

-- the last two bits are padding
six_bits : map (line_byte three 0) (range_with_len 0 7) ≡ 0x04 ∷ 0x20 ∷ 0xff ∷ 0x02 ∷ 0xa8 ∷ 0x40 ∷ 0x04 ∷ []
unfolding line_byte line_bit
six_bits = refl

twelve_bits : map (line_byte (line 1 1 12 (pixel 1 2 3 ∷ [])) 0) (range_with_len 0 5)
    ≡ 0x00 ∷ 0x10 ∷ 0x02 ∷ 0x00 ∷ 0x30 ∷ []
unfolding line_byte line_bit
twelve_bits = refl

sixteen_bits : map (line_byte (line 1 1 16 (pixel 1 2 3 ∷ [])) 0) (range_with_len 0 6)
    ≡ 0x00 ∷ 0x01 ∷ 0x00 ∷ 0x02 ∷ 0x00 ∷ 0x03 ∷ []
unfolding line_byte line_bit
sixteen_bits = refl

-- seventeen pixels on four lanes: the last stands on lane 0, and the other lanes are padded
abbrev seventeen : Line
seventeen = record {
  width = 17;
  lanes = 4;
  depth = 10;
  pixel = λ x. if x == 16 then pixel 1023 0 341 else black;
}

last_pixel : map (line_byte seventeen 0) (range_with_len 15 4) ≡ 0xff ∷ 0xc0 ∷ 0x05 ∷ 0x54 ∷ []
unfolding line_byte line_bit
last_pixel = refl

padding : map (line_byte seventeen 3) (range_with_len 15 4) ≡ 0 ∷ 0 ∷ 0 ∷ 0 ∷ []
unfolding line_byte line_bit
padding = refl

-- ---- frames of 16 by 2 pixels, on two lanes at RBR

abbrev small : (depth : Depth) (enhanced : Bool) → PlanFacts
small depth enhanced = record {
  mode = record {
    width = 16;
    height = 2;
    htotal = 28;
    vtotal = 4;
    hsw = 4;
    hstart = 8;
    vsw = 1;
    vstart = 2;
    hsp = false;
    vsp = false;
    clock_khz = 54000;
    depth = depth;
  };
  link = record { rate = Rbr; lanes = Two; enhanced = enhanced };
  unit = 32;
  frames = 2;
}

-- what the schedule of a line is: n, m, symbols, delay, end, bound
abbrev numbers : PlanFacts → List ℕ
numbers p =
    let r = timing p in n r ∷ m r ∷ symbols r ∷ delay r ∷ line_end r ∷ bound r ∷ []

eight_numbers : numbers (small Eight true) ≡ 1296000 ∷ 2592000 ∷ 24 ∷ 25 ∷ 40 ∷ 20 ∷ []
unfolding n m symbols delay line_end bound unit_of last_unit carried floor_div ceil_div
eight_numbers = refl

twelve_numbers : numbers (small Twelve true) ≡ 1944000 ∷ 2592000 ∷ 36 ∷ 17 ∷ 44 ∷ 23 ∷ []
unfolding n m symbols delay line_end bound unit_of last_unit carried floor_div ceil_div
twelve_numbers = refl

sixteen_numbers : numbers (small Sixteen true) ≡ 2592000 ∷ 2592000 ∷ 48 ∷ 8 ∷ 48 ∷ 26 ∷ []
unfolding n m symbols delay line_end bound unit_of last_unit carried floor_div ceil_div
sixteen_numbers = refl

-- the clocks of all frames, for 8 bits in either framing, and for 12 and 16
all_clocks : clocks (small Eight true) ∷ clocks (small Eight false) ∷ clocks (small Twelve true)
    ∷ clocks (small Sixteen true) ∷ [] ≡ 699 ∷ 696 ∷ 695 ∷ 690 ∷ []
unfolding clocks n m symbols delay line_end start due first_tick unit_of last_unit carried floor_div ceil_div
all_clocks = refl

line_starts : map (start (timing (small Eight true))) (range_with_len 0 8)
    ≡ 61 ∷ 145 ∷ 229 ∷ 313 ∷ 397 ∷ 481 ∷ 565 ∷ 649 ∷ []
unfolding n m symbols delay start due first_tick floor_div ceil_div
line_starts = refl

enhanced_slots : map (slot_at (small Eight true)) (0 ∷ 101 ∷ 104 ∷ 105 ∷ 110 ∷ 111 ∷ 131 ∷ 132 ∷ 228 ∷ 229 ∷ 244 ∷ 245
    ∷ 246 ∷ 260 ∷ 261 ∷ 268 ∷ 269 ∷ 273 ∷ 698 ∷ 699 ∷ [])
    ≡ Fill ∷ Group 0 true ∷ Group 3 true ∷ VbId 0 true ∷ VbId 5 true ∷ Msa 0 ∷ Msa 20 ∷ Fill ∷ Be ∷ Valid ∷ Valid
    ∷ Stuff Fs ∷ Stuff Zero ∷ Stuff Fe ∷ Valid ∷ Valid ∷ Group 0 false ∷ VbId 0 false ∷ VbId 5 true ∷ Ended ∷ []
unfolding slot_at start_row symbol_row stuffing_row group_row block_row attributes_row symbol_at unit_symbols place
    clocks n m symbols delay line_end start due first_tick unit_of last_unit carried floor_div ceil_div
enhanced_slots = refl

default_slots : map (slot_at (small Eight false)) (101 ∷ 102 ∷ 107 ∷ 108 ∷ 128 ∷ 129 ∷ 228 ∷ 269 ∷ 270 ∷ 695 ∷ 696 ∷ [])
    ≡ Group 0 true ∷ VbId 0 true ∷ VbId 5 true ∷ Msa 0 ∷ Msa 20 ∷ Fill ∷ Be ∷ Group 0 false ∷ VbId 0 false ∷ VbId 5 true
    ∷ Ended ∷ []
unfolding slot_at start_row symbol_row stuffing_row group_row block_row attributes_row symbol_at unit_symbols place
    clocks n m symbols delay line_end start due first_tick unit_of last_unit carried floor_div ceil_div
default_slots = refl

-- ---- attributes

columns : attributes_bytes (small Eight true).mode (small Eight true).link
    ≡ 0x00 ∷ 0xd2 ∷ 0xf0 ∷ 0x00 ∷ 0x1c ∷ 0x00 ∷ 0x04 ∷ 0x00 ∷ 0x04
    ∷ 0x00 ∷ 0xd2 ∷ 0xf0 ∷ 0x00 ∷ 0x08 ∷ 0x00 ∷ 0x02 ∷ 0x00 ∷ 0x01
    ∷ 0x00 ∷ 0xd2 ∷ 0xf0 ∷ 0x00 ∷ 0x10 ∷ 0x00 ∷ 0x02 ∷ 0x00 ∷ 0x00
    ∷ 0x00 ∷ 0xd2 ∷ 0xf0 ∷ 0x02 ∷ 0x78 ∷ 0xd0 ∷ 0x21 ∷ 0x00 ∷ 0x00 ∷ []
unfolding attributes_bytes
columns = refl

-- lane 0 carries columns 0 and 2, lane 1 columns 1 and 3
lane_columns : map (column_symbol Two 0) (0 ∷ 8 ∷ 9 ∷ 17 ∷ []) ≡ 0 ∷ 8 ∷ 18 ∷ 26 ∷ []
lane_columns = refl

other_columns : map (column_symbol Two 1) (0 ∷ 8 ∷ 9 ∷ 17 ∷ []) ≡ 9 ∷ 17 ∷ 27 ∷ 35 ∷ []
other_columns = refl

blank_block : map (block_byte (small Eight true).mode true) (range_with_len 0 6)
    ≡ 0x11 ∷ 0xf0 ∷ 0x00 ∷ 0x11 ∷ 0xf0 ∷ 0x00 ∷ []
blank_block = refl

active_block : map (block_byte (small Eight true).mode false) (range_with_len 0 6)
    ≡ 0x10 ∷ 0xf0 ∷ 0x00 ∷ 0x10 ∷ 0xf0 ∷ 0x00 ∷ []
active_block = refl
