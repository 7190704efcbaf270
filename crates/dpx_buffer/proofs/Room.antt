-- What a further pixel needs, and what it leaves.
use Rattle.std.proofs.Common.{◌≡◌, ℕ, ◌<◌, ◌≤◌, ◌+◌, ◌-◌, ◌*◌, ◌/◌, ◌%◌, List, [], ◌∷◌, ◌++◌, length}
use Rattle.std.proofs.Common.{ap, arith, ◌∙◌, slice_index_or, inl, inr, All, length-append}
use Rattle.std.proofs.lemmas.Bool.{cases_lt, cases_order}
use Rattle.std.proofs.Math.ListN.{get_or-eq_default}
use Rattle.std.proofs.lemmas.List.Elements.{All-append, All-replicate, All-drop}
use Rattle.std.proofs.lemmas.Nat.{pow_pos}
use Rattle.std.proofs.Math.Nat.{mod-lt}
use Rattle.dpx_base.specs.declared.pixel.Pixel.{Pixel}
use Rattle.dpx_base.specs.declared.depth.Depth.{Depth}
use Rattle.dpx_base.specs.declared.depth.Depth.TheVariants.{Six, Eight, Ten, Twelve, Sixteen}
use Rattle.dpx_base.specs.Lanes.{lanes_count}
use Rattle.dpx_base.specs.Mode.{depth_bits}
use Rattle.dpx_base.specs.Packing.{line_bit}
use Rattle.dpx_base.specs.Plan.{timing}
use Rattle.dpx_base.specs.Sets.{black}
use Rattle.dpx_base.specs.Timing.{Timing, IsPossible, symbols, floor_div, ceil_div}
use Rattle.dpx_buffer.specs.Buffer.{bytes_whole}
use Rattle.dpx_timing.proofs.Sizes.{plan_possible}
use Rattle.dpx_timing.proofs.Floors.{floor_low, floor_high, floor_is, ceil_high}
use Rattle.dpx_pack.specs.Positions.{span}
use Rattle.dpx_pack.proofs.Places.{byte_at}
use Rattle.dpx_pack.proofs.Spans.{length-span}
use Rattle.dpx_buffer.specs.Lane.{LaneState, HasRoomFor, HasRoomToFinish, lane_of, ring_capacity}
use Rattle.dpx_base.specs.Unpacking.{InRange}
use Rattle.dpx_buffer.specs.Buffer.{BufferState, Holds, Reached, line_in, lane_byte, group_bits}
use Rattle.dpx_buffer.proofs.Whole.{whole_at, whole_line, line_bytes}
use Rattle.dpx_buffer.proofs.Next.{PacksGroup, IsAt, is_at, whole_now, held_bits, lane_packs}

pub depth_pos : (d : Depth) → 1 ≤ depth_bits d
depth_pos Six = omega arith
depth_pos Eight = omega arith
depth_pos Ten = omega arith
depth_pos Twelve = omega arith
depth_pos Sixteen = omega arith

-- a buffer that has room for a pixel
pub record CanTake (b : BufferState) (q : Pixel) : Type 0 where
  pub reached : Reached b
  pub possible : IsPossible (timing b.plan)
  pub range : InRange (depth_bits b.plan.mode.depth) q
  pub room : (pixels : List Pixel) (taken : ℕ) → Holds pixels taken b
      → bytes_whole (timing b.plan) (length pixels + 1) ≤ taken + ring_capacity

black_range : (c : ℕ) → InRange c black
black_range c = record { r = pow_pos c; g = pow_pos c; b = pow_pos c }

range_at : (c : ℕ) (xs : List Pixel) (l : ℕ) → All (InRange c) xs → InRange c (slice_index_or xs l black)
range_at c xs l all = elim (cases_lt l (length xs)) [
  | inl inside ↦ all l black inside
  | inr past ↦ rw (get_or-eq_default xs black past) (black_range c)
]

pub push_range : (b : BufferState) (q : Pixel) → CanTake b q → (l : ℕ) → l < length b.lanes
    → InRange (depth_bits b.plan.mode.depth) (slice_index_or (b.group ++ q ∷ []) l black)
push_range b q f l few =
    let c : ℕ = depth_bits b.plan.mode.depth in
    let group : All (InRange c) b.group =
    rw f.reached.holds.group (All-drop (InRange c) (length f.reached.pixels - b.column % lanes_count b.plan.link.lanes)
    f.reached.pixels f.reached.in_range) in
    range_at c (b.group ++ q ∷ []) l (All-append (InRange c) b.group (q ∷ []) group
    (All-replicate (InRange c) 1 q f.range))

-- whole bytes when a group is full
pub group_whole : (b : BufferState) (pixels : List Pixel) (i a g : ℕ) → IsPossible (timing b.plan)
    → IsAt b pixels i a g → a + 1 < b.plan.mode.width
    → length b.group + 1 ≡ lanes_count b.plan.link.lanes
    → bytes_whole (timing b.plan) (length pixels + 1) ≡ i * symbols (timing b.plan)
    + floor_div (group_bits (timing b.plan) a + 3 * depth_bits b.plan.mode.depth) 8
group_whole b pixels i a g legal at inside full =
    let l : ℕ = lanes_count b.plan.link.lanes in
    let r : Timing = timing b.plan in
    let longer : length pixels + 1 ≡ i * b.plan.mode.width + (a + 1) = omega (arith, at.count) in
    let groups : floor_div (a + 1) l ≡ g + 1 =
    floor_is (a + 1) l (g + 1) (omega (arith, at.group_count, full))
    (omega (arith, at.group_count, full, legal.lanes_from)) in
    let more : group_bits r (a + 1) ≡ group_bits r a + 3 * depth_bits b.plan.mode.depth =
    ap (λ z. z * r.bits) groups ∙ omega (arith, ap (λ z. z * r.bits) at.groups) in
    ap (bytes_whole r) longer ∙ (whole_at r i (a + 1) inside ∙ ap (λ z. i * symbols r + floor_div z 8) more)

pub record IsEnd (b : BufferState) (pixels : List Pixel) (i a : ℕ) : Type 0 where
  pub whole : bytes_whole (timing b.plan) (length pixels + 1) ≡ i * symbols (timing b.plan) + symbols (timing b.plan)
  pub high : group_bits (timing b.plan) a + 3 * depth_bits b.plan.mode.depth ≤ 8 * symbols (timing b.plan)

pub line_whole : (b : BufferState) (pixels : List Pixel) (i a g : ℕ) → IsPossible (timing b.plan)
    → IsAt b pixels i a g → a + 1 ≡ b.plan.mode.width
    → IsEnd b pixels i a
line_whole b pixels i a g legal at ends =
    let r : Timing = timing b.plan in
    let all : ℕ = group_bits r a + 3 * depth_bits b.plan.mode.depth in
    let longer : length pixels + 1 ≡ (i + 1) * b.plan.mode.width = omega (arith, at.count, ends) in
    let more : (g + 1) * r.bits ≡ all = omega (arith, ap (λ z. z * r.bits) at.groups) in
    let s_is : symbols r ≡ ceil_div all 8 =
    line_bytes r (g + 1) legal (omega (arith, ends, at.high)) (omega (arith, ends, at.low))
    ∙ ap (λ z. ceil_div z 8) more in
    record {
      whole = ap (bytes_whole r) longer ∙ (whole_line r (i + 1) legal ∙ omega arith);
      high = omega (arith, ap (λ z. 8 * z) s_is, ceil_high all 8 (omega arith));
    }

pub waiting_count : (b : BufferState) (pixels : List Pixel) (taken lane : ℕ) → Holds pixels taken b
    → lane < lanes_count b.plan.link.lanes
    → length (lane_of b.lanes lane).waiting + taken ≡ bytes_whole (timing b.plan) (length pixels)
waiting_count b pixels taken lane h few =
    omega (
      arith,
      h.taken_few,
      ap length (h.waiting lane few),
      length-span (lane_byte b.plan pixels lane) taken (bytes_whole (timing b.plan) (length pixels) - taken),
    )

bits_count : (b : BufferState) (pixels : List Pixel) (taken i a g lane : ℕ) → Holds pixels taken b
    → IsAt b pixels i a g → lane < lanes_count b.plan.link.lanes
    → length (lane_of b.lanes lane).bits + 8 * floor_div (group_bits (timing b.plan) a) 8
    ≡ group_bits (timing b.plan) a
bits_count b pixels taken i a g lane h at few =
    let bits : ℕ = group_bits (timing b.plan) a in
    omega (
      arith,
      floor_low bits 8,
      ap length (held_bits b pixels taken i a g lane h at few),
      length-span (line_bit (line_in b.plan pixels i) lane) (8 * floor_div bits 8) (bits - 8 * floor_div bits 8),
    )

room_at : (b : BufferState) (pixels : List Pixel) (taken i a g top lane : ℕ) → Holds pixels taken b
    → IsAt b pixels i a g
    → bytes_whole (timing b.plan) (length pixels + 1) ≡ i * symbols (timing b.plan) + top
    → group_bits (timing b.plan) a + 3 * depth_bits b.plan.mode.depth < 8 * top + 8
    → bytes_whole (timing b.plan) (length pixels + 1) ≤ taken + ring_capacity → lane < lanes_count b.plan.link.lanes
    → HasRoomFor (3 * depth_bits b.plan.mode.depth) (lane_of b.lanes lane)
room_at b pixels taken i a g top lane h at whole high room few =
    omega (
      arith,
      whole,
      high,
      room,
      waiting_count b pixels taken lane h few,
      bits_count b pixels taken i a g lane h at few,
      whole_now b pixels i a g at,
    )

-- the place of the pixels that were absorbed
pub reached_at : (b : BufferState) (q : Pixel) (f : CanTake b q)
    → IsAt b f.reached.pixels (length f.reached.pixels / b.plan.mode.width)
    (length f.reached.pixels % b.plan.mode.width)
    (floor_div (length f.reached.pixels % b.plan.mode.width) (lanes_count b.plan.link.lanes))
reached_at b q f = is_at b f.reached.pixels f.reached.taken f.possible f.reached.holds

pub group_room : (b : BufferState) (q : Pixel) → CanTake b q → b.column + 1 < b.plan.mode.width
    → length b.group + 1 ≡ lanes_count b.plan.link.lanes
    → (l : ℕ) → l < length b.lanes
    → HasRoomFor (3 * depth_bits b.plan.mode.depth) (lane_of b.lanes l)
group_room b q f inside full l few =
    let h : Holds f.reached.pixels f.reached.taken b = f.reached.holds in
    let at = reached_at b q f in
    let all : ℕ = group_bits (timing b.plan) (length f.reached.pixels % b.plan.mode.width)
    + 3 * depth_bits b.plan.mode.depth in
    room_at b f.reached.pixels f.reached.taken _ _ _ (floor_div all 8) l h at
    (group_whole b f.reached.pixels _ _ _ f.possible at (omega (arith, inside, at.column)) full)
    (floor_high all 8 (omega arith)) (f.room f.reached.pixels f.reached.taken h) (omega (arith, few, h.lanes))

pub line_room : (b : BufferState) (q : Pixel) → CanTake b q → b.column + 1 ≡ b.plan.mode.width
    → (l : ℕ) → l < length b.lanes
    → HasRoomFor (3 * depth_bits b.plan.mode.depth) (lane_of b.lanes l)
line_room b q f ends l few =
    let h : Holds f.reached.pixels f.reached.taken b = f.reached.holds in
    let at = reached_at b q f in
    let end_ = line_whole b f.reached.pixels _ _ _ f.possible at (omega (arith, ends, at.column)) in
    room_at b f.reached.pixels f.reached.taken _ _ _ (symbols (timing b.plan)) l h at end_.whole
    (omega (arith, end_.high))
    (f.room f.reached.pixels f.reached.taken h) (omega (arith, few, h.lanes))

-- and when the line ends, after its last group
pub finish_room : (b : BufferState) (q : Pixel) (middle : List LaneState) → CanTake b q
    → b.column + 1 ≡ b.plan.mode.width
    → length middle ≡ length b.lanes
    → PacksGroup b q middle
    → (l : ℕ) → l < length middle → HasRoomToFinish (lane_of middle l)
finish_room b q middle f ends same packs l few =
    let h : Holds f.reached.pixels f.reached.taken b = f.reached.holds in
    let at = reached_at b q f in
    let i : ℕ = length f.reached.pixels / b.plan.mode.width in
    let a : ℕ = length f.reached.pixels % b.plan.mode.width in
    let end_ = line_whole b f.reached.pixels _ _ _ f.possible at (omega (arith, ends, at.column)) in
    let lane : l < lanes_count b.plan.link.lanes = omega (arith, few, same, h.lanes) in
    let bits : ℕ = group_bits (timing b.plan) a in
    let all : ℕ = bits + 3 * depth_bits b.plan.mode.depth in
    let behind = lane_packs b f.reached.pixels q f.reached.taken i a _ l (lane_of middle l) f.possible
    (depth_pos b.plan.mode.depth) h at lane
    (packs l (omega (arith, few, same))) in
    let w : length (lane_of middle l).waiting ≡ length (lane_of b.lanes l).waiting
    + (floor_div all 8 - floor_div bits 8) =
    ap length behind.waiting ∙ omega (
      arith,
      length-append (lane_of b.lanes l).waiting
          (span (byte_at (line_bit (line_in b.plan (f.reached.pixels ++ q ∷ []) i) l)) (floor_div bits 8)
          (floor_div all 8 - floor_div bits 8)),
      length-span (byte_at (line_bit (line_in b.plan (f.reached.pixels ++ q ∷ []) i) l)) (floor_div bits 8)
          (floor_div all 8 - floor_div bits 8),
    ) in
    let k : length (lane_of middle l).bits ≡ all - 8 * floor_div all 8 =
    ap length behind.left ∙ length-span (line_bit (line_in b.plan (f.reached.pixels ++ q ∷ []) i) l)
    (8 * floor_div all 8) (all - 8 * floor_div all 8) in
    omega (
      arith,
      w,
      k,
      behind.few,
      end_.whole,
      end_.high,
      f.room f.reached.pixels f.reached.taken h,
      waiting_count b f.reached.pixels f.reached.taken l h lane,
      whole_now b f.reached.pixels i a _ at,
      floor_low all 8,
    )

-- a buffer that has room for a pixel, whatever list it stands for
pub has_room : {b now : BufferState} {q : Pixel} → b ≡ now → Reached b → InRange (depth_bits now.plan.mode.depth) q
    → ((pixels : List Pixel) (taken : ℕ) → Holds pixels taken now
    → bytes_whole (timing now.plan) (length pixels + 1) ≤ taken + ring_capacity)
    → CanTake b q
has_room {b = b} e reached range room =
    record { reached = reached; possible = plan_possible b.plan reached.planned; range = rw e range; room = rw e room }

pub holds_inside : {b now : BufferState} {pixels : List Pixel} {taken : ℕ} → b ≡ now → Holds pixels taken now
    → Holds pixels taken b
holds_inside e h = rw e h

pub inside_line : (b : BufferState) (w : ℕ) → Reached b → w ≡ b.plan.mode.width → (b.column + 1 ≡ w → ⊥)
    → b.column + 1 < b.plan.mode.width
inside_line b w reached is other = elim (cases_order (b.column + 1) w) [
  | inl same ↦ absurd (other same)
  | inr (inl less) ↦ omega (arith, less, is)
  | inr (inr more) ↦ absurd (omega (
    arith,
    more,
    is,
    reached.holds.column,
    mod-lt (length reached.pixels) (plan_possible b.plan reached.planned).width_from,
  ))
]

pub full_group : (b : BufferState) → Reached b → lanes_count b.plan.link.lanes ≤ length b.group + 1
    → length b.group + 1 ≡ lanes_count b.plan.link.lanes
full_group b reached h =
    let at = is_at b reached.pixels reached.taken (plan_possible b.plan reached.planned) reached.holds in
    omega (arith, h, at.high, at.group_count)
