-- A buffer after a further pixel.
use Rattle.std.proofs.Common.{◌≡◌, ℕ, ◌<◌, ◌≤◌, ◌+◌, ◌-◌, ◌*◌, ◌/◌, ◌%◌, List, [], ◌∷◌, ◌++◌, length, refl}
use Rattle.std.proofs.Common.{sym, ap, arith, ◌∙◌, drop, slice_index_or, append_assoc}
use Rattle.std.proofs.Common.{length-append}
use Rattle.std.proofs.lemmas.List.{get_or-drop, drop-append-le, length-drop, drop_all}
use Rattle.std.proofs.lemmas.Nat.{div-mul-add, mod-mul-add}
use Rattle.std.proofs.Math.Nat.{div-add-mod, mod-lt}
use Rattle.dpx_base.specs.declared.pixel.Pixel.{Pixel}
use Rattle.dpx_base.specs.Lanes.{lanes_count}
use Rattle.dpx_base.specs.Mode.{depth_bits}
use Rattle.dpx_base.specs.Packing.{line_bit}
use Rattle.dpx_base.specs.Plan.{timing}
use Rattle.dpx_base.specs.Sets.{black}
use Rattle.dpx_base.specs.Timing.{Timing, IsPossible, symbols, floor_div, ceil_div}
use Rattle.dpx_buffer.specs.Buffer.{bytes_whole}
use Rattle.dpx_timing.proofs.Floors.{floor_low, floor_high, floor_is, ceil_high, ceil_low}
use Rattle.dpx_pack.specs.Bits.{bits_of_pixel, padding}
use Rattle.dpx_pack.specs.Positions.{span}
use Rattle.dpx_pack.proofs.Places.{byte_at}
use Rattle.dpx_pack.proofs.Spans.{span-append, span-same, span-none, length-span}
use Rattle.dpx_buffer.specs.Lane.{LaneState, Packs, lane_of}
use Rattle.dpx_buffer.specs.Buffer.{BufferState, Holds, line_in, lane_byte, group_bits, open_bits}
use Rattle.dpx_buffer.proofs.Packed.{IsBehind, comes_behind}
use Rattle.dpx_buffer.proofs.Whole.{is_whole, whole_at, whole_line, line_bytes, part_few}
use Rattle.dpx_buffer.proofs.Stable.{bit_stable, group_inside, byte_stable}
use Rattle.dpx_buffer.proofs.Absorbed.{waiting_on, pixel_placed, no_bit, span-zero}

-- where a buffer stands: line i, a pixels of it, g whole groups
pub record IsAt (b : BufferState) (pixels : List Pixel) (i a g : ℕ) : Type 0 where
  pub count : length pixels ≡ i * b.plan.mode.width + a
  pub few : a < b.plan.mode.width
  pub column : b.column ≡ a
  pub groups : floor_div a (lanes_count b.plan.link.lanes) ≡ g
  pub low : lanes_count b.plan.link.lanes * g ≤ a
  pub high : a < lanes_count b.plan.link.lanes * g + lanes_count b.plan.link.lanes
  pub group_count : lanes_count b.plan.link.lanes * g + length b.group ≡ a
  pub group : b.group ≡ drop (i * b.plan.mode.width + lanes_count b.plan.link.lanes * g) pixels

floor_of : (a d : ℕ) → floor_div a d ≡ a / d
unfolding floor_div
floor_of a d = refl

pub is_at : (b : BufferState) (pixels : List Pixel) (taken : ℕ) → IsPossible (timing b.plan) → Holds pixels taken b
    → IsAt b pixels (length pixels / b.plan.mode.width) (length pixels % b.plan.mode.width)
    (floor_div (length pixels % b.plan.mode.width) (lanes_count b.plan.link.lanes))
is_at b pixels taken legal h =
    let w : ℕ = b.plan.mode.width in
    let l : ℕ = lanes_count b.plan.link.lanes in
    let n : ℕ = length pixels in
    let a : ℕ = n % w in
    let g : ℕ = floor_div a l in
    let count : n ≡ n / w * w + a = omega (arith, div-add-mod n w) in
    let rest : a ≡ l * g + a % l = omega (arith, div-add-mod a l, ap (λ z. l * z) (floor_of a l)) in
    let mod_is : b.column % l ≡ a % l = ap (λ z. z % l) h.column in
    let from : n - b.column % l ≡ n / w * w + l * g = omega (arith, count, rest, mod_is) in
    let at : b.group ≡ drop (n / w * w + l * g) pixels = h.group ∙ ap (λ z. drop z pixels) from in
    let many : length (drop (n / w * w + l * g) pixels) ≡ n - (n / w * w + l * g) =
    length-drop (n / w * w + l * g) pixels in
    record {
      count = count;
      few = mod-lt n legal.width_from;
      column = h.column;
      groups = refl;
      low = floor_low a l;
      high = omega (arith, floor_high a l legal.lanes_from);
      group_count = omega (arith, count, rest, ap length at, many);
      group = at;
    }

-- the whole bytes so far
pub whole_now : (b : BufferState) (pixels : List Pixel) (i a g : ℕ) → IsAt b pixels i a g
    → bytes_whole (timing b.plan) (length pixels) ≡ i * symbols (timing b.plan)
    + floor_div (group_bits (timing b.plan) a) 8
whole_now b pixels i a g at = ap (bytes_whole (timing b.plan)) at.count ∙ whole_at (timing b.plan) i a at.few

one_longer : (pixels : List Pixel) (q : Pixel) → length (pixels ++ q ∷ []) ≡ length pixels + 1
one_longer pixels q = length-append pixels (q ∷ [])

-- the group with the new pixel
group_grows : (b : BufferState) (pixels : List Pixel) (q : Pixel) (i a g : ℕ) → IsAt b pixels i a g
    → b.group ++ q ∷ [] ≡ drop (i * b.plan.mode.width + lanes_count b.plan.link.lanes * g) (pixels ++ q ∷ [])
group_grows b pixels q i a g at =
    ap (λ xs. xs ++ q ∷ []) at.group
    ∙ sym (drop-append-le (i * b.plan.mode.width + lanes_count b.plan.link.lanes * g) pixels (q ∷ [])
    (omega (arith, at.count, at.low)))

line_now : (b : BufferState) (pixels : List Pixel) (i a g : ℕ) → IsAt b pixels i a g
    → length pixels / b.plan.mode.width ≡ i
line_now b pixels i a g at = ap (λ n. n / b.plan.mode.width) at.count ∙ div-mul-add i b.plan.mode.width a at.few

-- the bits that a lane holds
pub held_bits : (b : BufferState) (pixels : List Pixel) (taken i a g lane : ℕ) → Holds pixels taken b
    → IsAt b pixels i a g → lane < lanes_count b.plan.link.lanes
    → (lane_of b.lanes lane).bits ≡ open_bits b.plan pixels i lane (group_bits (timing b.plan) a)
held_bits b pixels taken i a g lane h at few =
    h.bits lane few
    ∙ (ap (λ z. open_bits b.plan pixels z lane (group_bits (timing b.plan) b.column)) (line_now b pixels i a g at)
    ∙ ap (λ z. open_bits b.plan pixels i lane (group_bits (timing b.plan) z)) at.column)

pub bits_stay : (b : BufferState) (pixels more : List Pixel) (i a lane : ℕ) → IsPossible (timing b.plan)
    → lane < lanes_count b.plan.link.lanes
    → length pixels ≡ i * b.plan.mode.width + a
    → open_bits b.plan pixels i lane (group_bits (timing b.plan) a)
    ≡ open_bits b.plan (pixels ++ more) i lane (group_bits (timing b.plan) a)
bits_stay b pixels more i a lane legal few count =
    let bits : ℕ = group_bits (timing b.plan) a in
    span-same (line_bit (line_in b.plan pixels i) lane) (line_bit (line_in b.plan (pixels ++ more) i) lane)
    (8 * floor_div bits 8) (8 * floor_div bits 8)
    (bits - 8 * floor_div bits 8)
    (λ k small. sym (bit_stable b.plan pixels more i lane (8 * floor_div bits 8 + k)
    (λ inside. omega (
      arith,
      count,
      group_inside b.plan lane (8 * floor_div bits 8 + k) a legal few
          (omega (arith, small)),
    ))))

bits_there : (b : BufferState) (pixels : List Pixel) (i a lane : ℕ) → length pixels / b.plan.mode.width ≡ i
    → b.column + 1 ≡ a
    → open_bits b.plan pixels i lane (group_bits (timing b.plan) a)
    ≡ open_bits b.plan pixels (length pixels / b.plan.mode.width) lane (group_bits (timing b.plan) (b.column + 1))
bits_there b pixels i a lane line column =
    ap (λ z. open_bits b.plan pixels z lane (group_bits (timing b.plan) a)) (sym line)
    ∙ ap (λ z. open_bits b.plan pixels (length pixels / b.plan.mode.width) lane (group_bits (timing b.plan) z))
    (sym column)

-- a pixel that fills no group
pub next_open : (b : BufferState) (pixels : List Pixel) (q : Pixel) (taken i a g : ℕ) → IsPossible (timing b.plan)
    → Holds pixels taken b
    → IsAt b pixels i a g → a + 1 < b.plan.mode.width → length b.group + 1 < lanes_count b.plan.link.lanes
    → Holds (pixels ++ q ∷ []) taken (record b { group = b.group ++ q ∷ []; column = b.column + 1 })
next_open b pixels q taken i a g legal h at inside open_ =
    let w : ℕ = b.plan.mode.width in
    let l : ℕ = lanes_count b.plan.link.lanes in
    let r : Timing = timing b.plan in
    let longer : length (pixels ++ q ∷ []) ≡ i * w + (a + 1) = omega (arith, one_longer pixels q, at.count) in
    let line : length (pixels ++ q ∷ []) / w ≡ i = ap (λ n. n / w) longer ∙ div-mul-add i w (a + 1) inside in
    let column : b.column + 1 ≡ length (pixels ++ q ∷ []) % w =
    omega (arith, at.column, ap (λ n. n % w) longer ∙ mod-mul-add i w (a + 1) inside) in
    let groups : floor_div (a + 1) l ≡ g =
    floor_is (a + 1) l g (omega (arith, at.low)) (omega (arith, at.group_count, open_)) in
    let bits : group_bits r (a + 1) ≡ group_bits r a = ap (λ z. z * r.bits) (groups ∙ sym at.groups) in
    let split : b.column + 1 ≡ g * l + (length b.group + 1) = omega (arith, at.column, at.group_count) in
    let rest : (b.column + 1) % l ≡ length b.group + 1 =
    ap (λ z. z % l) split ∙ mod-mul-add g l (length b.group + 1) open_ in
    let from : length (pixels ++ q ∷ []) - (b.column + 1) % l ≡ i * w + l * g =
    omega (arith, longer, rest, at.group_count) in
    let whole : bytes_whole r (length (pixels ++ q ∷ [])) ≡ bytes_whole r (length pixels) =
    ap (bytes_whole r) longer ∙ (whole_at r i (a + 1) inside
    ∙ (ap (λ z. i * symbols r + floor_div z 8) bits ∙ sym (whole_now b pixels i a g at))) in
    record {
      lanes = h.lanes;
      column = column;
      group = group_grows b pixels q i a g at ∙ ap (λ z. drop z (pixels ++ q ∷ [])) (sym from);
      taken_few = rw whole h.taken_few;
      waiting = λ lane few. h.waiting lane few
          ∙ (span-same (lane_byte b.plan pixels lane) (lane_byte b.plan (pixels ++ q ∷ []) lane) taken taken
          (bytes_whole r (length pixels) - taken)
          (λ k small. sym (byte_stable b.plan pixels (q ∷ []) lane (taken + k) legal few (omega (arith, small))))
          ∙ ap (λ z. span (lane_byte b.plan (pixels ++ q ∷ []) lane) taken (z - taken)) (sym whole));
      bits = λ lane few. held_bits b pixels taken i a g lane h at few
          ∙ (bits_stay b pixels (q ∷ []) i a lane legal few at.count
          ∙ (ap (open_bits b.plan (pixels ++ q ∷ []) i lane) (sym bits)
          ∙ bits_there b (pixels ++ q ∷ []) i (a + 1) lane line (omega (arith, at.column))));
    }

-- a lane's pixel of the group that is packed
pub lane_pixel : (b : BufferState) (pixels : List Pixel) (q : Pixel) (i a g lane : ℕ) → IsPossible (timing b.plan)
    → 1 ≤ depth_bits b.plan.mode.depth
    → IsAt b pixels i a g
    → bits_of_pixel (depth_bits b.plan.mode.depth) (slice_index_or (b.group ++ q ∷ []) lane black)
    ≡ span (line_bit (line_in b.plan (pixels ++ q ∷ []) i) lane) (group_bits (timing b.plan) a)
    (3 * depth_bits b.plan.mode.depth)
lane_pixel b pixels q i a g lane legal pos at =
    let w : ℕ = b.plan.mode.width in
    let l : ℕ = lanes_count b.plan.link.lanes in
    let c : ℕ = depth_bits b.plan.mode.depth in
    let place : slice_index_or (b.group ++ q ∷ []) lane black
    ≡ slice_index_or (pixels ++ q ∷ []) (i * w + (lane + l * g)) black =
    ap (λ xs. slice_index_or xs lane black) (group_grows b pixels q i a g at)
    ∙ (get_or-drop (i * w + l * g) (pixels ++ q ∷ []) lane black
    ∙ ap (λ z. slice_index_or (pixels ++ q ∷ []) z black) (omega arith)) in
    ap (bits_of_pixel c) place
    ∙ (pixel_placed b.plan (pixels ++ q ∷ []) i lane g legal pos (omega (arith, one_longer pixels q, at.count, at.few))
    ∙ ap (λ z. span (line_bit (line_in b.plan (pixels ++ q ∷ []) i) lane) z (3 * c))
    (ap (λ z. z * (3 * c)) (sym at.groups)))

-- a lane onto which a group's pixel was packed
pub lane_packs : (b : BufferState) (pixels : List Pixel) (q : Pixel) (taken i a g lane : ℕ) (after : LaneState)
    → IsPossible (timing b.plan)
    → 1 ≤ depth_bits b.plan.mode.depth → Holds pixels taken b → IsAt b pixels i a g → lane < lanes_count b.plan.link.lanes
    → Packs (bits_of_pixel (depth_bits b.plan.mode.depth) (slice_index_or (b.group ++ q ∷ []) lane black))
    (lane_of b.lanes lane) after
    → IsBehind (line_bit (line_in b.plan (pixels ++ q ∷ []) i) lane) (floor_div (group_bits (timing b.plan) a) 8)
    (floor_div (group_bits (timing b.plan) a + 3 * depth_bits b.plan.mode.depth) 8)
    (group_bits (timing b.plan) a + 3 * depth_bits b.plan.mode.depth)
    (lane_of b.lanes lane) after
lane_packs b pixels q taken i a g lane after legal pos h at few packs =
    let bits : ℕ = group_bits (timing b.plan) a in
    comes_behind (line_bit (line_in b.plan (pixels ++ q ∷ []) i) lane) (floor_div bits 8)
    (floor_div (bits + 3 * depth_bits b.plan.mode.depth) 8) bits
    (3 * depth_bits b.plan.mode.depth) (bits_of_pixel (depth_bits b.plan.mode.depth)
    (slice_index_or (b.group ++ q ∷ []) lane black)) (lane_of b.lanes lane) after packs
    (floor_low bits 8) (is_whole (bits + 3 * depth_bits b.plan.mode.depth))
    (held_bits b pixels taken i a g lane h at few ∙ bits_stay b pixels (q ∷ []) i a lane legal few at.count)
    (lane_pixel b pixels q i a g lane legal pos at)

-- the group with its last pixel was packed
abbrev pub PacksGroup : BufferState → Pixel → (after : List LaneState) → Type 0
PacksGroup b q after =
    (lane : ℕ) → lane < length b.lanes
    → Packs (bits_of_pixel (depth_bits b.plan.mode.depth) (slice_index_or (b.group ++ q ∷ []) lane black))
    (lane_of b.lanes lane) (lane_of after lane)

-- the line was ended on each lane
abbrev pub FinishesLines : (before after : List LaneState) → Type 0
FinishesLines before after =
    (lane : ℕ) → lane < length before
    → Packs (padding (lane_of before lane).bits) (lane_of before lane) (lane_of after lane)

-- a pixel that fills a group
pub next_group : (b : BufferState) (pixels : List Pixel) (q : Pixel) (taken i a g : ℕ) (lanes : List LaneState)
    → IsPossible (timing b.plan)
    → 1 ≤ depth_bits b.plan.mode.depth → Holds pixels taken b → IsAt b pixels i a g → a + 1 < b.plan.mode.width
    → length b.group + 1 ≡ lanes_count b.plan.link.lanes
    → length lanes ≡ length b.lanes
    → PacksGroup b q lanes
    → Holds (pixels ++ q ∷ []) taken (record b { lanes = lanes; group = []; column = b.column + 1 })
next_group b pixels q taken i a g lanes legal pos h at inside full same packs =
    let w : ℕ = b.plan.mode.width in
    let l : ℕ = lanes_count b.plan.link.lanes in
    let r : Timing = timing b.plan in
    let bits : ℕ = group_bits r a in
    let from : ℕ = floor_div bits 8 in
    let to : ℕ = floor_div (bits + 3 * depth_bits b.plan.mode.depth) 8 in
    let longer : length (pixels ++ q ∷ []) ≡ i * w + (a + 1) = omega (arith, one_longer pixels q, at.count) in
    let line : length (pixels ++ q ∷ []) / w ≡ i = ap (λ n. n / w) longer ∙ div-mul-add i w (a + 1) inside in
    let column : b.column + 1 ≡ length (pixels ++ q ∷ []) % w =
    omega (arith, at.column, ap (λ n. n % w) longer ∙ mod-mul-add i w (a + 1) inside) in
    let groups : floor_div (a + 1) l ≡ g + 1 =
    floor_is (a + 1) l (g + 1) (omega (arith, at.group_count, full))
    (omega (arith, at.group_count, full, legal.lanes_from)) in
    let more : group_bits r (a + 1) ≡ bits + 3 * depth_bits b.plan.mode.depth =
    ap (λ z. z * r.bits) groups ∙ omega (arith, ap (λ z. z * r.bits) at.groups) in
    let split : b.column + 1 ≡ (g + 1) * l + 0 = omega (arith, at.column, at.group_count, full) in
    let rest : (b.column + 1) % l ≡ 0 = ap (λ z. z % l) split ∙ mod-mul-add (g + 1) l 0 legal.lanes_from in
    let whole : bytes_whole r (length (pixels ++ q ∷ [])) ≡ i * symbols r + to =
    ap (bytes_whole r) longer ∙ (whole_at r i (a + 1) inside ∙ ap (λ z. i * symbols r + floor_div z 8) more) in
    let most : to ≤ symbols r = omega (arith, part_few r (a + 1) legal inside, ap (λ z. floor_div z 8) more) in
    let behind : (lane : ℕ) → lane < l → IsBehind (line_bit (line_in b.plan (pixels ++ q ∷ []) i) lane) from to
    (bits + 3 * depth_bits b.plan.mode.depth) (lane_of b.lanes lane) (lane_of lanes lane) =
    λ lane few. lane_packs b pixels q taken i a g lane (lane_of lanes lane) legal pos h at few
    (packs lane (omega (arith, few, h.lanes))) in
    let up : from ≤ to = (behind 0 legal.lanes_from).few in
    record {
      lanes = same ∙ h.lanes;
      column = column;
      group = sym (drop_all (length (pixels ++ q ∷ []) - (b.column + 1) % l) (pixels ++ q ∷ []) (omega (arith, rest)));
      taken_few = omega (arith, h.taken_few, whole, whole_now b pixels i a g at, up);
      waiting = λ lane few. (behind lane few).waiting
          ∙ (ap (λ xs. xs ++ span (byte_at (line_bit (line_in b.plan (pixels ++ q ∷ []) i) lane)) from (to - from))
          (h.waiting lane few)
          ∙ (waiting_on b.plan pixels (q ∷ []) lane taken i from to legal few (whole_now b pixels i a g at) h.taken_few
          up most
          ∙ ap (λ z. span (lane_byte b.plan (pixels ++ q ∷ []) lane) taken (z - taken)) (sym whole)));
      bits = λ lane few. (behind lane few).left
          ∙ (ap (open_bits b.plan (pixels ++ q ∷ []) i lane) (sym more)
          ∙ bits_there b (pixels ++ q ∷ []) i (a + 1) lane line (omega (arith, at.column)));
    }

-- the zeros that end a line, by their places
pub padding_placed : (f : ℕ → ℕ) (bits : List ℕ) (all bytes : ℕ) → ((k : ℕ) → all ≤ k → f k ≡ 0)
    → length bits ≡ all - 8 * floor_div all 8
    → all ≤ 8 * bytes → 8 * bytes < all + 8 → padding bits ≡ span f all (8 * bytes - all)
padding_placed f [] all bytes past count high low =
    let e : 8 * bytes - all ≡ 0 = omega (arith, count, high, low, floor_low all 8, floor_high all 8 (omega arith)) in
    sym (ap (λ z. span f all z) e ∙ span-none f all)
padding_placed f (bit ∷ bits) all bytes past count high low =
    let e : 8 * bytes - all ≡ 7 - length bits =
    omega (arith, count, high, low, floor_low all 8, floor_high all 8 (omega arith)) in
    sym (ap (λ z. span f all z) e ∙ span-zero f all (7 - length bits) past)

pub no_group : (r : Timing) → IsPossible r → group_bits r 0 ≡ 0
no_group r legal =
    let g : floor_div 0 r.lanes ≡ 0 = floor_is 0 r.lanes 0 (omega arith) (omega (arith, legal.lanes_from)) in
    rw g (omega arith)

joins : (f : ℕ → ℕ) (x y z : ℕ) → x ≤ y → y ≤ z → span f x (y - x) ++ span f y (z - y) ≡ span f x (z - x)
joins f x y z h k =
    let at : x + (y - x) ≡ y = omega (arith, h) in
    let n : y - x + (z - y) ≡ z - x = omega (arith, h, k) in
    sym (ap (λ m. span f x m) (sym n) ∙ (span-append f x (y - x) (z - y)
    ∙ ap (λ m. span f x (y - x) ++ span f m (z - y)) at))

pub span_nil : (f : ℕ → ℕ) (a n : ℕ) → n ≡ 0 → span f a n ≡ []
span_nil f a n e = ap (λ m. span f a m) e ∙ span-none f a

pub zero_mod : (l : ℕ) → 1 ≤ l → 0 % l ≡ 0
zero_mod l h = omega (arith, mod-lt 0 h, div-add-mod 0 l)

-- a pixel that ends a line
pub next_line : (b : BufferState) (pixels : List Pixel) (q : Pixel) (taken i a g : ℕ) (middle lanes : List LaneState)
    → IsPossible (timing b.plan)
    → 1 ≤ depth_bits b.plan.mode.depth → Holds pixels taken b → IsAt b pixels i a g → a + 1 ≡ b.plan.mode.width
    → length middle ≡ length b.lanes
    → PacksGroup b q middle
    → length lanes ≡ length middle
    → FinishesLines middle lanes
    → Holds (pixels ++ q ∷ []) taken (record b { lanes = lanes; group = []; column = 0 })
next_line b pixels q taken i a g middle lanes legal pos h at ends same packs alike finishes =
    let w : ℕ = b.plan.mode.width in
    let l : ℕ = lanes_count b.plan.link.lanes in
    let r : Timing = timing b.plan in
    let bits : ℕ = group_bits r a in
    let all : ℕ = bits + 3 * depth_bits b.plan.mode.depth in
    let from : ℕ = floor_div bits 8 in
    let to : ℕ = floor_div all 8 in
    let s : ℕ = symbols r in
    let longer : length (pixels ++ q ∷ []) ≡ (i + 1) * w = omega (arith, one_longer pixels q, at.count, ends) in
    let longer_0 : length (pixels ++ q ∷ []) ≡ (i + 1) * w + 0 = omega (arith, longer) in
    let column : 0 ≡ length (pixels ++ q ∷ []) % w =
    sym (ap (λ n. n % w) longer_0 ∙ mod-mul-add (i + 1) w 0 legal.width_from) in
    let line : length (pixels ++ q ∷ []) / w ≡ i + 1 =
    ap (λ n. n / w) longer_0 ∙ div-mul-add (i + 1) w 0 legal.width_from in
    let more : (g + 1) * r.bits ≡ all = omega (arith, ap (λ z. z * r.bits) at.groups) in
    let s_is : s ≡ ceil_div all 8 =
    line_bytes r (g + 1) legal (omega (arith, ends, at.high)) (omega (arith, ends, at.low))
    ∙ ap (λ z. ceil_div z 8) more in
    let high : all ≤ 8 * s = omega (arith, ap (λ z. 8 * z) s_is, ceil_high all 8 (omega arith)) in
    let low : 8 * s < all + 8 = omega (arith, ap (λ z. 8 * z) s_is, ceil_low all 8 (omega arith)) in
    let whole : bytes_whole r (length (pixels ++ q ∷ [])) ≡ i * s + s =
    ap (bytes_whole r) longer ∙ (whole_line r (i + 1) legal ∙ omega arith) in
    let z : 0 % l ≡ 0 = zero_mod l legal.lanes_from in
    let none : group_bits r 0 ≡ 0 = no_group r legal in
    let past : (lane k : ℕ) → all ≤ k → line_bit (line_in b.plan (pixels ++ q ∷ []) i) lane k ≡ 0 =
    λ lane k h. no_bit b.plan (pixels ++ q ∷ []) i lane (g + 1) k legal (omega (arith, ends, at.high))
    (omega (arith, more, h)) in
    let first : (lane : ℕ) → lane < l → IsBehind (line_bit (line_in b.plan (pixels ++ q ∷ []) i) lane) from to all
    (lane_of b.lanes lane) (lane_of middle lane) =
    λ lane few. lane_packs b pixels q taken i a g lane (lane_of middle lane) legal pos h at few
    (packs lane (omega (arith, few, h.lanes))) in
    let second : (lane : ℕ) → lane < l → IsBehind (line_bit (line_in b.plan (pixels ++ q ∷ []) i) lane) to s
    (all + (8 * s - all)) (lane_of middle lane) (lane_of lanes lane) =
    λ lane few. comes_behind (line_bit (line_in b.plan (pixels ++ q ∷ []) i) lane) to s all (8 * s - all)
    (padding (lane_of middle lane).bits) (lane_of middle lane) (lane_of lanes lane)
    (finishes lane (omega (arith, few, h.lanes, same))) (floor_low all 8)
    (record { low = omega (arith, high); high = omega (arith, high) })
    (first lane few).left
    (padding_placed (line_bit (line_in b.plan (pixels ++ q ∷ []) i) lane) (lane_of middle lane).bits all s
    (past lane)
    (ap length (first lane few).left ∙ length-span (line_bit (line_in b.plan (pixels ++ q ∷ []) i) lane)
    (8 * to) (all - 8 * to)) high low) in
    let up : from ≤ to = (first 0 legal.lanes_from).few in
    let up_2 : to ≤ s = (second 0 legal.lanes_from).few in
    record {
      lanes = alike ∙ (same ∙ h.lanes);
      column = column;
      group = sym (drop_all (length (pixels ++ q ∷ []) - 0 % l) (pixels ++ q ∷ []) (omega (arith, z)));
      taken_few = omega (arith, h.taken_few, whole, whole_now b pixels i a g at, up, up_2);
      waiting = λ lane few.
          (second lane few).waiting
          ∙ (ap (λ xs. xs ++ span (byte_at (line_bit (line_in b.plan (pixels ++ q ∷ []) i) lane)) to (s - to))
          ((first lane few).waiting)
          ∙ (append_assoc (lane_of b.lanes lane).waiting
          (span (byte_at (line_bit (line_in b.plan (pixels ++ q ∷ []) i) lane)) from (to - from))
          (span (byte_at (line_bit (line_in b.plan (pixels ++ q ∷ []) i) lane)) to (s - to))
          ∙ (ap (λ xs. (lane_of b.lanes lane).waiting ++ xs)
          (joins (byte_at (line_bit (line_in b.plan (pixels ++ q ∷ []) i) lane)) from to s up up_2)
          ∙ (ap (λ xs. xs ++ span (byte_at (line_bit (line_in b.plan (pixels ++ q ∷ []) i) lane)) from (s - from))
          (h.waiting lane few)
          ∙ (waiting_on b.plan pixels (q ∷ []) lane taken i from s legal few (whole_now b pixels i a g at) h.taken_few
          (omega (arith, up, up_2)) (omega arith)
          ∙ ap (λ z. span (lane_byte b.plan (pixels ++ q ∷ []) lane) taken (z - taken)) (sym whole))))));
      bits = λ lane few. (second lane few).left
          ∙ (span_nil (line_bit (line_in b.plan (pixels ++ q ∷ []) i) lane) (8 * s) (all + (8 * s - all) - 8 * s)
          (omega (arith, high))
          ∙ sym (span_nil (line_bit (line_in b.plan (pixels ++ q ∷ []) (length (pixels ++ q ∷ []) / w)) lane)
          (8 * floor_div (group_bits r 0) 8)
          (group_bits r 0 - 8 * floor_div (group_bits r 0) 8) (omega (arith, none))));
    }
