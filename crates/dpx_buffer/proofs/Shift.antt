-- Whole bytes do not depend on the lines before.
use Rattle.std.proofs.Common.{◌≡◌, ℕ, zero, suc, ◌<◌, ◌≤◌, ◌+◌, ◌-◌, ◌*◌, ◌/◌, ◌%◌, List, [], ◌∷◌, ◌++◌, length}
use Rattle.std.proofs.Common.{ap, arith, inl, inr, length-append}
use Rattle.std.proofs.lemmas.Bool.{cases_lt}
use Rattle.std.proofs.Math.Nat.{mul-add-div_right, mul-add-mod_self_right, div-add-mod, mod-lt, mul-le-mul_right}
use Rattle.dpx_base.specs.declared.pixel.Pixel.{Pixel}
use Rattle.dpx_base.specs.Lanes.{lanes_count}
use Rattle.dpx_base.specs.Plan.{timing}
use Rattle.dpx_base.specs.Timing.{Timing, IsPossible, symbols, floor_div}
use Rattle.dpx_buffer.specs.Buffer.{bytes_whole}
use Rattle.dpx_timing.proofs.Sizes.{plan_possible}
use Rattle.dpx_timing.proofs.Floors.{floor_rises}
use Rattle.dpx_buffer.specs.Lane.{lane_of, ring_capacity}
use Rattle.dpx_buffer.specs.Buffer.{BufferState, Holds, Reached, group_bits}
use Rattle.dpx_buffer.proofs.Whole.{whole_at, whole_line, part_few}
use Rattle.dpx_buffer.proofs.Room.{waiting_count}

pub whole_shift : (r : Timing) (i x : ℕ) → IsPossible r
    → bytes_whole r (i * r.width + x) ≡ i * symbols r + bytes_whole r x
unfolding bytes_whole
whole_shift r i x legal =
    rw (mul-add-div_right legal.width_from i x, mul-add-mod_self_right i r.width x) (omega arith)

whole_more : (r : Timing) (i a : ℕ) → IsPossible r → a < r.width
    → bytes_whole r (i * r.width + a) ≤ bytes_whole r (i * r.width + (a + 1))
whole_more r i a legal h = elim (cases_lt (a + 1) r.width) [
  | inl inside ↦
      let g : floor_div a r.lanes ≤ floor_div (a + 1) r.lanes =
      floor_rises a (a + 1) r.lanes legal.lanes_from (omega arith) in
      omega (
        arith,
        whole_at r i a h,
        whole_at r i (a + 1) inside,
        floor_rises (group_bits r a) (group_bits r (a + 1)) 8 (omega arith) (mul-le-mul_right r.bits g),
      )
  | inr ends ↦
      let e : i * r.width + (a + 1) ≡ (i + 1) * r.width = omega (arith, h, ends) in
      rw e (omega (arith, whole_at r i a h, whole_line r (i + 1) legal, part_few r a legal h))
]

whole_next : (r : Timing) (x : ℕ) → IsPossible r → bytes_whole r x ≤ bytes_whole r (x + 1)
whole_next r x legal =
    let e : x ≡ x / r.width * r.width + x % r.width = omega (arith, div-add-mod x r.width) in
    let f : x + 1 ≡ x / r.width * r.width + (x % r.width + 1) = omega (arith, e) in
    omega (
      arith,
      ap (bytes_whole r) e,
      ap (bytes_whole r) f,
      whole_more r (x / r.width) (x % r.width) legal (mod-lt x legal.width_from),
    )

pub whole_rises : (r : Timing) (x k : ℕ) → IsPossible r → bytes_whole r x ≤ bytes_whole r (x + k)
whole_rises r x zero legal = let e : x + 0 ≡ x = omega arith in rw e (omega arith)
whole_rises r x (suc k) legal =
    let e : x + suc k ≡ x + k + 1 = omega arith in
    rw e (omega (arith, whole_rises r x k legal, whole_next r (x + k) legal))

-- whole bytes of the pixels, and of the current line's
line_more : (b : BufferState) (pixels : List Pixel) (taken k : ℕ) → IsPossible (timing b.plan) → Holds pixels taken b
    → bytes_whole (timing b.plan) (length pixels + k) + bytes_whole (timing b.plan) b.column
    ≡ bytes_whole (timing b.plan) (length pixels) + bytes_whole (timing b.plan) (b.column + k)
line_more b pixels taken k legal h =
    let r : Timing = timing b.plan in
    let i : ℕ = length pixels / r.width in
    let e : length pixels ≡ i * r.width + b.column = omega (arith, h.column, div-add-mod (length pixels) r.width) in
    let f : length pixels + k ≡ i * r.width + (b.column + k) = omega (arith, e) in
    omega (
      arith,
      ap (bytes_whole r) e,
      ap (bytes_whole r) f,
      whole_shift r i b.column legal,
      whole_shift r i (b.column + k) legal,
    )

-- room, as the buffer's state shows it
pub room_seen : (b : BufferState) (pixels : List Pixel) (taken k : ℕ) → IsPossible (timing b.plan)
    → Holds pixels taken b
    → ((lane : ℕ) → lane < lanes_count b.plan.link.lanes → length (lane_of b.lanes lane).waiting
    + (bytes_whole (timing b.plan) (b.column + k) - bytes_whole (timing b.plan) b.column) ≤ ring_capacity)
    → bytes_whole (timing b.plan) (length pixels + k) ≤ taken + ring_capacity
room_seen b pixels taken k legal h room =
    omega (
      arith,
      room 0 legal.lanes_from,
      waiting_count b pixels taken 0 h legal.lanes_from,
      line_more b pixels taken k legal h,
      whole_rises (timing b.plan) b.column k legal,
    )

pub room_shown : (b : BufferState) (pixels : List Pixel) (taken k : ℕ) → IsPossible (timing b.plan)
    → Holds pixels taken b
    → bytes_whole (timing b.plan) (length pixels + k) ≤ taken + ring_capacity
    → (lane : ℕ) → lane < lanes_count b.plan.link.lanes
    → length (lane_of b.lanes lane).waiting + (bytes_whole (timing b.plan) (b.column + k) - bytes_whole
    (timing b.plan) b.column) ≤ ring_capacity
room_shown b pixels taken k legal h room lane few =
    omega (
      arith,
      room,
      waiting_count b pixels taken lane h few,
      line_more b pixels taken k legal h,
      whole_rises (timing b.plan) b.column k legal,
    )

-- room for so many pixels, whatever list the buffer holds
abbrev pub RoomFor : BufferState → ℕ → Type 0
RoomFor b left =
    (pixels : List Pixel) (taken : ℕ) → Holds pixels taken b → bytes_whole (timing b.plan) (length pixels + left)
    ≤ taken + ring_capacity

pub first_room : (b : BufferState) (left : ℕ) → Reached b → 0 < left → RoomFor b left → RoomFor b 1
first_room b left reached some room = λ pixels taken h.
    let e : length pixels + left ≡ length pixels + 1 + (left - 1) = omega (arith, some) in
    omega (
      arith,
      room pixels taken h,
      ap (bytes_whole (timing b.plan)) e,
      whole_rises (timing b.plan) (length pixels + 1) (left - 1) (plan_possible b.plan reached.planned),
    )

pub room_left : (b after : BufferState) (q : Pixel) (left : ℕ) → Reached b → after.plan ≡ b.plan → 0 < left
    → RoomFor b left
    → ((pixels : List Pixel) (taken : ℕ) → Holds pixels taken b → Holds (pixels ++ q ∷ []) taken after)
    → RoomFor after (left - 1)
room_left b after q left reached same some room holds = λ pixels taken h.
    let possible : IsPossible (timing after.plan) = rw same (plan_possible b.plan reached.planned) in
    let e : length (reached.pixels ++ q ∷ []) + (left - 1) ≡ length reached.pixels + left =
    omega (arith, some, length-append reached.pixels (q ∷ [])) in
    let was : bytes_whole (timing after.plan) (length (reached.pixels ++ q ∷ []) + (left - 1)) ≤ reached.taken
    + ring_capacity =
    rw (same, e) (room reached.pixels reached.taken reached.holds) in
    room_seen after pixels taken (left - 1) possible h
    (room_shown after (reached.pixels ++ q ∷ []) reached.taken (left - 1) possible
    (holds reached.pixels reached.taken reached.holds) was)
