-- A lane after a further pixel.
use Rattle.std.proofs.Common.{◌≡◌, ℕ, zero, suc, ◌<◌, ◌≤◌, ◌+◌, ◌-◌, ◌*◌, ◌/◌, ◌%◌, List, ◌∷◌, ◌++◌, length, refl}
use Rattle.std.proofs.Common.{sym, ap, arith, ◌∙◌, slice_index_or, inl, inr}
use Rattle.std.proofs.Common.{replicate}
use Rattle.std.specs.Int.{bit_at}
use Rattle.std.proofs.Math.ListN.{get_or-eq_default}
use Rattle.std.proofs.lemmas.Bool.{cases_lt}
use Rattle.std.proofs.lemmas.Nat.{div-mul-add, mod-mul-add}
use Rattle.std.proofs.lemmas.Nat.Bits.{bit_at-zero}
use Rattle.std.proofs.Math.Nat.{mul-le-mul_left, mul-add-mod_self_right}
use Rattle.std.proofs.Math.Nat.{div-lt_iff_lt-mul}
use Rattle.dpx_base.specs.declared.pixel.Pixel.{Pixel}
use Rattle.dpx_base.specs.Lanes.{lanes_count}
use Rattle.dpx_base.specs.Mode.{depth_bits}
use Rattle.dpx_base.specs.Packing.{component, line_bit}
use Rattle.dpx_base.specs.Plan.{PlanFacts, timing}
use Rattle.dpx_base.specs.Sets.{black}
use Rattle.dpx_base.specs.Timing.{IsPossible, symbols}
use Rattle.dpx_buffer.specs.Buffer.{bytes_whole}
use Rattle.dpx_pack.specs.Bits.{bits_of_pixel}
use Rattle.dpx_pack.specs.Positions.{span}
use Rattle.dpx_pack.proofs.Places.{byte_at, pixel_bit}
use Rattle.dpx_pack.proofs.Spans.{span-append, span-same, span-none, span-cons}
use Rattle.dpx_pack.proofs.Places.{bits_of_pixel_are}
use Rattle.dpx_buffer.specs.Buffer.{line_in, lane_byte}
use Rattle.dpx_buffer.proofs.Stable.{if_less, if_more, byte_stable, lane_byte_at}

-- the bytes that wait, and those that became whole
pub waiting_on : (p : PlanFacts) (pixels more : List Pixel) (lane taken i from to : ℕ) → IsPossible (timing p)
    → lane < lanes_count p.link.lanes
    → bytes_whole (timing p) (length pixels) ≡ i * symbols (timing p) + from
    → taken ≤ bytes_whole (timing p) (length pixels)
    → from ≤ to → to ≤ symbols (timing p)
    → span (lane_byte p pixels lane) taken (bytes_whole (timing p) (length pixels) - taken)
    ++ span (byte_at (line_bit (line_in p (pixels ++ more) i) lane)) from (to - from)
    ≡ span (lane_byte p (pixels ++ more) lane) taken (i * symbols (timing p) + to - taken)
waiting_on p pixels more lane taken i from to legal l whole few up most =
    let s : ℕ = symbols (timing p) in
    let b : ℕ = bytes_whole (timing p) (length pixels) in
    let f : ℕ → ℕ = lane_byte p (pixels ++ more) lane in
    let g : ℕ → ℕ = byte_at (line_bit (line_in p (pixels ++ more) i) lane) in
    let old : span (lane_byte p pixels lane) taken (b - taken) ≡ span f taken (b - taken) =
    span-same (lane_byte p pixels lane) f taken taken (b - taken)
    (λ k h. sym (byte_stable p pixels more lane (taken + k) legal l (omega (arith, h)))) in
    let new : span g from (to - from) ≡ span f (taken + (b - taken)) (to - from) =
    span-same g f from (taken + (b - taken)) (to - from)
    (λ k h.
    let e : taken + (b - taken) + k ≡ i * s + (from + k) = omega (arith, whole, few) in
    rw e (sym (lane_byte_at p (pixels ++ more) lane i (from + k) (omega (arith, h, most))))) in
    let n : b - taken + (to - from) ≡ i * s + to - taken = omega (arith, whole, few, up) in
    ap (λ xs. xs ++ span g from (to - from)) old
    ∙ (ap (λ xs. span f taken (b - taken) ++ xs) new
    ∙ (sym (span-append f taken (b - taken) (to - from)) ∙ ap (λ k. span f taken k) n))

bit_is : (c : ℕ) (q : Pixel) (k : ℕ) → pixel_bit c q k ≡ bit_at (component q (k / c)) (c - 1 - k % c)
unfolding pixel_bit
bit_is c q k = refl

-- a black pixel has no bit
black_bit : (c k : ℕ) → pixel_bit c black k ≡ 0
unfolding pixel_bit
black_bit c k = none (k / c)
  where
    none : (i : ℕ) → bit_at (component black i) (c - 1 - k % c) ≡ 0
    none zero = bit_at-zero (c - 1 - k % c)
    none (suc zero) = bit_at-zero (c - 1 - k % c)
    none (suc (suc i)) = bit_at-zero (c - 1 - k % c)

placed_bit : (p : PlanFacts) (pixels : List Pixel) (line lane g k : ℕ) → 1 ≤ depth_bits p.mode.depth
    → length pixels ≤ line * p.mode.width + p.mode.width → k < 3 * depth_bits p.mode.depth
    → pixel_bit (depth_bits p.mode.depth) (slice_index_or pixels
    (line * p.mode.width + (lane + lanes_count p.link.lanes * g)) black) (0 + k)
    ≡ line_bit (line_in p pixels line) lane (g * (3 * depth_bits p.mode.depth) + k)
unfolding line_bit
placed_bit p pixels line lane g k pos few h =
    let c : ℕ = depth_bits p.mode.depth in
    let x : ℕ = lane + lanes_count p.link.lanes * g in
    let q : Pixel = slice_index_or pixels (line * p.mode.width + x) black in
    let e : 0 + k ≡ k = omega arith in
    let m : g * (3 * c) + k ≡ g * 3 * c + k = omega arith in
    let low : (g * (3 * c) + k) % c ≡ k % c = ap (λ z. z % c) m ∙ mul-add-mod_self_right (g * 3) c k in
    rw (div-mul-add g (3 * c) k h, mod-mul-add g (3 * c) k h, low, e)
    (elim (cases_lt x p.mode.width) [
      | inl inside ↦ bit_is c q k ∙ sym (if_less x p.mode.width (bit_at (component q (k / c)) (c - 1 - k % c)) 0
          inside)
      | inr past ↦
          let none : q ≡ black = get_or-eq_default pixels black (omega (arith, few, past)) in
          ap (λ z. pixel_bit c z k) none ∙ (black_bit c k
          ∙ sym (if_more x p.mode.width (bit_at (component q (k / c)) (c - 1 - k % c)) 0 past))
    ])

-- the bits of a pixel that stands in its line, or past the list's end
pub pixel_placed : (p : PlanFacts) (pixels : List Pixel) (line lane g : ℕ) → IsPossible (timing p)
    → 1 ≤ depth_bits p.mode.depth
    → length pixels ≤ line * p.mode.width + p.mode.width
    → bits_of_pixel (depth_bits p.mode.depth) (slice_index_or pixels
    (line * p.mode.width + (lane + lanes_count p.link.lanes * g)) black)
    ≡ span (line_bit (line_in p pixels line) lane) (g * (3 * depth_bits p.mode.depth)) (3 * depth_bits p.mode.depth)
pixel_placed p pixels line lane g legal pos few =
    let c : ℕ = depth_bits p.mode.depth in
    let q : Pixel = slice_index_or pixels (line * p.mode.width + (lane + lanes_count p.link.lanes * g)) black in
    bits_of_pixel_are c q pos ∙ span-same (pixel_bit c q) (line_bit (line_in p pixels line) lane) 0 (g * (3 * c))
    (3 * c)
    (λ k h. placed_bit p pixels line lane g k pos few h)

-- zeros by their places
pub span-zero : (f : ℕ → ℕ) (a n : ℕ) → ((k : ℕ) → a ≤ k → f k ≡ 0) → span f a n ≡ replicate n 0
span-zero f a zero h = span-none f a
span-zero f a (suc n) h =
    span-cons f a n ∙ (ap (λ x. x ∷ span f (a + 1) n) (h a (omega arith))
    ∙ ap (λ xs. 0 ∷ xs) (span-zero f (a + 1) n (λ k b. h k (omega (arith, b)))))

-- past a line's last group there are no bits
pub no_bit : (p : PlanFacts) (pixels : List Pixel) (line lane g k : ℕ) → IsPossible (timing p)
    → p.mode.width ≤ lanes_count p.link.lanes * g
    → g * (3 * depth_bits p.mode.depth) ≤ k → line_bit (line_in p pixels line) lane k ≡ 0
unfolding line_bit
no_bit p pixels line lane g k legal past h =
    let b : ℕ = 3 * depth_bits p.mode.depth in
    let x : ℕ = lane + lanes_count p.link.lanes * (k / b) in
    let groups : g ≤ k / b = elim (cases_lt (k / b) g) [
      | inl less ↦ absurd (omega (arith, h, (div-lt_iff_lt-mul legal.bits_from).0 less))
      | inr more ↦ more
    ] in
    if_more x p.mode.width _ 0 (omega (
      arith,
      past,
      mul-le-mul_left {m = g} {n = k / b} (lanes_count p.link.lanes) groups,
    ))
