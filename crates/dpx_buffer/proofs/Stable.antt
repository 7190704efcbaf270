-- What has become whole does not change with further pixels.
use Rattle.std.proofs.Common.{◌≡◌, ℕ, suc, ◌<◌, ◌≤◌, ◌+◌, ◌-◌, ◌*◌, ◌/◌, ◌%◌, List, ◌++◌, length, refl}
use Rattle.std.proofs.Common.{sym, ap, arith, ◌∙◌, nat_lt, if◌then◌else◌, inl, inr}
use Rattle.std.specs.Int.{bit_at}
use Rattle.std.proofs.Math.ListN.{get_or-append}
use Rattle.std.proofs.lemmas.Bool.{cases_lt, cases_order}
use Rattle.std.proofs.lemmas.Bool.Decides.{nat_tests}
use Rattle.std.proofs.lemmas.Nat.{div-mul-add, mod-mul-add}
use Rattle.std.proofs.Math.Nat.{div-add-mod, mod-lt, mul-le-mul_right, mul-le-mul_left, div-lt_iff_lt-mul}
use Rattle.dpx_base.specs.declared.pixel.Pixel.{Pixel}
use Rattle.dpx_base.specs.Lanes.{lanes_count}
use Rattle.dpx_base.specs.Mode.{depth_bits}
use Rattle.dpx_base.specs.Packing.{Line, component, number_of, line_bit, line_byte}
use Rattle.dpx_base.specs.Plan.{PlanFacts, timing}
use Rattle.dpx_base.specs.Sets.{black}
use Rattle.dpx_base.specs.Timing.{IsPossible, symbols, floor_div}
use Rattle.dpx_buffer.specs.Buffer.{bytes_whole}
use Rattle.dpx_timing.proofs.Floors.{floor_low}
use Rattle.dpx_timing.proofs.Lines.{symbols_pos}
use Rattle.dpx_pack.specs.Positions.{span}
use Rattle.dpx_pack.proofs.Places.{byte_at}
use Rattle.dpx_pack.proofs.Spans.{span-same}
use Rattle.dpx_buffer.specs.Buffer.{line_in, lane_byte, group_bits}
use Rattle.dpx_buffer.proofs.Whole.{whole_at, part_few}

pub if_less : (a b x y : ℕ) → a < b → (if nat_lt a b then x else y) ≡ x
if_less a b x y h = grind (arith, nat_tests)

pub if_more : (a b x y : ℕ) → b ≤ a → (if nat_lt a b then x else y) ≡ y
if_more a b x y h = grind (arith, nat_tests)

-- a bit depends on its pixel alone
pub bit_same : (u v : Line) (lane i : ℕ) → u.width ≡ v.width → u.lanes ≡ v.lanes → u.depth ≡ v.depth
    → (lane + v.lanes * (i / (3 * v.depth)) < v.width → u.pixel (lane + v.lanes * (i / (3 * v.depth)))
    ≡ v.pixel (lane + v.lanes * (i / (3 * v.depth))))
    → line_bit u lane i ≡ line_bit v lane i
unfolding line_bit
bit_same u v lane i w l d same = rw (w, l, d) (elim (cases_lt (lane + v.lanes * (i / (3 * v.depth))) v.width) [
  | inl inside ↦ ap (λ q. if nat_lt (lane + v.lanes * (i / (3 * v.depth))) v.width then bit_at
      (component q (i % (3 * v.depth) / v.depth)) (v.depth - 1 - i % v.depth) else 0) (same inside)
  | inr past ↦
      if_more (lane + v.lanes * (i / (3 * v.depth))) v.width _ 0 past
      ∙ sym (if_more (lane + v.lanes * (i / (3 * v.depth))) v.width _ 0 past)
])

-- bits of the whole groups of a line
pub bit_stable : (p : PlanFacts) (pixels more : List Pixel) (line lane i : ℕ)
    → (lane + lanes_count p.link.lanes * (i / (3 * depth_bits p.mode.depth)) < p.mode.width
    → line * p.mode.width + (lane + lanes_count p.link.lanes * (i / (3 * depth_bits p.mode.depth))) < length pixels)
    → line_bit (line_in p (pixels ++ more) line) lane i ≡ line_bit (line_in p pixels line) lane i
bit_stable p pixels more line lane i inside =
    bit_same (line_in p (pixels ++ more) line) (line_in p pixels line) lane i refl refl refl
    (λ h. get_or-append pixels more black _ (inside h))

-- a group's pixels are among those of its line that came before it
pub group_inside : (p : PlanFacts) (lane i a : ℕ) → IsPossible (timing p) → lane < lanes_count p.link.lanes
    → i < group_bits (timing p) a
    → lane + lanes_count p.link.lanes * (i / (3 * depth_bits p.mode.depth)) < a
group_inside p lane i a legal l h =
    let g : ℕ = floor_div a (lanes_count p.link.lanes) in
    let less : i / (3 * depth_bits p.mode.depth) < g = (div-lt_iff_lt-mul legal.bits_from).1 h in
    omega (
      arith,
      l,
      floor_low a (lanes_count p.link.lanes),
      mul-le-mul_left {m = suc (i / (3 * depth_bits p.mode.depth))} {n = g} (lanes_count p.link.lanes) less,
    )

pub byte_is : (line : Line) (lane j : ℕ) → line_byte line lane j ≡ byte_at (line_bit line lane) j
unfolding line_byte byte_at span
byte_is line lane j = refl

pub byte_same : (f g : ℕ → ℕ) (j : ℕ) → ((k : ℕ) → k < 8 → f (8 * j + k) ≡ g (8 * j + k)) → byte_at f j ≡ byte_at g j
unfolding byte_at
byte_same f g j h = ap number_of (span-same f g (8 * j) (8 * j) 8 h)

-- byte j of line i
pub lane_byte_at : (p : PlanFacts) (pixels : List Pixel) (lane i j : ℕ) → j < symbols (timing p)
    → lane_byte p pixels lane (i * symbols (timing p) + j) ≡ byte_at (line_bit (line_in p pixels i) lane) j
unfolding lane_byte
lane_byte_at p pixels lane i j h =
    rw (div-mul-add i (symbols (timing p)) j h, mod-mul-add i (symbols (timing p)) j h)
    (byte_is (line_in p pixels i) lane j)

-- a whole byte's bits are among the pixels
byte_inside : (p : PlanFacts) (lane i j line a n k : ℕ) → IsPossible (timing p) → lane < lanes_count p.link.lanes
    → j < symbols (timing p)
    → a < p.mode.width → n ≡ line * p.mode.width + a → i * symbols (timing p) + j < bytes_whole (timing p) n → k < 8
    → lane + lanes_count p.link.lanes * ((8 * j + k) / (3 * depth_bits p.mode.depth)) < p.mode.width
    → i * p.mode.width + (lane + lanes_count p.link.lanes * ((8 * j + k) / (3 * depth_bits p.mode.depth))) < n
byte_inside p lane i j line a n k legal l jl al ne h kl inside =
    let w : bytes_whole (timing p) n ≡ line * symbols (timing p) + floor_div (group_bits (timing p) a) 8 =
    ap (λ m. bytes_whole (timing p) m) ne ∙ whole_at (timing p) line a al in
    elim (cases_order i line) [
      | inl same ↦
          let e : i * symbols (timing p) ≡ line * symbols (timing p) = ap (λ m. m * symbols (timing p)) same in
          let f : i * p.mode.width ≡ line * p.mode.width = ap (λ m. m * p.mode.width) same in
          omega (
            arith,
            ne,
            f,
            group_inside p lane (8 * j + k) a legal l
                (omega (arith, h, w, e, kl, floor_low (group_bits (timing p) a) 8)),
          )
      | inr (inl less) ↦ omega (arith, inside, ne, mul-le-mul_right {m = suc i} {n = line} p.mode.width less)
      | inr (inr more) ↦
          absurd (omega (
            arith,
            h,
            w,
            part_few (timing p) a legal al,
            mul-le-mul_right {m = suc line} {n = i} (symbols (timing p)) more,
          ))
    ]

-- a byte that is whole among some pixels
pub byte_stable : (p : PlanFacts) (pixels more : List Pixel) (lane q : ℕ) → IsPossible (timing p)
    → lane < lanes_count p.link.lanes
    → q < bytes_whole (timing p) (length pixels) → lane_byte p (pixels ++ more) lane q ≡ lane_byte p pixels lane q
byte_stable p pixels more lane q legal l h =
    at (q / symbols (timing p)) (q % symbols (timing p)) (mod-lt q (symbols_pos (timing p) legal))
    (omega (arith, div-add-mod q (symbols (timing p))))
  where
    at : (i j : ℕ) → j < symbols (timing p) → q ≡ i * symbols (timing p) + j
        → lane_byte p (pixels ++ more) lane q ≡ lane_byte p pixels lane q
    at i j jl e =
        let k : i * symbols (timing p) + j < bytes_whole (timing p) (length pixels) = rw e at h in
        rw e (lane_byte_at p (pixels ++ more) lane i j jl
        ∙ (byte_same (line_bit (line_in p (pixels ++ more) i) lane) (line_bit (line_in p pixels i) lane) j
        (λ b bl. bit_stable p pixels more i lane (8 * j + b)
        (byte_inside p lane i j (length pixels / p.mode.width) (length pixels % p.mode.width) (length pixels) b
        legal l jl
        (mod-lt (length pixels) legal.width_from) (omega (arith, div-add-mod (length pixels) p.mode.width)) k bl))
        ∙ sym (lane_byte_at p pixels lane i j jl)))
