-- The pixels among the ticks are those that arrive on the lines.
use Rattle.std.proofs.Common.{◌≡◌, ℕ, zero, suc, ◌<◌, ◌≤◌, ◌+◌, ◌-◌, ◌*◌, ◌/◌, ◌%◌, min, refl, sym, ap, arith, ◌∙◌}
use Rattle.std.proofs.Common.{inl, inr, Bool, nat_lt, nat_le}
use Rattle.std.specs.Prelude.{◌&&◌, if◌then◌else◌}
use Rattle.std.proofs.lemmas.Bool.{cases_lt, cases_order, cases_eq}
use Rattle.std.proofs.lemmas.Bool.Decides.{nat_tests}
use Rattle.std.proofs.lemmas.Nat.{div-mul-add, mod-mul-add}
use Rattle.std.proofs.Math.Nat.{div-add-mod, mod-lt, mul-le-mul_right}
use Rattle.dpx_base.specs.Beam.{is_pixel, pixels_among, pixels_before}
use Rattle.dpx_base.specs.Mode.{ModeFacts}
use Rattle.dpx_base.specs.Plan.{PlanFacts, IsPlan, timing, lines}
use Rattle.dpx_base.specs.Timing.{ticks, arrived, first_tick}
use Rattle.dpx_timing.proofs.Arrivals.{ticks_same}
use Rattle.dpx_source.specs.LineSums.{total, active_line, active_lines}
use Rattle.dpx_source.specs.Ticker.{shown}
use Rattle.dpx_source.proofs.Sums.{total_same, total_at, total_full, total_less}
use Rattle.dpx_source.proofs.ActiveLines.{active_row, active_small, HasNumber, line_number, line_rises}

abbrev one_if : Bool → ℕ
one_if b = if b then 1 else 0

tests_pass : (a b c d e f : ℕ) → a < b → c ≤ d → e ≤ f → one_if (nat_lt a b && nat_le c d && nat_le e f) ≡ 1
tests_pass a b c d e f x y z = grind (arith, nat_tests)

first_fails : (a b c d e f : ℕ) → b ≤ a → one_if (nat_lt a b && nat_le c d && nat_le e f) ≡ 0
first_fails a b c d e f x = grind (arith, nat_tests)

second_fails : (a b c d e f : ℕ) → d < c → one_if (nat_lt a b && nat_le c d && nat_le e f) ≡ 0
second_fails a b c d e f x = grind (arith, nat_tests)

third_fails : (a b c d e f : ℕ) → f < e → one_if (nat_lt a b && nat_le c d && nat_le e f) ≡ 0
third_fails a b c d e f x = grind (arith, nat_tests)

-- the test of a tick, by its line and column
pixel_at : (m : ModeFacts) (frames line column : ℕ) → column < m.htotal
    → is_pixel m frames (line * m.htotal + column)
    ≡ (nat_lt line (frames * m.vtotal) && nat_le (m.htotal - m.width) column
    && nat_le (m.vtotal - m.height) (line % m.vtotal))
unfolding is_pixel
pixel_at m frames line column few =
    rw (div-mul-add line m.htotal column few, mod-mul-add line m.htotal column few) refl

-- a line's pixels before a tick
abbrev come : PlanFacts → (tick line : ℕ) → ℕ
come p tick line = min (tick - (line * p.mode.htotal + (p.mode.htotal - p.mode.width))) p.mode.width

abbrev all_come : PlanFacts → (tick : ℕ) → ℕ
all_come p tick = total (λ i. come p tick (active_line p i)) (active_lines p)

other_line : (w ht l col line : ℕ) → w ≤ ht → col < ht → (line ≡ l → ⊥)
    → min (l * ht + col + 1 - (line * ht + (ht - w))) w ≡ min (l * ht + col - (line * ht + (ht - w))) w
other_line w ht l col line few in_ other = elim (cases_order line l) [
  | inl same ↦ absurd (other same)
  | inr (inl less) ↦ omega (arith, few, in_, mul-le-mul_right {m = suc line} {n = l} ht less)
  | inr (inr more) ↦ omega (arith, few, in_, mul-le-mul_right {m = suc l} {n = line} ht more)
]

-- no further pixel of a line comes in another one's tick
no_change : (p : PlanFacts) (l col i : ℕ) → IsPlan p → col < p.mode.htotal → (active_line p i ≡ l → ⊥)
    → come p (l * p.mode.htotal + col + 1) (active_line p i) ≡ come p (l * p.mode.htotal + col) (active_line p i)
no_change p l col i plan few other =
    other_line p.mode.width p.mode.htotal l col (active_line p i) (omega (arith, plan.mode.htotal)) few other

-- nor in a blank tick
blank_change : (p : PlanFacts) (l col i : ℕ) → IsPlan p → col < p.mode.htotal → col < p.mode.htotal - p.mode.width
    → come p (l * p.mode.htotal + col + 1) (active_line p i) ≡ come p (l * p.mode.htotal + col) (active_line p i)
blank_change p l col i plan few blank = elim (cases_eq (active_line p i) l) [
  | inl same ↦ omega (arith, blank, ap (λ z. z * p.mode.htotal) same)
  | inr other ↦ no_change p l col i plan few other
]

none_more : (p : PlanFacts) (tick : ℕ)
    → ((i : ℕ) → i < active_lines p → come p (tick + 1) (active_line p i) ≡ come p tick (active_line p i))
    → all_come p (tick + 1) ≡ all_come p tick
none_more p tick same =
    total_same (λ i. come p (tick + 1) (active_line p i)) (λ i. come p tick (active_line p i)) (active_lines p) same

-- one comes in a pixel's tick
one_more : (p : PlanFacts) (l col : ℕ) → IsPlan p → col < p.mode.htotal → p.mode.htotal - p.mode.width ≤ col
    → HasNumber p l
    → all_come p (l * p.mode.htotal + col + 1) ≡ all_come p (l * p.mode.htotal + col) + 1
one_more p l col plan few inside h =
    let rise : (i k : ℕ) → i < k → active_line p i < active_line p k =
    line_rises p.mode.height p.mode.vtotal plan.mode.height.0 (omega (arith, plan.mode.vtotal)) in
    let g : ℕ → ℕ = λ i. come p (l * p.mode.htotal + col + 1) (active_line p i) in
    let f : ℕ → ℕ = λ i. come p (l * p.mode.htotal + col) (active_line p i) in
    let one : total (λ i. g i - f i) (active_lines p) ≡ h.number * 0 + (g h.number - f h.number) =
    total_at (λ i. g i - f i) 0 h.number (active_lines p) h.within
    (λ k less. omega (arith, no_change p l col k plan few (λ e. omega (arith, e, h.is, rise k h.number less))))
    (λ k more b. omega (arith, no_change p l col k plan few (λ e. omega (arith, e, h.is, rise h.number k more)))) in
    let hit : g h.number - f h.number ≡ 1 =
    omega (arith, few, inside, ap (λ z. z * p.mode.htotal) h.is, plan.mode.htotal) in
    omega (arith, one, hit, total_less f g (active_lines p) (λ i b. omega arith))

step : (p : PlanFacts) (l col : ℕ) → IsPlan p → col < p.mode.htotal
    → all_come p (l * p.mode.htotal + col + 1)
    ≡ all_come p (l * p.mode.htotal + col)
    + one_if (nat_lt l (lines p) && nat_le (p.mode.htotal - p.mode.width) col
    && nat_le (p.mode.vtotal - p.mode.height) (l % p.mode.vtotal))
step p l col plan few = elim (cases_lt l (lines p)) [
  | inr past ↦
      omega (
        arith,
        first_fails l (lines p) blank col above row past,
        none_more p tick (λ i h. no_change p l col i plan few (λ e. omega (arith, e, past, active_small p i plan h))),
      )
  | inl within ↦ elim (cases_lt col blank) [
    | inl before ↦
        omega (
          arith,
          second_fails l (lines p) blank col above row before,
          none_more p tick (λ i h. blank_change p l col i plan few before),
        )
    | inr inside ↦ elim (cases_lt row above) [
      | inl high ↦
          omega (
            arith,
            third_fails l (lines p) blank col above row high,
            none_more p tick (λ i h. no_change p l col i plan few
                (λ e. omega (arith, high, active_row p i plan, ap (λ z. z % p.mode.vtotal) e))),
          )
      | inr low ↦
          omega (
            arith,
            tests_pass l (lines p) blank col above row within inside low,
            one_more p l col plan few inside (line_number p l plan within low),
          )
    ]
  ]
]
  where
    tick : ℕ
    tick = l * p.mode.htotal + col

    blank : ℕ
    blank = p.mode.htotal - p.mode.width

    above : ℕ
    above = p.mode.vtotal - p.mode.height

    row : ℕ
    row = l % p.mode.vtotal

tick_step : (p : PlanFacts) (tick : ℕ) → IsPlan p
    → all_come p (tick + 1) ≡ all_come p tick + one_if (is_pixel p.mode p.frames tick)
tick_step p tick plan =
    let e : tick / p.mode.htotal * p.mode.htotal + tick % p.mode.htotal ≡ tick =
    omega (arith, div-add-mod tick p.mode.htotal) in
    let few : tick % p.mode.htotal < p.mode.htotal = mod-lt tick (omega (arith, plan.mode.htotal)) in
    let here = step p (tick / p.mode.htotal) (tick % p.mode.htotal) plan few in
    rw e at (rw (← pixel_at p.mode p.frames (tick / p.mode.htotal) (tick % p.mode.htotal) few) at here)

-- the pixels among the first ticks
among_is : (p : PlanFacts) (tick : ℕ) → IsPlan p → all_come p tick ≡ pixels_among p.mode p.frames 0 tick
unfolding pixels_among
among_is p zero plan =
    total_full (λ i. come p 0 (active_line p i)) 0 (active_lines p) (λ i h. omega arith) ∙ omega arith
among_is p (suc tick) plan =
    let e : suc tick ≡ tick + 1 = omega arith in
    let z : 0 + tick ≡ tick = omega arith in
    rw (e, z) (omega (arith, tick_step p tick plan, among_is p tick plan))

-- the pixels before a clock have arrived on the lines
pub arrived_is : (p : PlanFacts) (t : ℕ) → IsPlan p
    → pixels_before (shown p) t ≡ total (λ i. arrived (timing p) (active_line p i) t) (active_lines p)
unfolding pixels_before arrived first_tick
arrived_is p t plan = rw (ticks_same p t) (sym (among_is p (ticks (timing p) t) plan))
