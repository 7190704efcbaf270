-- The lines with pixels, by their numbers.
use Rattle.std.proofs.Common.{ℕ, suc, ◌+◌, ◌-◌, ◌*◌, ◌/◌, ◌%◌, ◌<◌, ◌≤◌, ◌≡◌, arith, ap, inl, inr, ◌∙◌}
use Rattle.std.proofs.lemmas.Bool.{cases_order}
use Rattle.std.proofs.lemmas.Nat.{div-mul-add, mod-mul-add}
use Rattle.std.proofs.Math.Nat.{div-add-mod, mod-lt, mul-le-mul_right, mul-le-mul_left, div-lt_iff_lt-mul}
use Rattle.dpx_base.specs.Plan.{PlanFacts, IsPlan, lines}
use Rattle.dpx_source.specs.LineSums.{line_at, active_line, active_lines}

-- they are in the order of their numbers
pub line_rises : (height vtotal : ℕ) → 1 ≤ height → height ≤ vtotal → (i k : ℕ) → i < k
    → line_at height vtotal i < line_at height vtotal k
line_rises height vtotal some few i k h = elim (cases_order (i / height) (k / height)) [
  | inl same ↦
      omega (arith, div-add-mod i height, div-add-mod k height, ap (λ z. height * z) same, ap (λ z. z * vtotal) same)
  | inr (inl less) ↦
      omega (arith, mod-lt i some, mod-lt k some, mul-le-mul_right {m = suc (i / height)} {n = k / height} vtotal less)
  | inr (inr more) ↦
      absurd (omega (
        arith,
        div-add-mod i height,
        div-add-mod k height,
        mod-lt k some,
        mul-le-mul_left {m = suc (k / height)} {n = i / height} height more,
      ))
]

-- where such a line stands in its frame
pub active_row : (p : PlanFacts) (i : ℕ) → IsPlan p
    → active_line p i % p.mode.vtotal ≡ p.mode.vtotal - p.mode.height + i % p.mode.height
active_row p i plan =
    let v : ℕ = p.mode.height in
    let vt : ℕ = p.mode.vtotal in
    let y : vt - v + i % v < vt = omega (arith, mod-lt i plan.mode.height.0, plan.mode.vtotal) in
    let e : active_line p i ≡ i / v * vt + (vt - v + i % v) = omega arith in
    ap (λ z. z % vt) e ∙ mod-mul-add (i / v) vt (vt - v + i % v) y

pub active_frame : (p : PlanFacts) (i : ℕ) → IsPlan p → active_line p i / p.mode.vtotal ≡ i / p.mode.height
active_frame p i plan =
    let v : ℕ = p.mode.height in
    let vt : ℕ = p.mode.vtotal in
    let y : vt - v + i % v < vt = omega (arith, mod-lt i plan.mode.height.0, plan.mode.vtotal) in
    let e : active_line p i ≡ i / v * vt + (vt - v + i % v) = omega arith in
    ap (λ z. z / vt) e ∙ div-mul-add (i / v) vt (vt - v + i % v) y

pub active_small : (p : PlanFacts) (i : ℕ) → IsPlan p → i < active_lines p → active_line p i < lines p
active_small p i plan h =
    let v : ℕ = p.mode.height in
    let vt : ℕ = p.mode.vtotal in
    omega (
      arith,
      mod-lt i plan.mode.height.0,
      plan.mode.vtotal,
      mul-le-mul_right {m = suc (i / v)} {n = p.frames} vt ((div-lt_iff_lt-mul plan.mode.height.0).1 h),
    )

-- a line's number among those with pixels
pub record HasNumber (p : PlanFacts) (line : ℕ) : Type 0 where
  pub number : ℕ
  pub within : number < active_lines p
  pub is : active_line p number ≡ line

pub line_number : (p : PlanFacts) (line : ℕ) → IsPlan p → line < lines p
    → p.mode.vtotal - p.mode.height ≤ line % p.mode.vtotal → HasNumber p line
line_number p line plan h low =
    let v : ℕ = p.mode.height in
    let vt : ℕ = p.mode.vtotal in
    let pos : 0 < vt = omega (arith, plan.mode.vtotal) in
    let x : ℕ = line % vt - (vt - v) in
    let few : x < v = omega (arith, low, mod-lt line pos, plan.mode.vtotal) in
    let i : ℕ = line / vt * v + x in
    let d : i / v ≡ line / vt = div-mul-add (line / vt) v x few in
    let m : i % v ≡ x = mod-mul-add (line / vt) v x few in
    record {
      number = i;
      within =
          omega (arith, few, mul-le-mul_right {m = suc (line / vt)} {n = p.frames} v ((div-lt_iff_lt-mul pos).1 h));
      is = ap (λ z. z * vt + (vt - v) + i % v) d
          ∙ (ap (λ z. line / vt * vt + (vt - v) + z) m ∙ omega (arith, low, div-add-mod line vt));
    }
