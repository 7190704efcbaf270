-- A tick's frame, row and column.
use Rattle.std.proofs.Common.{ℕ, zero, suc, Bool, true, false, ◌+◌, ◌-◌, ◌*◌, ◌/◌, ◌%◌, ◌<◌, ◌≤◌, ◌≡◌, ◌&&◌, nat_lt}
use Rattle.std.proofs.Common.{nat_le, if◌then◌else◌, arith, inl, inr, refl, add-one}
use Rattle.std.proofs.Math.Nat.{mul-le-mul_right, add_assoc, add-zero}
use Rattle.std.proofs.lemmas.Bool.{cases_lt}
use Rattle.std.proofs.lemmas.Bool.Decides.{nat_tests}
use Rattle.std.proofs.lemmas.Nat.{div-mul-add, mod-mul-add}
use Rattle.dpx_base.specs.Beam.{is_pixel, pixels_among}
use Rattle.dpx_base.specs.Mode.{ModeFacts}
use Rattle.dpx_base.specs.Scan.{Scanned, IsScan}

line_is : (s : Scanned) (frame row column : ℕ) → IsScan s frame row column
    → s.tick / s.mode.htotal ≡ frame * s.mode.vtotal + row
line_is s frame row column scan = rw scan.tick_is
    (div-mul-add (frame * s.mode.vtotal + row) s.mode.htotal column scan.column_below)

column_is : (s : Scanned) (frame row column : ℕ) → IsScan s frame row column → s.tick % s.mode.htotal ≡ column
column_is s frame row column scan = rw scan.tick_is
    (mod-mul-add (frame * s.mode.vtotal + row) s.mode.htotal column scan.column_below)

row_is : (s : Scanned) (frame row column : ℕ) → IsScan s frame row column → s.tick / s.mode.htotal % s.mode.vtotal ≡ row
row_is s frame row column scan = rw (line_is s frame row column scan)
    (mod-mul-add frame s.mode.vtotal row scan.row_below)

line_inside : (s : Scanned) (frame row column : ℕ) → IsScan s frame row column → frame < s.frames
    → s.tick / s.mode.htotal < s.frames * s.mode.vtotal
line_inside s frame row column scan h =
    omega (arith, line_is s frame row column scan, mul-le-mul_right s.mode.vtotal h, scan.row_below)

line_past : (s : Scanned) (frame row column : ℕ) → IsScan s frame row column → s.frames ≤ frame
    → s.frames * s.mode.vtotal ≤ s.tick / s.mode.htotal
line_past s frame row column scan h = omega (arith, line_is s frame row column scan, mul-le-mul_right s.mode.vtotal h)

-- two tests that agree, both passed or both failed
tests_true : (a b c d : ℕ) → a < b → c < d → nat_lt a b ≡ nat_lt c d
tests_true a b c d h k = grind (arith, nat_tests)

tests_false : (a b c d : ℕ) → b ≤ a → d ≤ c → nat_lt a b ≡ nat_lt c d
tests_false a b c d h k = grind (arith, nat_tests)

frame_test : (s : Scanned) (frame row column : ℕ) → IsScan s frame row column
    → nat_lt (s.tick / s.mode.htotal) (s.frames * s.mode.vtotal) ≡ nat_lt frame s.frames
frame_test s frame row column scan = elim (cases_lt frame s.frames) [
  | inl inside ↦ tests_true _ _ _ _ (line_inside s frame row column scan inside) inside
  | inr past ↦ tests_false _ _ _ _ (line_past s frame row column scan past) past
]

-- whether the tick is a pixel, by its frame, row and column
pub pixel_is : (s : Scanned) (frame row column : ℕ) → IsScan s frame row column
    → is_pixel s.mode s.frames s.tick
    ≡ (nat_lt frame s.frames && nat_le (s.mode.htotal - s.mode.width) column && nat_le
    (s.mode.vtotal - s.mode.height) row)
unfolding is_pixel
pixel_is s frame row column scan =
    rw (frame_test s frame row column scan, column_is s frame row column scan, row_is s frame row column scan)

-- so many ticks, and a further one
pub pixels_more : (mode : ModeFacts) (frames first c : ℕ)
    → pixels_among mode frames first (c + 1) ≡ pixels_among mode frames first c +
    (if is_pixel mode frames (first + c) then 1 else 0)
unfolding pixels_among
pixels_more mode frames first c = rw add-one refl

pub pixels_none : (mode : ModeFacts) (frames first : ℕ) → pixels_among mode frames first 0 ≡ 0
unfolding pixels_among
pixels_none mode frames first = refl

-- so many ticks, and further ones
pub pixels_join : (mode : ModeFacts) (frames first c d : ℕ)
    → pixels_among mode frames first (c + d) ≡ pixels_among mode frames first c + pixels_among mode frames (first + c) d
pixels_join mode frames first c zero = rw (pixels_none mode frames (first + c), add-zero c, add-zero) refl
pixels_join mode frames first c (suc d) =
    let e : c + (d + 1) ≡ (c + d) + 1 = omega arith in
    rw (
      ← add-one,
      e,
      pixels_more mode frames first (c + d),
      pixels_more mode frames (first + c) d,
      pixels_join mode frames first c d,
      add_assoc first c d,
    ) (omega arith)

pub at_most_one : (b : Bool) → (if b then 1 else 0) ≤ 1
at_most_one true = omega arith
at_most_one false = omega arith

pub pixel_value_is : (s : Scanned) (frame row column ticks lines value : ℕ) → IsScan s frame row column
    → ticks ≡ s.mode.htotal - s.mode.width → lines ≡ s.mode.vtotal - s.mode.height
    → value ≡ (if nat_lt frame s.frames && nat_le ticks column && nat_le lines row then 1 else 0)
    → value ≡ (if is_pixel s.mode s.frames s.tick then 1 else 0)
pixel_value_is s frame row column ticks lines value scan t l v =
    rw (v, t, l, pixel_is s frame row column scan) refl
