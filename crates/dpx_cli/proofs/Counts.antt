-- The numbers of a plan's frames are small enough to be counted.
use Rattle.std.proofs.Common.{ℕ, ◌+◌, ◌*◌, ◌≤◌, ◌<◌, ◌^◌, arith}
use Rattle.std.proofs.Math.Nat.{mul-le-mul_left}

lines_fit : (frames height : ℕ) → frames ≤ 65535 → height ≤ 8192 → frames * height ≤ 65535 * 8192
lines_fit frames height f h = omega (arith, mul-le-mul_left frames h)

pub pixels_fit : (frames height width : ℕ) → frames ≤ 65535 → height ≤ 8192 → width ≤ 8192
    → frames * height * width ≤ 65535 * 8192 * 8192
pixels_fit frames height width f h w =
    omega (arith, lines_fit frames height f h, mul-le-mul_left (frames * height) w)

pub words_fit : (lanes clocks : ℕ) → lanes ≤ 4 → clocks < 2 ^ 59 → 2 * lanes * clocks < 2 ^ 62
words_fit lanes clocks l c = omega (arith, mul-le-mul_left clocks l)
