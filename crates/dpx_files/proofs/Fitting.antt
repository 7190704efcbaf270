-- What a number gives fits its link: each of the four by its numbers.
use Rattle.std.proofs.Common.{ℕ, ◌%◌, ◌≤◌, Bool, true, false, arith, rules}
use Rattle.std.specs.Prelude.{◌==◌, if◌then◌else◌}
use Rattle.dpx_base.specs.Mode.{IsLegal}
use Rattle.dpx_base.specs.Plan.{IsPlan, timing_of}
use Rattle.dpx_base.specs.Timing.{IsFit, n, m, symbols, delay, line_end, gap, unit_of, last_unit, carried}
use Rattle.dpx_base.specs.Timing.{floor_div, ceil_div}
use Rattle.dpx_files.specs.declared.generator.Sample.{Sample}
use Rattle.dpx_files.specs.Generator.{smallest, vga, full_hd, ultra_hd, sample_of, gen_plan}

-- a sample of the table whose frames are sent over its link
pub record Fits (sample : Sample) : Type 0 where
  pub mode : IsLegal sample.mode
  pub unit : (32 ≤ sample.unit) × (sample.unit ≤ 64)
  pub fits : IsFit (timing_of sample.mode sample.link sample.unit)

smallest_fits : Fits smallest
unfolding n m symbols delay line_end gap unit_of last_unit carried floor_div ceil_div
smallest_fits = record {
  mode = search rules;
  unit = (omega arith, omega arith);
  fits = record { not_too_fast = omega arith; not_too_slow = omega arith; room = omega arith };
}

vga_fits : Fits vga
unfolding n m symbols delay line_end gap unit_of last_unit carried floor_div ceil_div
vga_fits = record {
  mode = search rules;
  unit = (omega arith, omega arith);
  fits = record { not_too_fast = omega arith; not_too_slow = omega arith; room = omega arith };
}

full_hd_fits : Fits full_hd
unfolding n m symbols delay line_end gap unit_of last_unit carried floor_div ceil_div
full_hd_fits = record {
  mode = search rules;
  unit = (omega arith, omega arith);
  fits = record { not_too_fast = omega arith; not_too_slow = omega arith; room = omega arith };
}

ultra_hd_fits : Fits ultra_hd
unfolding n m symbols delay line_end gap unit_of last_unit carried floor_div ceil_div
ultra_hd_fits = record {
  mode = search rules;
  unit = (omega arith, omega arith);
  fits = record { not_too_fast = omega arith; not_too_slow = omega arith; room = omega arith };
}

by_tests : (first second third : Bool)
    → Fits (if first then smallest else if second then vga else if third then full_hd else ultra_hd)
by_tests true second third = smallest_fits
by_tests false true third = vga_fits
by_tests false false true = full_hd_fits
by_tests false false false = ultra_hd_fits

sample_fits : (seed : ℕ) → Fits (sample_of seed)
unfolding sample_of
sample_fits seed = by_tests (seed % 4 == 0) (seed % 4 == 1) (seed % 4 == 2)

pub frames_fit : (seed : ℕ) → IsPlan (gen_plan seed)
frames_fit seed =
    let sample = sample_fits seed in
    record { mode = sample.mode; unit = sample.unit; frames = (omega arith, omega arith); fits = sample.fits }
