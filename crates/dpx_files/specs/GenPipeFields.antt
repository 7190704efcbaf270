-- The fields of a pipe over generated pixels: what contracts see of them, and how it keeps its place.
use Rattle.std.specs.Prelude.{◌≡◌, ◌≤◌, ◌^◌, false, IfSome, option_map}
use Rattle.dpx_base.specs.Beam.{pixels_before}
use Rattle.dpx_files.specs.declared.gen_pipe.GenPipe.TheInside.{Inside}
use Rattle.dpx_files.specs.Generator.{gen_shape, gen_count}
use Rattle.dpx_files.specs.GenPipe.{PipeOfNumber}

abbrev pub seen_of : Inside → PipeOfNumber
seen_of p = record {
  seed = p.seed;
  begun = option_map (λ beam. beam.shown) p.beam;
  clocks = p.clocks;
  clock = p.clock;
  refused = p.refused;
}

-- while it goes on, its beam is at its clock, and it has given the pixels before that
pub record IsInPipe (p : Inside) : Type 0 where
  pub depth : p.depth ≡ (gen_shape p.seed).mode.depth
  pub count : p.count ≡ gen_count p.seed
  pub given : p.refused ≡ false → IfSome p.beam (λ beam. p.given ≡ pixels_before beam.shown beam.clock)
  pub at : p.refused ≡ false → IfSome p.beam (λ beam. beam.clock ≡ p.clock)
  pub within : p.given ≤ p.count
  pub short : p.clocks ≤ 2 ^ 62
