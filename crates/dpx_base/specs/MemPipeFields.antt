-- The fields of a pipe in memory: what contracts see of them, and how it keeps its place.
use Rattle.std.specs.Prelude.{◌≡◌, ◌≤◌, ◌^◌, false, length, IfSome, option_map, vec_capacity}
use Rattle.dpx_base.specs.declared.mem_pipe.MemPipe.TheInside.{Inside}
use Rattle.dpx_base.specs.Beam.{pixels_before}
use Rattle.dpx_base.specs.MemPipe.{PipeInMemory}

abbrev pub seen_of : Inside → PipeInMemory
seen_of p = record {
  pixels = p.pixels.items;
  fails = p.fails.items;
  begun = option_map (λ beam. beam.shown) p.beam;
  clocks = p.clocks;
  clock = p.clock;
  refused = p.refused;
  sets = p.sets.items;
  faults = p.faults;
}

-- while it goes on, its beam is at its clock, it has given the pixels before that, and has room for the sets to come
pub record IsInPipe (p : Inside) : Type 0 where
  pub given : p.refused ≡ false → IfSome p.beam (λ beam. p.given ≡ pixels_before beam.shown beam.clock)
  pub at : p.refused ≡ false → IfSome p.beam (λ beam. beam.clock ≡ p.clock)
  pub within : p.given ≤ length p.pixels.items
  pub room : p.refused ≡ false → p.clocks ≤ vec_capacity p.sets
  pub count : length p.sets.items ≡ p.clock
  pub short : p.clocks ≤ 2 ^ 62
