use Rattle.std.proofs.Common.{◌≡◌, ◌<◌, ◌≤◌, ℕ, drop, length}
use Rattle.std.specs.Prelude.{slice_index_or}
use Rattle.dpx_base.specs.Words.{fill}
use Rattle.dpx_align.specs.Lock.{lane_of}
use Rattle.dpx_align.specs.Search.{head}
use Rattle.dpx_align.proofs.rings.take_firsts.Given as goal

abbrev pub invariant-loop-lane : goal.invariant-loop-lane
invariant-loop-lane g l = record {
  size : length l.rings ≡ length l.initial.rings;
  long : length l.symbols ≡ g.row.LANES;
  taken : (j : ℕ) → j < g.row.LANES → j < l.lane → slice_index_or l.symbols j fill ≡ head (lane_of l.initial.rings j);
  done : (j : ℕ) → j < g.row.LANES → j < l.lane → lane_of l.rings j ≡ drop 1 (lane_of l.initial.rings j);
  rest : (j : ℕ) → j < g.row.LANES → l.lane ≤ j → lane_of l.rings j ≡ lane_of l.initial.rings j;
}
