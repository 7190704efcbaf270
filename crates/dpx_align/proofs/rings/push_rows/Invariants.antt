use Rattle.std.proofs.Common.{◌≡◌, ◌++◌, ◌<◌, ◌≤◌, ℕ, take, map, length}
use Rattle.dpx_lane.specs.Codes.{symbol_of}
use Rattle.dpx_base.specs.Words.{words_of}
use Rattle.dpx_align.specs.Lock.{lane_of}
use Rattle.dpx_align.proofs.rings.push_rows.Given as goal

abbrev pub invariant-loop-lane : goal.invariant-loop-lane
invariant-loop-lane l = record {
  size : length l.rings ≡ length l.initial.rings;
  done : (j : ℕ) → j < length l.initial.rings → j < l.lane
      → lane_of l.rings j ≡ lane_of l.initial.rings j ++ map symbol_of (take l.count (words_of l.rows.rows j));
  rest : (j : ℕ) → j < length l.initial.rings → l.lane ≤ j → lane_of l.rings j ≡ lane_of l.initial.rings j;
}
