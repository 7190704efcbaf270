use Rattle.std.proofs.Common.{◌≡◌, ◌<◌, ℕ, length}
use Rattle.std.specs.Prelude.{slice_index}
use Rattle.dpx_base.specs.Lanes.{lanes_count}
use Rattle.dpx_parse.specs.Columns.{dealt_place}
use Rattle.dpx_parse.proofs.columns.deal.Given as goal

abbrev pub invariant-loop-place : goal.invariant-loop-place
invariant-loop-place l = record {
  all : length l.columns ≡ 36;
  dealt : (i : ℕ) → i < l.place → slice_index l.columns i ≡ slice_index l.bytes (dealt_place (lanes_count l.lanes) i);
}
