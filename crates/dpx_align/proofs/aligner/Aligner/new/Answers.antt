use Rattle.std.proofs.Common.{sym, ap, ◌∙◌, arith}
use Rattle.dpx_base.specs.Lanes.{lanes_count}
use Rattle.dpx_align.proofs.Fed.{at_most_none}
use Rattle.dpx_align.proofs.aligner.Aligner.new.Goals as goal

pub invariant_of-result : goal.invariant_of-result
invariant_of-result c = record {
  lanes = c.in_ok-new.ensures.lanes ∙ sym (ap lanes_count c.rx.ensures.lanes);
  taken = omega (arith, c.in_ok-new.ensures.none.1);
  few = omega arith;
  reads = at_most_none (lanes_count c.args.link.lanes) c.rx.result.states c.rx.ensures.nothing;
}
