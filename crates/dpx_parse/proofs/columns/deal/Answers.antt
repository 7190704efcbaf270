use Rattle.std.proofs.Common.{◌≡◌, ◌+◌, ◌<◌, ◌∙◌, length, length-set, get_or, sym, ap, arith}
use Rattle.std.specs.Prelude.{slice_index}
use Rattle.dpx_base.specs.Lanes.{lanes_count}
use Rattle.dpx_grammar.proofs.Lists.{map_range_is}
use Rattle.dpx_parse.specs.Columns.{dealt, dealt_place}
use Rattle.dpx_parse.proofs.columns.deal.Goals as goal
use Rattle.dpx_parse.proofs.Bytes.{set_more}

pub loop-place-preserved : goal.loop-place-preserved
loop-place-preserved c =
    let r : c.loop-place.place < length c.loop-place.columns =
    omega (arith, c.loop-place.invariant.all, c.loop-place-test.true) in
    record {
      all = length-set c.loop-place.columns c.loop-place.place _ ∙ c.loop-place.invariant.all;
      dealt = set_more (λ j. slice_index c.args.bytes.now
          (dealt_place (lanes_count c.args.lanes) j)) c.loop-place.columns c.loop-place.place _ r
          (ap (λ n. get_or c.args.bytes.now n 0) c.dealt_place.ensures.value) c.loop-place.invariant.dealt;
    }

pub returns : goal.returns
unfolding dealt
returns c =
    sym (map_range_is (λ j. slice_index c.args.bytes.now
    (dealt_place (lanes_count c.args.lanes) j)) 0 36 c.loop-place.columns 0 c.loop-place.invariant.all
    (λ i l.
    let e : 0 + i ≡ i = omega arith in
    let b : i < c.loop-place.place = omega (arith, c.loop-place-test.false, l) in
    ap (λ j. slice_index c.args.bytes.now (dealt_place (lanes_count c.args.lanes) j)) e
    ∙ sym (c.loop-place.invariant.dealt i b)))
