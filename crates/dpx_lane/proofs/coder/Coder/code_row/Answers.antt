use Rattle.std.proofs.Common.{IsTrue, subst, sym}
use Rattle.dpx_lane.specs.Codes.{is_code}
use Rattle.dpx_lane.specs.Sending.{HasCoded}
use Rattle.dpx_lane.proofs.RowSteps.{row_more, rest_more, entry_left}
use Rattle.dpx_lane.proofs.coder.Coder.code_row.Goals as goal

pub word-requires : goal.word-requires
word-requires c =
    let e = entry_left c.args.row.now c.loop-code.row c.loop-code.code-index c.loop-code.invariant.rest in
    subst (λ code. IsTrue (is_code code)) (sym e) (c.requires c.loop-code.code-index c.loop-code-test.true)

pub loop-code-preserved : goal.loop-code-preserved
loop-code-preserved c = record {
  coded =
      row_more (HasCoded c.args.self.now) (HasCoded c.loop-code.local) (HasCoded c.word.new.self) c.args.row.now
      c.loop-code.row c.loop-code.code-index c.word.result c.loop-code-test.true c.loop-code.auto.row
      c.loop-code.invariant.coded c.loop-code.invariant.rest c.word.ensures;
  rest = rest_more c.args.row.now c.loop-code.row c.loop-code.code-index c.word.result c.loop-code.invariant.rest;
}
