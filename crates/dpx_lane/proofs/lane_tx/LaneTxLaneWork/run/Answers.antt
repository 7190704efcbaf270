use Rattle.std.proofs.Common.{◌++◌}
use Rattle.dpx_lane.specs.Codes.{AllCodes}
use Rattle.dpx_lane.proofs.Sends.{codes_join, codes_left, codes_right, sent_row}
use Rattle.dpx_lane.proofs.lane_tx.LaneTxLaneWork.run.Goals as goal

pub code_row-requires : goal.code_row-requires
code_row-requires c =
    let waiting = c.args.self.now.waiting.items in
    codes_left c.delay_row.new.row c.delay_row.new.waiting.items (waiting ++ c.args.row.now) c.delay_row.ensures.delayed
    (codes_join waiting c.args.row.now c.args.self.now.codes c.requires)

pub invariant_of-self : goal.invariant_of-self
invariant_of-self c =
    let waiting = c.args.self.now.waiting.items in
    record {
      codes =
          codes_right c.delay_row.new.row c.delay_row.new.waiting.items (waiting ++ c.args.row.now)
          c.delay_row.ensures.delayed (codes_join waiting c.args.row.now c.args.self.now.codes c.requires);
    }

pub returns : goal.returns
returns c =
    sent_row c.args.self.now _ c.args.row.now c.delay_row.new.row c.code_row.new.row c.delay_row.ensures.delayed
    c.delay_row.ensures.row c.code_row.ensures
