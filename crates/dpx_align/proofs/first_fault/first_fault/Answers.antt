use Rattle.std.proofs.Common.{◌+◌, sym, subst}
use Rattle.dpx_base.specs.Words.{words_of}
use Rattle.dpx_align.specs.FirstFault.{FirstOf}
use Rattle.dpx_align.proofs.FirstFaults.{first_with}
use Rattle.dpx_align.proofs.Teams.{read_of}
use Rattle.dpx_align.proofs.first_fault.first_fault.Goals as goal

pub loop-lane-preserved : goal.loop-lane-preserved
loop-lane-preserved c = λ words left h.
    let lane = c.loop-lane.lane in
    let read = read_of c.args.team.now.states words left h lane c.lane.result.now c.lane.ensures in
    subst (λ best. FirstOf words (lane + 1) best) (sym c.with_lane-best.ensures)
    (first_with words lane c.loop-lane.best c.fault.result (c.loop-lane.invariant words left h)
    (c.fault.ensures.first (words_of words lane) (words_of left lane) read))
