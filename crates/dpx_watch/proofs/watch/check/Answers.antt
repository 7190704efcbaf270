use Rattle.std.proofs.Common.{rules}
use Rattle.dpx_aux.proofs.Parts.{then_ok, choose_false}
use Rattle.dpx_watch.specs.Step.{Checks}
use Rattle.dpx_watch.proofs.watch.check.Goals as goal

pub returns-else-all_lanes_done-clause-done : goal.returns-else-all_lanes_done-clause-done
unfolding Checks
returns-else-all_lanes_done-clause-done g c =
    then_ok c.in_ok-last.ensures.reads (choose_false (search rules) c.retrain.ensures.done)

pub returns-else-all_lanes_done-clause-good : goal.returns-else-all_lanes_done-clause-good
returns-else-all_lanes_done-clause-good g c = c.retrain.ensures.good c.args.link.lanes
