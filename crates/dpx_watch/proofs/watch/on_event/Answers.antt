use Rattle.dpx_aux.proofs.Parts.{ends}
use Rattle.dpx_watch.proofs.Good.{settled_good}
use Rattle.dpx_watch.proofs.watch.on_event.Goals as goal

pub returns-in-Interrupt-Down-clause-done : goal.returns-in-Interrupt-Down-clause-done
returns-in-Interrupt-Down-clause-done g c = rw (c.in-Interrupt-Down.is-0, c.in-Interrupt-Down.is-1) (ends _ _)

pub returns-in-Loss-default-clause-done : goal.returns-in-Loss-default-clause-done
returns-in-Loss-default-clause-done g c = rw c.in-Loss-default.is-0 (ends _ _)

pub returns-in-Plug-default-clause-good : goal.returns-in-Plug-default-clause-good
returns-in-Plug-default-clause-good g c = settled_good c.args.state c.retrain.result c.retrain.ensures.good
