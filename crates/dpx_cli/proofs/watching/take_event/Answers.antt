use Rattle.std.proofs.Common.{◌≡◌, refl, arith}
use Rattle.dpx_base.specs.Port.{asks}
use Rattle.dpx_cli.proofs.watching.take_event.Goals as goal

pub returns-clause-taken : goal.returns-clause-taken
returns-clause-taken g c =
    let step = c.step-stepped.ensures.step in
    let requests : c.step-stepped.result.requests ≡ asks step.entries =
    omega (arith, c.step-stepped.ensures.counted, step.added.asked) in
    record {
      taken = record { event = c.args.event; outcome = c.step-stepped.result.outcome; history = step.entries };
      event_is = refl;
      stepped = step.done;
      added = step.added;
      watch_is = c.step-stepped.ensures.state;
      written = rw (requests, c.allows.ensures) at c.push_event.ensures;
    }
