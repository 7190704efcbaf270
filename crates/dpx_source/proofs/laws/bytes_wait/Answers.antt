use Rattle.dpx_source.proofs.Law.{waiting_law, none_wait}
use Rattle.dpx_source.proofs.Ready.{ready_is}
use Rattle.dpx_source.proofs.laws.bytes_wait.Goals as goal

pub returns : goal.returns
returns c = λ pixels s.
    let ready = ready_is c.ticker.inside.plan c.ticker.invariant.ticker.planned in
    record {
      of_a_line = λ i lane h some few.
          waiting_law c.args.ticker.now pixels i lane (rw (← c.ticker.view_is) ready) c.requires s h some few;
      of_none = λ none lane few.
          none_wait c.args.ticker.now pixels lane (rw (← c.ticker.view_is) ready) c.requires s none few;
    }
