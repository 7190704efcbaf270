use Rattle.std.proofs.Common.{◌++◌, Some, refl}
use Rattle.dpx_sink.specs.Writes.{sinks}
use Rattle.dpx_sink.proofs.FrontsDue.{taken_due, seen_feeds}
use Rattle.dpx_sink.proofs.Writes.{wrote_so}
use Rattle.dpx_sink.proofs.receiver.Receiver.feed.Goals as goal

pub returns-in-Ok-clause-feeds : goal.returns-in-Ok-clause-feeds
returns-in-Ok-clause-feeds g c = λ taken p l st.
    wrote_so _ _ p l _ _ (c.in-Ok.ensures.went taken p l st.taken)
    (λ q m h. record {
      taken = h;
      is_open = st.is_open;
      due = taken_due c.take.new.self (taken ++ c.args.bytes.now) q m h;
    })

pub returns-in-Err-clause-feeds : goal.returns-in-Err-clause-feeds
returns-in-Err-clause-feeds g c = λ taken p l st.
    let old = c.args.self.now in
    let refused = Some c.in-Err.refusal in
    seen_feeds (record { clocks = old.clocks; refused = refused; ready = λ e. absurd (cc) }) old.clocks.link
    (sinks (g.O.Sink.seen c.args.pix.now) (g.O.Sink.seen c.args.log.now))
    (sinks (g.O.Sink.seen c.take.new.pix) (g.O.Sink.seen c.take.new.log)) (taken ++ c.args.bytes.now) p l
    c.in-Err.refusal c.end-in-Err.result c.end-in-Err.ensures refl (c.in-Err.ensures.went taken p l st.taken)
