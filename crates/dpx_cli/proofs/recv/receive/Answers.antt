use Rattle.std.proofs.Common.{◌≡◌, rules, arith, refl, sym, subst, drop, length-append, length-drop, ℕ, Ok}
use Rattle.std.proofs.lemmas.List.{length-take}
use Rattle.std.proofs.lemmas.Result.{err_from_is_err_and}
use Rattle.dpx_base.specs.declared.link.Link.{Link}
use Rattle.dpx_sink.specs.Receiver.{link_of}
use Rattle.dpx_cli.specs.Receiving.{ReadsHeader, StillReceives}
use Rattle.dpx_cli.specs.Step.{◌⇒◌}
use Rattle.dpx_cli.proofs.Receivings.{ended, goes_on, no_memory, no_more, starts, stops, too_much}
use Rattle.dpx_cli.proofs.recv.receive.Goals as goal

pub returns-in_default : goal.returns-in_default
returns-in_default g c =
    let src = g.S.Source.seen c.args.src.now ⇒ g.S.Source.seen c.read_capture_header.new.src in
    let header : ReadsHeader src (Ok c.in_ok-link.link) = search rules in
    no_memory _ _ _ _ (c.args.pix.now ≡ c.args.pix.now) refl header.1

pub loop-left-init : goal.loop-left-init
loop-left-init g c =
    let src = g.S.Source.seen c.args.src.now ⇒ g.S.Source.seen c.read_capture_header.new.src in
    let pix = g.O.Sink.seen c.args.pix.now in
    let out = g.O.Sink.seen c.args.out.now in
    let header : ReadsHeader src (Ok c.in_ok-link.link) = search rules in
    let receiver = c.in-Ok.receiver in
    let over : link_of receiver ≡ c.in_ok-link.link = c.in-Ok.ensures.link in
    record {
      received =
          subst (λ (l : Link). StillReceives l src (pix ⇒ pix) (out ⇒ out) receiver 1099511627768) (sym over)
          (starts c.in_ok-link.link _ _ pix out receiver c.in-Ok.ensures.nothing over c.in-Ok.ensures.none header);
      piece = search rules;
    }

pub returns-in_err-count : goal.returns-in_err-count
returns-in_err-count g c =
    let p = err_from_is_err_and c.from_residual-in_err-count.result c.from_residual-in_err-count.ensures.1 in
    let r = c.loop-left.invariant.received in
    let e = c.in_err-count.ensures.ends r.bytes r.received.records r.received.text r.received.stands r.received.fed in
    rw (p.1, p.2)
    (stops (link_of c.loop-left.receiver) _ _ _ _ _ _ _ _ _ c.loop-left.receiver c.receive_piece.new.receiver c.loop-left.left
    r _ _ _ e (omega (arith, length-take {A = ℕ}, c.min-room.ensures)))

pub returns-then-count-eq0 : goal.returns-then-count-eq0
returns-then-count-eq0 g c =
    let r = c.loop-left.invariant.received in
    let f = c.in_ok-count.ensures.ends r.bytes r.received.records r.received.text r.received.stands r.received.fed in
    ended (link_of c.loop-left.receiver) _ _ _ _ _ _ _ _ _ c.loop-left.receiver c.receive_piece.new.receiver c.loop-left.left
    r _ _ c.if-count-eq0.true c.receive_piece.ensures.link f

pub overflow_sub-left-in-loop-left : goal.overflow_sub-left-in-loop-left
overflow_sub-left-in-loop-left g c =
    let r = c.loop-left.invariant.received in
    let f = c.in_ok-count.ensures.ends r.bytes r.received.records r.received.text r.received.stands r.received.fed in
    omega (arith, f.counted, f.read.few, length-take {A = ℕ}, c.min-room.ensures)

pub loop-left-preserved : goal.loop-left-preserved
loop-left-preserved g c =
    let r = c.loop-left.invariant.received in
    let f = c.in_ok-count.ensures.ends r.bytes r.received.records r.received.text r.received.stands r.received.fed in
    record {
      received =
          goes_on (link_of c.loop-left.receiver) _ _ _ _ _ _ _ _ _ c.loop-left.receiver c.receive_piece.new.receiver
          c.loop-left.left r _ _ c.receive_piece.ensures.link f
          (omega (arith, f.counted, f.read.few, length-take {A = ℕ}, c.min-room.ensures));
      piece =
          omega (
            arith,
            length-append c.receive_piece.new.piece (drop c.min-room.result c.loop-left.piece),
            length-drop c.min-room.result c.loop-left.piece,
            length-take c.min-room.result c.loop-left.piece,
            c.receive_piece.ensures.piece,
            c.loop-left.invariant.piece,
            c.min-room.ensures,
          );
    }

pub returns-in_err-read_no_more : goal.returns-in_err-read_no_more
returns-in_err-read_no_more g c =
    let p = err_from_is_err_and c.from_residual-in_err-read_no_more.result
    c.from_residual-in_err-read_no_more.ensures.1 in
    let none : c.loop-left.left ≡ 0 = omega (arith, c.loop-left-test.false) in
    let r = rw none at c.loop-left.invariant.received in
    let e = c.in_err-read_no_more.ensures in
    rw (p.1, p.2) (too_much (link_of c.loop-left.receiver) _ _ _ _ _ _ _ c.loop-left.receiver r _ _ e)

pub returns : goal.returns
returns g c =
    let none : c.loop-left.left ≡ 0 = omega (arith, c.loop-left-test.false) in
    let r = rw none at c.loop-left.invariant.received in
    no_more (link_of c.loop-left.receiver) _ _ _ _ _ _ _ c.loop-left.receiver r c.in_ok-read_no_more.ensures
