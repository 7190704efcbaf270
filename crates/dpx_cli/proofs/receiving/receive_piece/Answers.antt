use Rattle.std.proofs.Common.{rules, length, take}
use Rattle.dpx_cli.specs.Receiving.{ReadsPiece}
use Rattle.dpx_cli.specs.Step.{◌⇒◌}
use Rattle.dpx_cli.proofs.Receivings.{refusal_stops}
use Rattle.dpx_cli.proofs.receiving.receive_piece.Goals as goal
use Rattle.dpx_sink.specs.Receiver.{link_of}

pub returns-in-Err-clause-ends : goal.returns-in-Err-clause-ends
returns-in-Err-clause-ends g c bytes records text stands fed =
    let src = g.S.Source.seen c.args.src.now ⇒ g.S.Source.seen c.read.new.self in
    let pix = g.O.Sink.seen c.args.pix.now ⇒ g.O.Sink.seen c.feed.new.pix in
    let out = g.O.Sink.seen c.args.out.now ⇒ g.O.Sink.seen c.feed.new.log in
    let piece = take c.in-Ok.count c.read.new.buf in
    let read : ReadsPiece src (length c.args.piece.now) piece = search rules in
    let refused = c.in-Err.ensures in
    rw (c.stop_of_recv.ensures, c.failed_output.ensures)
    (refusal_stops src pix out c.feed.new.self (length c.args.piece.now) bytes records text piece
    (link_of c.args.receiver.now) read c.in-Err.end (refused.feeds bytes records text stands) refused.calm
    (refused.cause stands.is_open))
