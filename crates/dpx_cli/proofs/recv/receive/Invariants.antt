use Rattle.std.proofs.Common.{◌≡◌, length}
use Rattle.dpx_sink.specs.Receiver.{link_of}
use Rattle.dpx_cli.specs.Receiving.{StillReceives}
use Rattle.dpx_cli.specs.Step.{◌⇒◌}
use Rattle.dpx_cli.proofs.recv.receive.Given as goal

-- this was received so far
abbrev pub invariant-loop-left : goal.invariant-loop-left
invariant-loop-left g l = record {
  received :
      StillReceives (link_of l.receiver) (g.S.Source.seen l.fn.src ⇒ g.S.Source.seen l.src)
      (g.O.Sink.seen l.fn.pix ⇒ g.O.Sink.seen l.pix) (g.O.Sink.seen l.fn.out ⇒ g.O.Sink.seen l.out) l.receiver l.left;
  piece : length l.piece ≡ 65536;
}

abbrev pub decreases-loop-left : goal.decreases-loop-left
decreases-loop-left g l = l.left
