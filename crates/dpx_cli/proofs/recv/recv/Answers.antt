use Rattle.std.proofs.Common.{ap}
use Rattle.dpx_cli.specs.Step.{◌⇒◌}
use Rattle.dpx_cli.proofs.Printings.{command_prints}
use Rattle.dpx_cli.proofs.Recvs.{CaptureLaws, recv_does}
use Rattle.dpx_cli.proofs.recv.recv.Goals as goal

pub returns : goal.returns
returns g c =
    let steps = c.recv_steps-done.ensures in
    let src = g.S.Source.seen c.args.src.now ⇒ g.S.Source.seen c.recv_steps-done.new.src in
    let pix = g.O.Sink.seen c.args.pix.now ⇒ g.O.Sink.seen c.recv_steps-done.new.pix in
    let out = g.O.Sink.seen c.args.out.now ⇒ g.O.Sink.seen c.finish.new.out in
    let laws : CaptureLaws = record {
      headers = c.headers_come_back.ensures;
      one_end = c.one_end.ensures;
      one_reception = c.one_reception.ensures;
      faults_stay = c.faults_stay.ensures;
      received = c.captures_are_received.ensures;
      written = c.a_capture_is_received.ensures;
    } in
    recv_does laws src pix _ (λ kept. ap (λ o. g.O.Sink.seen o) kept) out c.finish.result c.recv_steps-done.result
    steps.said steps.caused
    (command_prints _ _ _ steps.said c.recv_steps-done.result c.finish.result steps.printed c.finish.ensures)
