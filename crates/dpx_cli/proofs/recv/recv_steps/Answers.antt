use Rattle.std.proofs.Common.{◌≡◌, rules, Ok, Err, subst}
use Rattle.dpx_base.specs.declared.link.Link.{Link}
use Rattle.dpx_sink.specs.Receiver.{EndsAs}
use Rattle.dpx_cli.specs.Recv.{AllReceived}
use Rattle.dpx_cli.specs.Step.{◌⇒◌}
use Rattle.dpx_cli.proofs.Receivings.{reported, unfinished}
use Rattle.dpx_cli.proofs.recv.recv_steps.Goals as goal

pub returns-in-Ok : goal.returns-in-Ok
returns-in-Ok g c =
    let src = g.S.Source.seen c.args.src.now ⇒ g.S.Source.seen c.receive.new.src in
    let pix = g.O.Sink.seen c.args.pix.now ⇒ g.O.Sink.seen c.receive.new.pix in
    let out = g.O.Sink.seen c.args.out.now in
    let out_one = g.O.Sink.seen c.receive.new.out in
    let out_now = g.O.Sink.seen c.print_received.new.out in
    let all : AllReceived src pix (out ⇒ out_one) c.in_ok-receiver.receiver = search rules in
    let ended = c.in-Ok.ensures.ends all.bytes all.received.records all.received.text all.received.stands in
    let ends = subst (λ (l : Link). EndsAs l all.bytes (Ok c.in-Ok.received)) all.received.over ended in
    reported src pix (c.receive.new.pix ≡ c.args.pix.now) out out_one out_now c.in_ok-receiver.receiver all
    c.in-Ok.received c.print_received.result ends c.print_received.ensures

pub returns : goal.returns
returns g c =
    let src = g.S.Source.seen c.args.src.now ⇒ g.S.Source.seen c.receive.new.src in
    let pix = g.O.Sink.seen c.args.pix.now ⇒ g.O.Sink.seen c.receive.new.pix in
    let out = g.O.Sink.seen c.args.out.now in
    let out_one = g.O.Sink.seen c.receive.new.out in
    let all : AllReceived src pix (out ⇒ out_one) c.in_ok-receiver.receiver = search rules in
    let ended = c.in-Err.ensures.ends all.bytes all.received.records all.received.text all.received.stands in
    let ends = subst (λ (l : Link). EndsAs l all.bytes (Err c.in-Err.end)) all.received.over ended in
    unfinished src pix (c.receive.new.pix ≡ c.args.pix.now) out out_one out_one c.in_ok-receiver.receiver all c.in-Err.end
    ends
