use Rattle.std.proofs.Common.{◌∙◌}
use Rattle.dpx_base.specs.Capture.{header_bytes}
use Rattle.dpx_cli.specs.Step.{◌⇒◌}
use Rattle.dpx_cli.specs.Transfer.{Prints, PrintsFront}
use Rattle.dpx_cli.proofs.Captures.{all_sent, header_broken, some_sent, stops}
use Rattle.dpx_cli.proofs.sending.write_frames.Goals as goal

pub returns-in-Ok-drive : goal.returns-in-Ok-drive
returns-in-Ok-drive g c =
    let p = c.args.sender.now.ticker.plan in
    let headed : Prints (g.O.Sink.seen c.args.pix.now ⇒ g.O.Sink.seen c.write_text.new.out) (header_bytes p.link) =
    rw (c.requires.link, ← c.header_bytes.ensures) c.in-Ok.ensures.whole in
    let did = c.in-Ok-drive.ensures in (
      all_sent p _ _ _ _ _ headed did.whole did.all_sets did.all_bytes,
      did.pipe_faults.calm (λ e. cc),
      did.write_faults.calm (λ e. cc) ∙ headed.calm,
    )

pub returns-in-Err-drive : goal.returns-in-Err-drive
returns-in-Err-drive g c =
    let p = c.args.sender.now.ticker.plan in
    let headed : Prints (g.O.Sink.seen c.args.pix.now ⇒ g.O.Sink.seen c.write_text.new.out) (header_bytes p.link) =
    rw (c.requires.link, ← c.header_bytes.ensures) c.in-Ok.ensures.whole in
    let did = c.in-Err-drive.ensures in
    rw c.stop_of_drive.ensures
    (stops p _ _ _ _ _ headed c.in-Err-drive.end (some_sent p _ _ _ _ _ headed did.sets did.bytes) did.pipe_faults
    did.write_faults did.bad_pixel did.ended did.complete)

pub returns-in-Err : goal.returns-in-Err
returns-in-Err g c =
    let p = c.args.sender.now.ticker.plan in
    let front : PrintsFront (g.O.Sink.seen c.args.pix.now ⇒ g.O.Sink.seen c.write_text.new.out) (header_bytes p.link) =
    rw (c.requires.link, ← c.header_bytes.ensures) c.in-Err.ensures.front in
    header_broken p _ _ c.requires.begun.no_sets front
