use Rattle.std.proofs.Common.{◌∙◌, arith, sym}
use Rattle.dpx_base.specs.Lanes.{lanes_count}
use Rattle.dpx_reception.specs.Bytes.{received_words}
use Rattle.dpx_sink.specs.Clocks.{framing_of}
use Rattle.dpx_sink.proofs.Ends.{at_end, read_ends}
use Rattle.dpx_sink.proofs.clocks.Clocks.finish.Goals as goal

pub returns-then-len-gt0 : goal.returns-then-len-gt0
returns-then-len-gt0 c = λ taken p l h.
    let at = at_end c.args.self.now taken p l h in (
      omega (arith, at.1, c.if-len-gt0.true, c.len.ensures.value),
      c.len-then-len-gt0.ensures.value ∙ sym at.1,
      sym at.0,
    )

pub returns : goal.returns
returns c = λ taken p l h.
    let clocks = c.args.self.now in
    read_ends clocks taken p l h c.finish.result (omega arith) c.requires.ready.fed
    (c.finish.ensures (framing_of clocks.link) (received_words (lanes_count clocks.link.lanes) h.done) p l
    c.requires.ready.agrees h.read)
