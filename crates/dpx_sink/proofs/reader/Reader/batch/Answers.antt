use Rattle.dpx_align.specs.Aligner.{is_enhanced}
use Rattle.dpx_sink.specs.Reader.{Framing}
use Rattle.dpx_lane.specs.Team.{joined}
use Rattle.dpx_sink.proofs.Readers.{given_on, agrees_on}
use Rattle.dpx_sink.proofs.reader.Reader.batch.Goals as goal

pub returns-clause-went : goal.returns-clause-went
returns-clause-went g c = λ f words p l a h.
    c.pump.ensures.went f (joined words c.args.rows.now.rows) p l
    (agrees_on f c.args.self.now c.feed.new.self c.feed.ensures.link.0 c.feed.ensures.link.1 a)
    (record {
      sets = h.sets;
      given = given_on f c.args.self.now.aligner c.feed.new.self words (joined words c.args.rows.now.rows) h.sets
          c.feed.ensures.given (λ plain fed. c.feed.ensures.fed words plain fed) h.given;
      parsed = h.parsed;
      under = h.under;
      tally = h.tally;
      holds = h.holds;
      tell = h.tell;
    })

pub pump-requires : goal.pump-requires
pump-requires g c =
    let f : Framing = record { enhanced = is_enhanced c.args.self.now.aligner; lanes = c.args.rows.now.lanes } in
    record {
      agrees = (
        f,
        agrees_on f c.args.self.now c.feed.new.self c.feed.ensures.link.0 c.feed.ensures.link.1 c.requires.agrees,
      );
    }

pub returns-clause-agrees : goal.returns-clause-agrees
returns-clause-agrees g c = λ f a.
    c.pump.ensures.agrees f
    (agrees_on f c.args.self.now c.feed.new.self c.feed.ensures.link.0 c.feed.ensures.link.1 a)
