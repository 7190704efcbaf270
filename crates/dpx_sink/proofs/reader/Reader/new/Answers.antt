use Rattle.std.proofs.Common.{[], sym, refl, replicate}
use Rattle.dpx_base.specs.Lanes.{lanes_count}
use Rattle.dpx_reception.proofs.Grown.{some_lanes}
use Rattle.dpx_sink.specs.Told.{none, no_tally}
use Rattle.dpx_sink.proofs.Readers.{no_set_there, nothing_told}
use Rattle.dpx_sink.proofs.Starts.{nothing_bad, no_sets}
use Rattle.dpx_sink.proofs.reader.Reader.new.Goals as goal

pub returns-clause-start : goal.returns-clause-start
returns-clause-start c = record {
  sets = [];
  given = record {
    plain = replicate (lanes_count c.args.link.lanes) [];
    fed = c.in_ok-new.ensures.nothing;
    count = sym c.in_ok-new.ensures.none.1;
    first = λ s set e. absurd (no_set_there s set e);
  };
  parsed = c.new-2.ensures.empty;
  under = none;
  tally = no_tally;
  holds = c.in_ok-new-2.ensures.nothing;
  tell = record {
    no_fault = nothing_told c.new-2.result c.args.link.enhanced c.args.link.lanes c.new-2.ensures.enhanced
        c.new-2.ensures.lanes c.new-2.ensures.empty;
    events = [];
    events_are = tt;
    under_is = refl;
    tally_is = refl;
    records_are = refl;
    text_is = refl;
  };
  no_fault = nothing_bad (lanes_count c.args.link.lanes);
  are_sets = no_sets c.args.link.enhanced (lanes_count c.args.link.lanes) (some_lanes c.args.link.lanes);
}
