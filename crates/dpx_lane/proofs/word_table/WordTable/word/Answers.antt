use Rattle.dpx_lane.proofs.Entries.{entry_there}
use Rattle.dpx_lane.proofs.word_table.WordTable.word.Goals as goal

pub returns : goal.returns
returns c =
    entry_there c.self.inside.entries c.args.code c.args.plus c.place.result c.self.invariant
    c.place.ensures.below c.place.ensures.code c.place.ensures.plus c.requires
