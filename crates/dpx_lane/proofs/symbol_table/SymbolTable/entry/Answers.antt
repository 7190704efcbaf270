use Rattle.dpx_lane.proofs.Entries.{reading_there}
use Rattle.dpx_lane.proofs.symbol_table.SymbolTable.entry.Goals as goal

pub returns : goal.returns
returns c =
    reading_there c.self.inside.entries c.args.word c.args.rd c.place.result c.self.invariant
    c.place.ensures.below c.place.ensures.word c.place.ensures.rd
