use Rattle.dpx_lane.proofs.Entries.{is_entry}
use Rattle.dpx_lane.proofs.word_table.entry.Goals as goal

pub returns : goal.returns
returns c h =
    is_entry c.symbol_of.result c.args.code c.packed.result c.coded-word.result.0 c.args.plus c.coded-word.result.1
    c.coded-word.ensures.codes c.symbol_of.ensures.value c.packed.ensures.word c.packed.ensures.next
