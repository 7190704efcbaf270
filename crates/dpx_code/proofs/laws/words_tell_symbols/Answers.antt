use Rattle.std.proofs.Common.{sym, ◌∙◌}
use Rattle.std.proofs.lemmas.List.Elements.{recursion_from_All}
use Rattle.dpx_base.specs.Code.{IsSymbol}
use Rattle.dpx_code.proofs.Columns.{reads_symbol}
use Rattle.dpx_code.proofs.Lists.{coded_map, coded_once, coded_there}
use Rattle.dpx_code.proofs.Small.{codes_small}
use Rattle.dpx_code.proofs.laws.words_tell_symbols.Goals as goal

pub returns-clause-once : goal.returns-clause-once
returns-clause-once c s t plus other next last word h k =
    sym (reads_symbol s plus next word h) ∙ reads_symbol t other last word k

pub returns-clause-fits : goal.returns-clause-fits
returns-clause-fits c s plus next word h = codes_small s plus next word h

pub returns-clause-symbols : goal.returns-clause-symbols
returns-clause-symbols c from other end last ss tt' words h k =
    coded_map from ss words end h ∙ sym (coded_map other tt' words last k)

pub returns-clause-words : goal.returns-clause-words
returns-clause-words c from end last ss words others h k = coded_once from ss words others end last h k

pub returns-clause-there : goal.returns-clause-there
returns-clause-there c from ss h = coded_there from ss (recursion_from_All IsSymbol ss h)
