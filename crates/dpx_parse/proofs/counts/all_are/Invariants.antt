use Rattle.std.proofs.Common.{◌≡◌, drop}
use Rattle.dpx_base.specs.Symbols.{bytes_of}
use Rattle.dpx_parse.specs.Faults.{all_are}
use Rattle.dpx_parse.proofs.counts.all_are.Given as goal

abbrev pub invariant-loop-symbol : goal.invariant-loop-symbol
invariant-loop-symbol l = all_are l.id (bytes_of (drop l.symbol-index l.set)) ≡ all_are l.id (bytes_of l.set)
