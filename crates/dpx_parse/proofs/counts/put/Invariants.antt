use Rattle.std.proofs.Common.{◌≡◌, ◌+◌, drop}
use Rattle.dpx_base.specs.Symbols.{bytes_of}
use Rattle.dpx_parse.specs.Bytes.{put}
use Rattle.dpx_parse.proofs.counts.put.Given as goal

abbrev pub invariant-loop-symbol : goal.invariant-loop-symbol
invariant-loop-symbol l = record {
  at : l.at ≡ l.place + l.symbol-index;
  bytes : put l.bytes l.at (bytes_of (drop l.symbol-index l.set)) ≡ put l.fn.bytes l.place (bytes_of l.set);
}
