use Rattle.std.proofs.Common.{◌≡◌, drop, map, string_bytes}
use Rattle.std.specs.List.{list_any}
use Rattle.dpx_words.specs.Dashes.{has_dash}
use Rattle.dpx_words.proofs.reading.any_dash.Given as goal

abbrev pub invariant-loop-word : goal.invariant-loop-word
invariant-loop-word l = list_any has_dash (map string_bytes (drop l.word-index l.words)) ≡ list_any has_dash (map string_bytes l.words)
