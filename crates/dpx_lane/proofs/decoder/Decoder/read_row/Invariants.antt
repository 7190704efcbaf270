use Rattle.std.proofs.Common.{◌≡◌, ◌++◌, ◌+◌, ◌≤◌, ℕ, List, take, drop}
use Rattle.dpx_lane.specs.Receiving.{HasDecoded}
use Rattle.dpx_lane.proofs.decoder.Decoder.read_row.Given as goal

abbrev pub invariant-loop-word : goal.invariant-loop-word
invariant-loop-word l = record {
  state : (words left : List ℕ) → HasDecoded l.initial.local words left
      → HasDecoded l.local (words ++ take l.word-index l.initial.row) (left ++ take l.word-index l.row);
  rest : drop l.word-index l.row ≡ drop l.word-index l.initial.row;
  clock : l.local.clock ≤ l.initial.local.clock + l.word-index;
}
