use Rattle.std.proofs.Common.{◌≡◌, ◌++◌, ℕ, List, take, drop}
use Rattle.dpx_lane.specs.Sending.{HasCoded}
use Rattle.dpx_lane.proofs.coder.Coder.code_row.Given as goal

abbrev pub invariant-loop-code : goal.invariant-loop-code
invariant-loop-code l = record {
  coded : (codes words : List ℕ) → HasCoded l.initial.local codes words
      → HasCoded l.local (codes ++ take l.code-index l.initial.row) (words ++ take l.code-index l.row);
  rest : drop l.code-index l.row ≡ drop l.code-index l.initial.row;
}
