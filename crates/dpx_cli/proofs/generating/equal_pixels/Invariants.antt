use Rattle.std.proofs.Common.{◌≡◌}
use Rattle.dpx_cli.specs.Generating.{is_equal_at}
use Rattle.dpx_cli.proofs.Equals.{counted}
use Rattle.dpx_cli.proofs.generating.equal_pixels.Given as goal

-- those that are equal so far
abbrev pub invariant-loop-number : goal.invariant-loop-number
invariant-loop-number l = l.equal ≡ counted (is_equal_at l.seed l.depth l.records) 0 l.number
