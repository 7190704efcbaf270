use Rattle.std.proofs.Common.{◌≡◌}
use Rattle.dpx_base.specs.declared.lanes.Lanes.TheVariants.{Two}
use Rattle.dpx_parse.specs.Parser.{lanes_of}
use Rattle.dpx_stream_tests.proofs.parse.sent.read.Given as goal

abbrev pub invariant-loop-number : goal.invariant-loop-number
invariant-loop-number l = lanes_of l.parser ≡ Two
