use Rattle.std.proofs.Common.{◌≡◌}
use Rattle.dpx_base.specs.declared.lanes.Lanes.TheVariants.{One}
use Rattle.dpx_parse.specs.Parser.{lanes_of}
use Rattle.dpx_stream_tests.proofs.parse.feed.Given as goal

abbrev pub invariant-loop-code : goal.invariant-loop-code
invariant-loop-code l = lanes_of l.parser ≡ One
