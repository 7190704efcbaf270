use Rattle.std.proofs.Common.{◌≡◌}
use Rattle.dpx_base.specs.declared.lanes.Lanes.TheVariants.{Two}
use Rattle.dpx_parse.specs.Parser.{lanes_of}
use Rattle.dpx_stream_tests.proofs.parse.reasons.feed_each.Given as goal

abbrev pub invariant-loop-piece : goal.invariant-loop-piece
invariant-loop-piece l = lanes_of l.parser ≡ Two
