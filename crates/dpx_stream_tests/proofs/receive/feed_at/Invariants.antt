use Rattle.std.proofs.Common.{◌≡◌, ◌≤◌, ◌+◌, length}
use Rattle.dpx_sink.specs.Receiver.{bytes_fed, link_of}
use Rattle.dpx_stream_tests.proofs.receive.feed_at.Given as goal

abbrev pub invariant-loop-place : goal.invariant-loop-place
invariant-loop-place g l = record {
  within : l.start ≤ length l.bytes;
  fed : bytes_fed l.receiver ≡ bytes_fed l.fn.receiver + l.start;
  link : link_of l.receiver ≡ link_of l.fn.receiver;
}
