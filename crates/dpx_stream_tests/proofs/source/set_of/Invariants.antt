use Rattle.std.proofs.Common.{◌≡◌, ◌≤◌, ◌*◌, false, None}
use Rattle.dpx_source.specs.Ticker.{shown}
use Rattle.dpx_stream_tests.proofs.source.set_of.Given as goal

abbrev pub invariant-loop-before : goal.invariant-loop-before
invariant-loop-before g l = record {
  given : l.ticker.given ≡ false;
  calm : l.ticker.refusal ≡ None;
  beside : l.beam ≡ record { shown = shown l.ticker.plan; clock = l.ticker.clock };
  clock : l.beam.clock ≡ l.before;
  next : l.next ≤ 2 * l.before;
}
