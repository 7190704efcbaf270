use Rattle.std.proofs.Common.{◌≡◌, ◌+◌, ◌*◌, ◌≤◌, length, take}
use Rattle.dpx_watch.specs.Step.{step_asks}
use Rattle.dpx_cli.proofs.Watches.{HasTaken}
use Rattle.dpx_cli.proofs.watching.take_events.Given as goal

-- the events before this number were taken
abbrev pub invariant-loop-number : goal.invariant-loop-number
invariant-loop-number g l = record {
  taken : HasTaken l.fn.link (take l.number l.events) l.watch (g.P.AuxPort.state l.fn.port)
      (g.P.AuxPort.state l.port) l.fn.report l.report;
  within : l.number ≤ length l.events;
  end : l.number-end ≡ length l.events;
  few : (g.P.AuxPort.state l.port).asked ≤ (g.P.AuxPort.state l.fn.port).asked + l.number * step_asks;
}
