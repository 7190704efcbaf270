use Rattle.std.proofs.Common.{◌≡◌, ◌≤◌, ◌+◌}
use Rattle.dpx_base.specs.Beam.{pixels_among}
use Rattle.dpx_base.proofs.scan.Scan.steps.Given as goal

abbrev pub invariant-loop-done : goal.invariant-loop-done
invariant-loop-done l = record {
  pixels : l.pixels ≡ pixels_among l.initial.self.mode l.initial.self.frames l.initial.self.tick l.done;
  few : l.pixels ≤ l.done;
  at : l.self ≡ record (l.initial.self) { tick = l.initial.self.tick + l.done };
}
