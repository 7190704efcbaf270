use Rattle.std.proofs.Common.{◌≡◌, ◌-◌, ◌++◌, ℕ, List, length, take}
use Rattle.dpx_base.specs.declared.pixel.Pixel.{Pixel}
use Rattle.dpx_buffer.specs.Buffer.{Holds}
use Rattle.dpx_buffer.proofs.Shift.{RoomFor}
use Rattle.dpx_buffer.proofs.line_buffer.LineBuffer.absorb.Given as goal

abbrev pub invariant-loop-place : goal.invariant-loop-place
invariant-loop-place l = record {
  plan : l.self.plan ≡ l.initial.self.plan;
  room : RoomFor l.self (length l.arrivals - l.place);
  holds : (pixels : List Pixel) (taken : ℕ) → Holds pixels taken l.initial.self
      → Holds (pixels ++ take l.place l.arrivals) taken l.self;
}
