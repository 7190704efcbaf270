-- Bounds on the asks and the waits of a port: this project's own.
use Rattle.std.specs.Prelude.{ℕ, ◌+◌, ◌^◌, ◌<◌, ◌≤◌, List, [], ◌∷◌}
use Rattle.dpx_base.specs.declared.aux_port.Entry.{Entry}
use Rattle.dpx_base.specs.declared.aux_port.Entry.TheVariants.{Asked, Waited}
use Rattle.dpx_base.specs.Port.{PortState}

-- so many asks more can be counted
abbrev pub CanAsk : {Plan : Type 0} → ℕ → PortState Plan → Type 0
CanAsk most now = now.asked + most < 2 ^ 64

-- at most so many asks were made
abbrev pub AsksAtMost : {Plan : Type 0} → ℕ → PortState Plan → PortState Plan → Type 0
AsksAtMost most before now = now.asked ≤ before.asked + most

-- how many waits a list of entries has
abbrev pub waits : List Entry → ℕ
waits [] = 0
waits (Asked request answer ∷ entries) = waits entries
waits (Waited micros ∷ entries) = waits entries + 1
