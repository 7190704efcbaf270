-- What holds of every list of sets and of its events.
use Rattle.std.specs.Prelude.{ℕ, ◌≡◌, Bool, List, []}
use Rattle.dpx_base.specs.declared.lanes.Lanes.{Lanes}
use Rattle.dpx_base.specs.declared.sym.Sym.{Sym}
use Rattle.dpx_base.specs.Lanes.{lanes_count}
use Rattle.dpx_grammar.specs.Accepted.{Frame, Receives, IsAccepted}
use Rattle.dpx_parse.specs.declared.bad.ParseWhy.{ParseWhy}
use Rattle.dpx_parse.specs.FirstFault.{HasNoFault, IsReason, IsEvent}
use Rattle.dpx_parse.specs.Received.{AreEvents, heard, frames_heard}
use Rattle.dpx_parse.specs.declared.event.Event.{Event}

-- A list of sets has no fault exactly where it is accepted.
abbrev pub AcceptsExactly : Type 0
AcceptsExactly =
    (enhanced : Bool) (lanes : Lanes) (sets : List (List Sym))
    → (HasNoFault enhanced (lanes_count lanes) sets → IsAccepted enhanced (lanes_count lanes) sets)
    × (IsAccepted enhanced (lanes_count lanes) sets → HasNoFault enhanced (lanes_count lanes) sets)

-- The frames of an accepted list are what its events give.
abbrev pub GivesFrames : Type 0
GivesFrames =
    (enhanced : Bool) (lanes : Lanes) (sets : List (List Sym)) (events : List Event) (frames : List Frame) (tail : ℕ)
    → AreEvents enhanced (lanes_count lanes) [] sets events → Receives enhanced (lanes_count lanes) sets frames tail
    → frames ≡ frames_heard (lanes_count lanes) (heard events)

-- A set that is refused behind others has one reason.
abbrev pub IsOneReason : Type 0
IsOneReason =
    (enhanced : Bool) (lanes : Lanes) (sets : List (List Sym)) (set : List Sym) (why other : ParseWhy)
    → IsReason enhanced (lanes_count lanes) sets set why → IsReason enhanced (lanes_count lanes) sets set other
    → why ≡ other

-- A set that is accepted behind others tells one thing.
abbrev pub IsOneEvent : Type 0
IsOneEvent =
    (enhanced : Bool) (lanes : Lanes) (sets : List (List Sym)) (set : List Sym) (event other : Event)
    → IsEvent enhanced (lanes_count lanes) sets set event → IsEvent enhanced (lanes_count lanes) sets set other
    → event ≡ other
