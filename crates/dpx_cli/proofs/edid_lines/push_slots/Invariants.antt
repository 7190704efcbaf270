use Rattle.std.proofs.Common.{◌≡◌, ◌++◌, drop}
use Rattle.dpx_cli.specs.EdidLines.{slot_lines}
use Rattle.dpx_cli.proofs.edid_lines.push_slots.Given as goal

-- what is written so far, and what the other slots give
abbrev pub invariant-loop-number : goal.invariant-loop-number
invariant-loop-number l =
    l.report ++ slot_lines l.number (drop l.number l.slots) ≡ l.fn.report ++ slot_lines 0 l.slots
