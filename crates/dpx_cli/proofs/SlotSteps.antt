-- Lines of slots that are written one by one.
use Rattle.std.proofs.Common.{◌≡◌, ℕ, ◌+◌, ◌<◌, ◌≤◌, List, ◌++◌, length, drop, get_or, sym, ap, ◌∙◌, append_assoc}
use Rattle.std.proofs.lemmas.List.{append-nil, drop_more, drop_all}
use Rattle.dpx_edid.specs.declared.timing.Slot.{Slot}
use Rattle.dpx_cli.specs.EdidLines.{slot_line, slot_lines}

pub slot_lines_none : (old : List ℕ) (slots : List Slot) (n : ℕ) → length slots ≤ n
    → old ++ slot_lines n (drop n slots) ≡ old
unfolding slot_lines
slot_lines_none old slots n over = ap (λ xs. old ++ slot_lines n xs) (drop_all n slots over) ∙ append-nil old

pub slot_lines_more : (old : List ℕ) (slots : List Slot) (n : ℕ) (slot : Slot) → n < length slots
    → (old ++ slot_line n (get_or slots n slot)) ++ slot_lines (n + 1) (drop (n + 1) slots)
    ≡ old ++ slot_lines n (drop n slots)
unfolding slot_lines
slot_lines_more old slots n slot within =
    append_assoc old (slot_line n (get_or slots n slot)) (slot_lines (n + 1) (drop (n + 1) slots))
    ∙ sym (ap (λ xs. old ++ slot_lines n xs) (drop_more slots n slot within))
