-- The bytes that a block begins with, one by one.
use Rattle.std.proofs.Common.{◌≡◌, ℕ, ◌+◌, ◌<◌, true, List, drop, length, get_or, nat_eq, arith}
use Rattle.std.proofs.lemmas.List.Sums.{common_prefix_len-drop_yes}
use Rattle.std.specs.List.{common_prefix_len}

-- one more byte is alike
pub alike_more : (wanted block : List ℕ) (place : ℕ) → place < length wanted → place < length block
    → nat_eq (get_or wanted place 0) (get_or block place 0) ≡ true
    → place + common_prefix_len nat_eq (drop place wanted) (drop place block) ≡ common_prefix_len nat_eq wanted block
    → (place + 1) + common_prefix_len nat_eq (drop (place + 1) wanted) (drop (place + 1) block)
    ≡ common_prefix_len nat_eq wanted block
alike_more wanted block place in_wanted in_block alike before =
    omega (arith, before, common_prefix_len-drop_yes nat_eq wanted block place 0 0 in_wanted in_block alike)
