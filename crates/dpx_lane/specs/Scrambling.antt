-- The scrambler's register.
use Rattle.std.specs.Prelude.{◌≡◌, ℕ, ◌*◌, List, drop}
use Rattle.dpx_base.specs.Key.{key_bits, low_first, since_reset}
use Rattle.dpx_base.specs.declared.sym.Sym.{Sym}
use Rattle.dpx_lane.specs.declared.scrambler.Scrambler.{Scrambler}

-- the sixteen bits of the key from bit n on
unfoldable pub key_register : (n : ℕ) → ℕ
key_register n = low_first (drop n (key_bits n))

-- the scrambler took these symbols since it was made: its register stands at the key's byte for the next
abbrev pub HasTaken : Scrambler → List Sym → Type 0
HasTaken scrambler taken = scrambler.register ≡ key_register (8 * since_reset taken)
