-- What is known of a running disparity.
use Rattle.std.specs.Prelude.{◌≡◌, Bool, true, false, if◌then◌else◌}
use Rattle.dpx_code.specs.declared.disparity.Rd.{Rd}
use Rattle.dpx_code.specs.declared.disparity.Rd.TheVariants.{Minus, Plus, Unknown}

abbrev pub rd_of : (plus : Bool) → Rd
rd_of plus = if plus then Plus else Minus

abbrev pub is_plus : Rd → Bool
is_plus Minus = false
is_plus Plus = true
is_plus Unknown = false

abbrev pub IsKnown : Rd → Type 0
IsKnown Minus = Unit {0}
IsKnown Plus = Unit {0}
IsKnown Unknown = ⊥

-- the columns that a disparity allows: its own, and both where it is not known
abbrev pub Allows : Rd → (plus : Bool) → Type 0
Allows Minus plus = plus ≡ false
Allows Plus plus = plus ≡ true
Allows Unknown plus = Unit {0}
