-- Hexadecimal digits, in upper case.
use Rattle.std.specs.Prelude.{ℕ, ◌+◌, ◌/◌, ◌%◌, nat_lt, if◌then◌else◌, List, [], ◌∷◌, ◌++◌}

-- `0` to `9` are 48 to 57, `A` to `F` are 65 to 70
unfoldable pub hex_digit : ℕ → List ℕ
hex_digit n = (if nat_lt n 10 then n + 48 else n + 55) ∷ []

-- two digits
unfoldable pub hex_byte : ℕ → List ℕ
hex_byte n = hex_digit (n / 16) ++ hex_digit (n % 16)
