-- A number among the words of the command line: this project's own.
use Rattle.std.specs.Prelude.{ℕ, ◌^◌, Bool, if◌then◌else◌, nat_lt, ◌&&◌, List, length, Option, Some, None}
use Rattle.std.specs.Str.{all_ascii_digits}
use Rattle.std.specs.Str.Parse.{digits_value}

-- one to ten digits, and nothing else
abbrev pub is_short_numeral : List ℕ → Bool
is_short_numeral word = nat_lt 0 (length word) && (nat_lt (length word) 11 && all_ascii_digits word)

-- the number that a word gives: the value of one to ten digits, where it has at most 32 bits
unfoldable pub seed_named : List ℕ → Option ℕ
seed_named word =
    if is_short_numeral word && nat_lt (digits_value 10 word) (2 ^ 32) then Some (digits_value 10 word) else None
