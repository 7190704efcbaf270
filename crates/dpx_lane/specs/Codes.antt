-- The codes of a row: this project's own.
use Rattle.std.specs.Prelude.{ℕ, ◌+◌, ◌%◌, ◌<◌, Bool, not, ◌&&◌, ◌||◌, nat_lt, if◌then◌else◌, IsTrue, List, length}
use Rattle.std.specs.Prelude.{slice_index}
use Rattle.dpx_base.specs.Code.{is_control}
use Rattle.dpx_base.specs.declared.sym.Sym.{Sym}

-- the byte, plus 256 for a control symbol
abbrev pub code_of : Sym → ℕ
code_of symbol = symbol.byte + (if symbol.control then 256 else 0)

abbrev pub symbol_of : (code : ℕ) → Sym
symbol_of code = record { control = not (nat_lt code 256); byte = code % 256 }

-- the code of a data symbol, or of one of the nine control symbols
abbrev pub is_code : ℕ → Bool
is_code code = nat_lt code 256 || (nat_lt code 512 && is_control (code % 256))

abbrev pub AllCodes : List ℕ → Type 0
AllCodes row = (k : ℕ) → k < length row → IsTrue (is_code (slice_index row k))
