-- What the lanes of a set carry: the same kind on all lanes, or a set is mixed.
use Rattle.std.specs.Prelude.{ℕ, ◌==◌, ◌&&◌, ◌||◌, not, Bool, true, false, if◌then◌else◌, List, [], ◌∷◌, Option}
use Rattle.std.specs.Prelude.{Some, None}
use Rattle.dpx_base.specs.declared.sym.Sym.{Sym}
use Rattle.dpx_parse.specs.declared.kind.Kind.{Kind}
use Rattle.dpx_parse.specs.declared.kind.Kind.TheVariants.{Data, Bs, Sr, Be, Ss, Se, Fs, Fe, Bf, Cp, Other}

abbrev pub control_kind : ℕ → Kind
control_kind n =
    if n == 0xbc then Bs else if n == 0x1c then Sr else if n == 0xfb then Be else if n == 0x5c then Ss
    else if n == 0xfd then Se else if n == 0xfe then Fs else if n == 0xf7 then Fe else if n == 0x7c then Bf
    else if n == 0x3c then Cp else Other

abbrev pub symbol_kind : Sym → Kind
symbol_kind s = if s.control then control_kind s.byte else Data

abbrev pub same_bool : Bool → Bool → Bool
same_bool true b = b
same_bool false b = not b

-- the same control symbol, or both data
abbrev pub is_same : Sym → Sym → Bool
is_same s t = same_bool s.control t.control && (not s.control || s.byte == t.byte)

abbrev pub all_same : Sym → List Sym → Bool
all_same s [] = true
all_same s (t ∷ ts) = is_same s t && all_same s ts

abbrev pub kind_of : List Sym → Option Kind
kind_of [] = None
kind_of (s ∷ ss) = if all_same s (s ∷ ss) then Some (symbol_kind s) else None
