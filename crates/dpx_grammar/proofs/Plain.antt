-- In default framing no part has BF or CP.
use Rattle.std.proofs.Common.{ℕ, zero, suc, ◌≡◌, ◌≢◌, ◌++◌, true, false, List, [], ◌∷◌, map, Some, None, sym, ap, subst}
use Rattle.std.proofs.Common.{arith}
use Rattle.std.specs.List.{AllByRecursion, flat_map}
use Rattle.dpx_base.specs.declared.sym.Sym.{Sym}
use Rattle.dpx_base.specs.Lanes.{lanes_count}
use Rattle.dpx_base.specs.Symbols.{bs, be, sr, bf, ss, se, fs, fe}
use Rattle.dpx_grammar.specs.Parts.{Part, group, block, filler, attributes, secondary, begins, valid, stuffing}
use Rattle.dpx_grammar.specs.Parts.{data_set, control_set, sets_of}
use Rattle.dpx_grammar.specs.Laws.{IsPlain, DefaultHasNoBf}
use Rattle.dpx_base.specs.Symbols.{cp}
use Rattle.dpx_grammar.proofs.Lists.{all_append}
use Rattle.dpx_grammar.proofs.Fronts.{all_front}

abbrev ArePlain : List (List Sym) → Type 0
ArePlain sets = AllByRecursion (λ set. AllByRecursion IsPlain set) sets

different : false ≡ true → ⊥
different e = cc

plain_row : (row : List ℕ) → AllByRecursion IsPlain (data_set row)
plain_row [] = tt
plain_row (b ∷ row) =
    ((λ e. different (ap (λ (s : Sym). s.control) e), λ e. different (ap (λ (s : Sym). s.control) e)), plain_row row)

plain_rows : (rows : List (List ℕ)) → ArePlain (map data_set rows)
plain_rows [] = tt
plain_rows (row ∷ rows) = (plain_row row, plain_rows rows)

plain_code : (lanes code : ℕ) → code ≢ bf → code ≢ cp → AllByRecursion IsPlain (control_set lanes code)
plain_code zero code b c = tt
plain_code (suc n) code b c =
    ((λ e. b (ap (λ (s : Sym). s.byte) e), λ e. c (ap (λ (s : Sym). s.byte) e)), plain_code n code b c)

plain_end : (lanes code : ℕ) (rows : List (List ℕ)) → code ≢ bf → code ≢ cp
    → ArePlain (map data_set rows ++ control_set lanes code ∷ [])
plain_end lanes code rows b c =
    all_append (λ set. AllByRecursion IsPlain set) (map data_set rows) (control_set lanes code ∷ []) (plain_rows rows)
    (plain_code lanes code b c, tt)

plain_part : (lanes : ℕ) (x : Part) → ArePlain (sets_of false lanes x)
plain_part lanes (group true) = (plain_code lanes sr (λ e. omega arith) (λ e. omega arith), tt)
plain_part lanes (group false) = (plain_code lanes bs (λ e. omega arith) (λ e. omega arith), tt)
plain_part lanes (block rows) = plain_rows rows
plain_part lanes (filler row) = (plain_row row, tt)
plain_part lanes (attributes rows) =
    let s : AllByRecursion IsPlain (control_set lanes ss) = plain_code lanes ss (λ e. omega arith) (λ e. omega arith) in
    (s, (s, plain_end lanes se rows (λ e. omega arith) (λ e. omega arith)))
plain_part lanes (secondary rows) = (
  plain_code lanes ss (λ e. omega arith) (λ e. omega arith),
  plain_end lanes se rows (λ e. omega arith) (λ e. omega arith),
)
plain_part lanes begins = (plain_code lanes be (λ e. omega arith) (λ e. omega arith), tt)
plain_part lanes (valid row) = (plain_row row, tt)
plain_part lanes (stuffing None) = (plain_code lanes fe (λ e. omega arith) (λ e. omega arith), tt)
plain_part lanes (stuffing (Some rows)) = (
  plain_code lanes fs (λ e. omega arith) (λ e. omega arith),
  plain_end lanes fe rows (λ e. omega arith) (λ e. omega arith),
)

plain_parts : (lanes : ℕ) (xs : List Part) → ArePlain (flat_map (sets_of false lanes) xs)
plain_parts lanes [] = tt
plain_parts lanes (x ∷ xs) =
    all_append (λ set. AllByRecursion IsPlain set) (sets_of false lanes x) (flat_map (sets_of false lanes) xs)
    (plain_part lanes x) (plain_parts lanes xs)

pub never_bf : DefaultHasNoBf
never_bf lanes sets (frames, tail, r) =
    subst (λ s. ArePlain s) (sym r.cut.joined)
    (all_append (λ set. AllByRecursion IsPlain set) (flat_map (sets_of false (lanes_count lanes)) r.whole) r.front
    (plain_parts (lanes_count lanes) r.whole)
    (all_front (λ set. AllByRecursion IsPlain set) r.front r.cut.back
    (subst (λ s. ArePlain s) r.cut.of_next (plain_part (lanes_count lanes) r.next))))
