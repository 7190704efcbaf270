-- Parts that neither begin nor end a line or a frame.
use Rattle.std.proofs.Common.{ℕ, ◌≡◌, List, [], ◌∷◌, ◌++◌, refl, ap, Bool}
use Rattle.std.specs.Prelude.{⊤}
use Rattle.std.specs.List.{AllByRecursion}
use Rattle.dpx_grammar.specs.Parts.{Part, group, block, filler, attributes, secondary, begins, valid, stuffing}
use Rattle.dpx_grammar.specs.Accepted.{frame_parts, lines_of, valid_rows, is_ended, unfinished}

abbrev pub IsQuiet : Part → Type 0
IsQuiet (block rows) = ⊤
IsQuiet (filler row) = ⊤
IsQuiet (valid row) = ⊤
IsQuiet (stuffing rows) = ⊤
IsQuiet _ = ⊥

-- valid sets and stuffing
abbrev pub IsShown : Part → Type 0
IsShown (valid row) = ⊤
IsShown (stuffing rows) = ⊤
IsShown _ = ⊥

quiet_one : (x : Part) → IsShown x → IsQuiet x
quiet_one (valid row) h = tt
quiet_one (stuffing rows) h = tt
quiet_one (group x) h = absurd h
quiet_one (block rows) h = absurd h
quiet_one (filler row) h = absurd h
quiet_one (attributes rows) h = absurd h
quiet_one (secondary rows) h = absurd h
quiet_one begins h = absurd h

pub quiet_shown : (xs : List Part) → AllByRecursion IsShown xs → AllByRecursion IsQuiet xs
quiet_shown [] h = tt
quiet_shown (x ∷ xs) h = (quiet_one x h.0, quiet_shown xs h.1)

pub told_quiet : (xs ys : List Part) → AllByRecursion IsQuiet xs → frame_parts (xs ++ ys) ≡ frame_parts ys
told_quiet [] ys h = refl
told_quiet (block rows ∷ xs) ys h = told_quiet xs ys h.1
told_quiet (filler row ∷ xs) ys h = told_quiet xs ys h.1
told_quiet (valid row ∷ xs) ys h = told_quiet xs ys h.1
told_quiet (stuffing rows ∷ xs) ys h = told_quiet xs ys h.1
told_quiet (group x ∷ xs) ys h = absurd h.0
told_quiet (attributes rows ∷ xs) ys h = absurd h.0
told_quiet (secondary rows ∷ xs) ys h = absurd h.0
told_quiet (begins ∷ xs) ys h = absurd h.0

pub lines_quiet : (xs ys : List Part) → AllByRecursion IsQuiet xs → lines_of (xs ++ ys) ≡ lines_of ys
lines_quiet [] ys h = refl
lines_quiet (block rows ∷ xs) ys h = lines_quiet xs ys h.1
lines_quiet (filler row ∷ xs) ys h = lines_quiet xs ys h.1
lines_quiet (valid row ∷ xs) ys h = lines_quiet xs ys h.1
lines_quiet (stuffing rows ∷ xs) ys h = lines_quiet xs ys h.1
lines_quiet (group x ∷ xs) ys h = absurd h.0
lines_quiet (attributes rows ∷ xs) ys h = absurd h.0
lines_quiet (secondary rows ∷ xs) ys h = absurd h.0
lines_quiet (begins ∷ xs) ys h = absurd h.0

pub unfinished_quiet : (enhanced : Bool) (lanes n : ℕ) (xs ys : List Part) → AllByRecursion IsQuiet xs
    → unfinished enhanced lanes (xs ++ ys) n ≡ unfinished enhanced lanes ys n
unfinished_quiet enhanced lanes n [] ys h = refl
unfinished_quiet enhanced lanes n (block rows ∷ xs) ys h = unfinished_quiet enhanced lanes n xs ys h.1
unfinished_quiet enhanced lanes n (filler row ∷ xs) ys h = unfinished_quiet enhanced lanes n xs ys h.1
unfinished_quiet enhanced lanes n (valid row ∷ xs) ys h = unfinished_quiet enhanced lanes n xs ys h.1
unfinished_quiet enhanced lanes n (stuffing rows ∷ xs) ys h = unfinished_quiet enhanced lanes n xs ys h.1
unfinished_quiet enhanced lanes n (group x ∷ xs) ys h = absurd h.0
unfinished_quiet enhanced lanes n (attributes rows ∷ xs) ys h = absurd h.0
unfinished_quiet enhanced lanes n (secondary rows ∷ xs) ys h = absurd h.0
unfinished_quiet enhanced lanes n (begins ∷ xs) ys h = absurd h.0

-- a group behind valid sets and stuffing ends their part
pub ended_behind : (xs ys : List Part) → AllByRecursion IsShown xs → is_ended (xs ++ ys) ≡ is_ended ys
ended_behind [] ys h = refl
ended_behind (valid row ∷ xs) ys h = ended_behind xs ys h.1
ended_behind (stuffing rows ∷ xs) ys h = ended_behind xs ys h.1
ended_behind (x ∷ xs) ys h = absurd h.0

pub rows_shown : (xs ys : List Part) → AllByRecursion IsShown xs
    → valid_rows (xs ++ ys) ≡ valid_rows xs ++ valid_rows ys
rows_shown [] ys h = refl
rows_shown (valid row ∷ xs) ys h = ap (λ zs. row ∷ zs) (rows_shown xs ys h.1)
rows_shown (stuffing rows ∷ xs) ys h = rows_shown xs ys h.1
rows_shown (block rows ∷ xs) ys h = absurd h.0
rows_shown (filler row ∷ xs) ys h = absurd h.0
rows_shown (group x ∷ xs) ys h = absurd h.0
rows_shown (attributes rows ∷ xs) ys h = absurd h.0
rows_shown (secondary rows ∷ xs) ys h = absurd h.0
rows_shown (begins ∷ xs) ys h = absurd h.0
