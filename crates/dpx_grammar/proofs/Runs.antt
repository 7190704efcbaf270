-- The machine reads each part as that part.
use Rattle.std.proofs.Common.{ℕ, zero, suc, ◌/◌, ◌≡◌, ◌∙◌, Bool, true, false, List, [], ◌∷◌, ◌++◌, map, length, Some}
use Rattle.std.proofs.Common.{None, refl, sym, ap, arith, append_assoc}
use Rattle.std.specs.Prelude.{⊤}
use Rattle.std.specs.List.{flat_map}
use Rattle.std.proofs.lemmas.List.{append-nil}
use Rattle.dpx_grammar.specs.Parts.{Part, group, block, filler, attributes, secondary, begins, valid, stuffing, IsBlock}
use Rattle.dpx_grammar.specs.Parts.{IsBlank, IsActive}
use Rattle.dpx_grammar.specs.Machine.{Code, a_bs, a_sr, a_be, an_ss, an_se, an_fs, an_fe, a_bf, Token, row, code, Place}
use Rattle.dpx_grammar.specs.Machine.{start, ids, blank, numbers, packet, active, fill, run}

abbrev pub group_tokens : Bool → Code → List Token
group_tokens true c = code c ∷ code a_bf ∷ code a_bf ∷ code c ∷ []
group_tokens false c = code c ∷ []

abbrev pub tokens : Bool → Part → List Token
tokens enhanced (group true) = group_tokens enhanced a_sr
tokens enhanced (group false) = group_tokens enhanced a_bs
tokens enhanced (block rows) = map row rows
tokens enhanced (filler bytes) = row bytes ∷ []
tokens enhanced (attributes rows) = code an_ss ∷ code an_ss ∷ (map row rows ++ code an_se ∷ [])
tokens enhanced (secondary rows) = code an_ss ∷ (map row rows ++ code an_se ∷ [])
tokens enhanced begins = code a_be ∷ []
tokens enhanced (valid bytes) = row bytes ∷ []
tokens enhanced (stuffing None) = code an_fe ∷ []
tokens enhanced (stuffing (Some rows)) = code an_fs ∷ (map row rows ++ code an_fe ∷ [])

-- what a part may follow
pub data Mode : Type 0 where
  opening : Mode
  headed : Mode
  blanking : Mode
  showing : Mode

abbrev pub after : Part → Mode
after (group reset) = headed
after (block rows) = blanking
after (filler bytes) = blanking
after (attributes rows) = blanking
after (secondary rows) = blanking
after begins = showing
after (valid bytes) = showing
after (stuffing rows) = showing

abbrev pub Follows : ℕ → Mode → Part → Type 0
Follows lanes opening (group reset) = reset ≡ true
Follows lanes headed (block rows) = IsBlock lanes (block rows)
Follows lanes blanking (group reset) = ⊤
Follows lanes blanking (filler bytes) = IsBlank lanes (filler bytes)
Follows lanes blanking (attributes rows) = IsBlank lanes (attributes rows)
Follows lanes blanking (secondary rows) = IsBlank lanes (secondary rows)
Follows lanes blanking begins = ⊤
Follows lanes showing (group reset) = ⊤
Follows lanes showing (valid bytes) = IsActive lanes (valid bytes)
Follows lanes showing (stuffing rows) = IsActive lanes (stuffing rows)
Follows lanes _ _ = ⊥

abbrev pub Chain : ℕ → Mode → List Part → Type 0
Chain lanes m [] = ⊤
Chain lanes m (x ∷ xs) = Follows lanes m x × Chain lanes (after x) xs

abbrev pub end : Mode → List Part → Mode
end m [] = m
end m (x ∷ xs) = end (after x) xs

abbrev pub place_of : ℕ → Mode → Place
place_of b opening = start
place_of b headed = ids [] b
place_of b blanking = blank
place_of b showing = active

-- ---- rows

ids_run : (enhanced : Bool) (b a n : ℕ) (whole : List Part) (rows rs : List (List ℕ)) (ts : List Token)
    → length rs ≡ suc n
    → run enhanced b a whole (ids rows (suc n)) (map row rs ++ ts)
    ≡ run enhanced b a (whole ++ block (rows ++ rs) ∷ []) blank ts
ids_run enhanced b a n whole rows [] ts h = absurd (omega arith)
ids_run enhanced b a zero whole rows (r ∷ []) ts h = refl
ids_run enhanced b a zero whole rows (r ∷ q ∷ rs) ts h = absurd (omega arith)
ids_run enhanced b a (suc n) whole rows (r ∷ rs) ts h =
    ids_run enhanced b a n whole (rows ++ r ∷ []) rs ts (omega arith)
    ∙ ap (λ xs. run enhanced b a (whole ++ block xs ∷ []) blank ts) (append_assoc rows (r ∷ []) rs)

numbers_run : (enhanced : Bool) (b a n : ℕ) (whole : List Part) (rows rs : List (List ℕ)) (ts : List Token)
    → length rs ≡ n
    → run enhanced b a whole (numbers rows n) (map row rs ++ code an_se ∷ ts)
    ≡ run enhanced b a (whole ++ attributes (rows ++ rs) ∷ []) blank ts
numbers_run enhanced b a zero whole rows [] ts h =
    ap (λ xs. run enhanced b a (whole ++ attributes xs ∷ []) blank ts) (sym (append-nil rows))
numbers_run enhanced b a (suc n) whole rows [] ts h = absurd (omega arith)
numbers_run enhanced b a zero whole rows (r ∷ rs) ts h = absurd (omega arith)
numbers_run enhanced b a (suc n) whole rows (r ∷ rs) ts h =
    numbers_run enhanced b a n whole (rows ++ r ∷ []) rs ts (omega arith)
    ∙ ap (λ xs. run enhanced b a (whole ++ attributes xs ∷ []) blank ts) (append_assoc rows (r ∷ []) rs)

packet_run : (enhanced : Bool) (b a : ℕ) (whole : List Part) (rows rs : List (List ℕ)) (ts : List Token)
    → run enhanced b a whole (packet rows) (map row rs ++ code an_se ∷ ts)
    ≡ run enhanced b a (whole ++ secondary (rows ++ rs) ∷ []) blank ts
packet_run enhanced b a whole rows [] ts =
    ap (λ xs. run enhanced b a (whole ++ secondary xs ∷ []) blank ts) (sym (append-nil rows))
packet_run enhanced b a whole rows (r ∷ rs) ts =
    packet_run enhanced b a whole (rows ++ r ∷ []) rs ts
    ∙ ap (λ xs. run enhanced b a (whole ++ secondary xs ∷ []) blank ts) (append_assoc rows (r ∷ []) rs)

fill_run : (enhanced : Bool) (b a : ℕ) (whole : List Part) (rows rs : List (List ℕ)) (ts : List Token)
    → run enhanced b a whole (fill rows) (map row rs ++ code an_fe ∷ ts)
    ≡ run enhanced b a (whole ++ stuffing (Some (rows ++ rs)) ∷ []) active ts
fill_run enhanced b a whole rows [] ts = ap (λ xs. run enhanced b a (whole ++ stuffing (Some xs) ∷ []) active ts)
    (sym (append-nil rows))
fill_run enhanced b a whole rows (r ∷ rs) ts =
    fill_run enhanced b a whole (rows ++ r ∷ []) rs ts
    ∙ ap (λ xs. run enhanced b a (whole ++ stuffing (Some xs) ∷ []) active ts) (append_assoc rows (r ∷ []) rs)

-- ---- parts

part_run : (enhanced : Bool) (lanes k : ℕ) (m : Mode) (x : Part) (whole : List Part) (ts : List Token)
    → 12 / lanes ≡ suc k → Follows lanes m x
    → run enhanced (suc k) (36 / lanes) whole (place_of (suc k) m) (tokens enhanced x ++ ts)
    ≡ run enhanced (suc k) (36 / lanes) (whole ++ x ∷ []) (place_of (suc k) (after x)) ts
part_run true lanes k opening (group true) whole ts e f = refl
part_run false lanes k opening (group true) whole ts e f = refl
part_run enhanced lanes k opening (group false) whole ts e f = absurd (different f)
  where
    different : false ≡ true → ⊥
    different e = cc
part_run enhanced lanes k headed (block rows) whole ts e f =
    ids_run enhanced (suc k) (36 / lanes) k whole [] rows ts (f.1 ∙ e)
part_run true lanes k blanking (group true) whole ts e f = refl
part_run false lanes k blanking (group true) whole ts e f = refl
part_run true lanes k blanking (group false) whole ts e f = refl
part_run false lanes k blanking (group false) whole ts e f = refl
part_run enhanced lanes k blanking (filler bytes) whole ts e f = refl
part_run enhanced lanes k blanking (attributes rows) whole ts e f =
    ap (λ xs. run enhanced (suc k) (36 / lanes) whole (numbers [] (36 / lanes)) xs)
    (append_assoc (map row rows) (code an_se ∷ []) ts)
    ∙ numbers_run enhanced (suc k) (36 / lanes) (36 / lanes) whole [] rows ts f.1
part_run enhanced lanes k blanking (secondary []) whole ts e f = absurd (omega (arith, f.1))
part_run enhanced lanes k blanking (secondary (r ∷ rows)) whole ts e f =
    ap (λ xs. run enhanced (suc k) (36 / lanes) whole (packet (r ∷ [])) xs)
    (append_assoc (map row rows) (code an_se ∷ []) ts)
    ∙ packet_run enhanced (suc k) (36 / lanes) whole (r ∷ []) rows ts
part_run enhanced lanes k blanking begins whole ts e f = refl
part_run true lanes k showing (group true) whole ts e f = refl
part_run false lanes k showing (group true) whole ts e f = refl
part_run true lanes k showing (group false) whole ts e f = refl
part_run false lanes k showing (group false) whole ts e f = refl
part_run enhanced lanes k showing (valid bytes) whole ts e f = refl
part_run enhanced lanes k showing (stuffing None) whole ts e f = refl
part_run enhanced lanes k showing (stuffing (Some rows)) whole ts e f =
    ap (λ xs. run enhanced (suc k) (36 / lanes) whole (fill []) xs) (append_assoc (map row rows) (code an_fe ∷ []) ts)
    ∙ fill_run enhanced (suc k) (36 / lanes) whole [] rows ts
part_run enhanced lanes k opening (block rows) whole ts e f = absurd f
part_run enhanced lanes k opening (filler bytes) whole ts e f = absurd f
part_run enhanced lanes k opening (attributes rows) whole ts e f = absurd f
part_run enhanced lanes k opening (secondary rows) whole ts e f = absurd f
part_run enhanced lanes k opening begins whole ts e f = absurd f
part_run enhanced lanes k opening (valid bytes) whole ts e f = absurd f
part_run enhanced lanes k opening (stuffing rows) whole ts e f = absurd f
part_run enhanced lanes k headed (group reset) whole ts e f = absurd f
part_run enhanced lanes k headed (filler bytes) whole ts e f = absurd f
part_run enhanced lanes k headed (attributes rows) whole ts e f = absurd f
part_run enhanced lanes k headed (secondary rows) whole ts e f = absurd f
part_run enhanced lanes k headed begins whole ts e f = absurd f
part_run enhanced lanes k headed (valid bytes) whole ts e f = absurd f
part_run enhanced lanes k headed (stuffing rows) whole ts e f = absurd f
part_run enhanced lanes k blanking (block rows) whole ts e f = absurd f
part_run enhanced lanes k blanking (valid bytes) whole ts e f = absurd f
part_run enhanced lanes k blanking (stuffing rows) whole ts e f = absurd f
part_run enhanced lanes k showing (block rows) whole ts e f = absurd f
part_run enhanced lanes k showing (filler bytes) whole ts e f = absurd f
part_run enhanced lanes k showing (attributes rows) whole ts e f = absurd f
part_run enhanced lanes k showing (secondary rows) whole ts e f = absurd f
part_run enhanced lanes k showing begins whole ts e f = absurd f

pub chain_run : (enhanced : Bool) (lanes k : ℕ) (m : Mode) (xs whole : List Part) (ts : List Token) → 12 / lanes ≡ suc k
    → Chain lanes m xs
    → run enhanced (suc k) (36 / lanes) whole (place_of (suc k) m) (flat_map (tokens enhanced) xs ++ ts)
    ≡ run enhanced (suc k) (36 / lanes) (whole ++ xs) (place_of (suc k) (end m xs)) ts
chain_run enhanced lanes k m [] whole ts e c =
    ap (λ w. run enhanced (suc k) (36 / lanes) w (place_of (suc k) m) ts) (sym (append-nil whole))
chain_run enhanced lanes k m (x ∷ xs) whole ts e c =
    ap (λ us. run enhanced (suc k) (36 / lanes) whole (place_of (suc k) m) us)
    (append_assoc (tokens enhanced x) (flat_map (tokens enhanced) xs) ts)
    ∙ part_run enhanced lanes k m x whole (flat_map (tokens enhanced) xs ++ ts) e c.0
    ∙ chain_run enhanced lanes k (after x) xs (whole ++ x ∷ []) ts e c.1
    ∙ ap (λ w. run enhanced (suc k) (36 / lanes) w (place_of (suc k) (end (after x) xs)) ts)
    (append_assoc whole (x ∷ []) xs)
