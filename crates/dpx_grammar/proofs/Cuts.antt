-- A list of sets is cut in one way.
use Rattle.std.proofs.Common.{ℕ, zero, suc, ◌-◌, ◌/◌, ◌<◌, ◌≤◌, ◌≡◌, ◌∙◌, true, false, List, [], ◌∷◌, ◌++◌, map, length}
use Rattle.std.proofs.Common.{take, Option, Some, None, refl, sym, ap, subst, arith, append_assoc, Bool}
use Rattle.std.specs.List.{AllByRecursion, flat_map}
use Rattle.std.proofs.lemmas.List.{append-nil, length-map}
use Rattle.dpx_base.specs.declared.sym.Sym.{Sym}
use Rattle.dpx_grammar.specs.Parts.{Part, group, block, filler, attributes, secondary, begins, valid, stuffing, begun}
use Rattle.dpx_grammar.specs.Parts.{IsPeriod, ArePeriods, StartsWithSr, IsGroup, IsBlock, IsBlank, IsActive}
use Rattle.dpx_grammar.specs.Parts.{MayBeActive}
use Rattle.dpx_grammar.specs.Machine.{begun_of, an_se, an_fe, Token, row, code, Place, head, ids, opened, numbers}
use Rattle.dpx_grammar.specs.Machine.{packet, fill, run}
use Rattle.dpx_grammar.proofs.Runs.{tokens, Mode, opening, headed, blanking, showing, after, Follows, Chain, end}
use Rattle.dpx_grammar.proofs.Runs.{place_of}

-- what so many sets of a part tell
abbrev pub told_in : Part → ℕ → List Part
told_in x zero = []
told_in (group reset) (suc n) = group reset ∷ []
told_in (block rows) (suc n) = block (take (suc n) rows) ∷ []
told_in _ (suc n) = []

pub begun_is : (x : Part) (front : List (List Sym)) → begun x front ≡ told_in x (length front)
begun_is x [] = refl
begun_is (group reset) (s ∷ front) = refl
begun_is (block rows) (s ∷ front) = refl
begun_is (filler bytes) (s ∷ front) = refl
begun_is (attributes rows) (s ∷ front) = refl
begun_is (secondary rows) (s ∷ front) = refl
begun_is begins (s ∷ front) = refl
begun_is (valid bytes) (s ∷ front) = refl
begun_is (stuffing rows) (s ∷ front) = refl

-- the machine stops within the next part, at a place that tells the same of it
pub record Stops (enhanced : Bool) (b a : ℕ) (whole : List Part) (at : Place) (ts : List Token)
    (told : List Part) : Type 0 where
  pub place : Place
  pub reached : run enhanced b a whole at ts ≡ Some (whole, place)
  pub tells : begun_of place ≡ told

abbrev found : List Part → Place → Option (List Part × Place)
found whole s = Some (whole, s)

ids_part : (enhanced : Bool) (b a n j : ℕ) (whole : List Part) (rows rs : List (List ℕ)) → j < length rs
    → length rs ≡ suc n
    → run enhanced b a whole (ids rows (suc n)) (take j (map row rs))
    ≡ found whole (ids (rows ++ take j rs) (suc n - j))
ids_part enhanced b a n j whole rows [] l h = absurd (omega arith)
ids_part enhanced b a n zero whole rows (r ∷ rs) l h =
    let z : suc n ≡ suc n - 0 = omega arith in
    ap (λ m. found whole (ids rows m)) z ∙ ap (λ xs. found whole (ids xs (suc n - 0))) (sym (append-nil rows))
ids_part enhanced b a zero (suc j) whole rows (r ∷ rs) l h = absurd (omega arith)
ids_part enhanced b a (suc n) (suc j) whole rows (r ∷ rs) l h =
    let d : suc n - j ≡ suc (suc n) - suc j = omega arith in
    ids_part enhanced b a n j whole (rows ++ r ∷ []) rs (omega arith) (omega arith)
    ∙ ap (λ xs. found whole (ids xs (suc n - j))) (append_assoc rows (r ∷ []) (take j rs))
    ∙ ap (λ m. found whole (ids (rows ++ r ∷ take j rs) m)) d

numbers_part : (enhanced : Bool) (b a n j : ℕ) (whole : List Part) (rows rs : List (List ℕ)) (t : Token) → j ≤ length rs
    → length rs ≡ n
    → Stops enhanced b a whole (numbers rows n) (take j (map row rs ++ t ∷ [])) []
numbers_part enhanced b a n zero whole rows rs t l h = record { place = numbers rows n; reached = refl; tells = refl }
numbers_part enhanced b a n (suc j) whole rows [] t l h = absurd (omega arith)
numbers_part enhanced b a zero (suc j) whole rows (r ∷ rs) t l h = absurd (omega arith)
numbers_part enhanced b a (suc n) (suc j) whole rows (r ∷ rs) t l h =
    let s : Stops enhanced b a whole (numbers (rows ++ r ∷ []) n) (take j (map row rs ++ t ∷ [])) [] =
    numbers_part enhanced b a n j whole (rows ++ r ∷ []) rs t (omega arith) (omega arith) in
    record { place = s.place; reached = s.reached; tells = s.tells }

packet_part : (enhanced : Bool) (b a j : ℕ) (whole : List Part) (rows rs : List (List ℕ)) (t : Token) → j ≤ length rs
    → Stops enhanced b a whole (packet rows) (take j (map row rs ++ t ∷ [])) []
packet_part enhanced b a zero whole rows rs t l = record { place = packet rows; reached = refl; tells = refl }
packet_part enhanced b a (suc j) whole rows [] t l = absurd (omega arith)
packet_part enhanced b a (suc j) whole rows (r ∷ rs) t l =
    let s : Stops enhanced b a whole (packet (rows ++ r ∷ [])) (take j (map row rs ++ t ∷ [])) [] =
    packet_part enhanced b a j whole (rows ++ r ∷ []) rs t (omega arith) in
    record { place = s.place; reached = s.reached; tells = s.tells }

fill_part : (enhanced : Bool) (b a j : ℕ) (whole : List Part) (rows rs : List (List ℕ)) (t : Token) → j ≤ length rs
    → Stops enhanced b a whole (fill rows) (take j (map row rs ++ t ∷ [])) []
fill_part enhanced b a zero whole rows rs t l = record { place = fill rows; reached = refl; tells = refl }
fill_part enhanced b a (suc j) whole rows [] t l = absurd (omega arith)
fill_part enhanced b a (suc j) whole rows (r ∷ rs) t l =
    let s : Stops enhanced b a whole (fill (rows ++ r ∷ [])) (take j (map row rs ++ t ∷ [])) [] =
    fill_part enhanced b a j whole (rows ++ r ∷ []) rs t (omega arith) in
    record { place = s.place; reached = s.reached; tells = s.tells }

none_begun : (k : ℕ) (m : Mode) → begun_of (place_of k m) ≡ []
none_begun k opening = refl
none_begun k headed = refl
none_begun k blanking = refl
none_begun k showing = refl

ids_stop : (enhanced : Bool) (b a n j : ℕ) (whole : List Part) (rows : List (List ℕ)) → suc j < length rows
    → length rows ≡ suc n
    → Stops enhanced b a whole (ids [] (suc n)) (take (suc j) (map row rows)) (block (take (suc j) rows) ∷ [])
ids_stop enhanced b a n j whole [] l h = absurd (omega arith)
ids_stop enhanced b a n j whole (r ∷ rows) l h =
    record {
      place = ids (r ∷ take j rows) (suc n - suc j);
      reached =
          ids_part enhanced b a n (suc j) whole [] (r ∷ rows) l h;
      tells = refl;
    }

tail_length : (rows : List (List ℕ)) (t : Token) → length (map row rows ++ t ∷ []) ≡ suc (length rows)
tail_length [] t = refl
tail_length (r ∷ rows) t = omega (arith, tail_length rows t)

-- a part that is cut short
pub part_stops : (enhanced : Bool) (lanes k n : ℕ) (m : Mode) (x : Part) (whole : List Part) → 12 / lanes ≡ suc k
    → Follows lanes m x → n < length (tokens enhanced x)
    → Stops enhanced (suc k) (36 / lanes) whole (place_of (suc k) m) (take n (tokens enhanced x)) (told_in x n)
part_stops enhanced lanes k zero m x whole e f l =
    record { place = place_of (suc k) m; reached = refl; tells = none_begun (suc k) m }
part_stops enhanced lanes k (suc n) opening (group false) whole e f l = absurd (different f)
  where
    different : false ≡ true → ⊥
    different e = cc
part_stops true lanes k (suc zero) opening (group true) whole e f l =
    record { place = head true 1; reached = refl; tells = refl }
part_stops false lanes k (suc n) opening (group true) whole e f l = absurd (omega arith)
part_stops true lanes k (suc (suc zero)) opening (group true) whole e f l =
    record { place = head true 2; reached = refl; tells = refl }
part_stops true lanes k (suc (suc (suc zero))) opening (group true) whole e f l =
    record { place = head true 3; reached = refl; tells = refl }
part_stops true lanes k (suc (suc (suc (suc n)))) opening (group true) whole e f l = absurd (omega arith)
part_stops true lanes k (suc zero) blanking (group true) whole e f l =
    record { place = head true 1; reached = refl; tells = refl }
part_stops false lanes k (suc n) blanking (group true) whole e f l = absurd (omega arith)
part_stops true lanes k (suc (suc zero)) blanking (group true) whole e f l =
    record { place = head true 2; reached = refl; tells = refl }
part_stops true lanes k (suc (suc (suc zero))) blanking (group true) whole e f l =
    record { place = head true 3; reached = refl; tells = refl }
part_stops true lanes k (suc (suc (suc (suc n)))) blanking (group true) whole e f l = absurd (omega arith)
part_stops true lanes k (suc zero) blanking (group false) whole e f l =
    record { place = head false 1; reached = refl; tells = refl }
part_stops false lanes k (suc n) blanking (group false) whole e f l = absurd (omega arith)
part_stops true lanes k (suc (suc zero)) blanking (group false) whole e f l =
    record { place = head false 2; reached = refl; tells = refl }
part_stops true lanes k (suc (suc (suc zero))) blanking (group false) whole e f l =
    record { place = head false 3; reached = refl; tells = refl }
part_stops true lanes k (suc (suc (suc (suc n)))) blanking (group false) whole e f l = absurd (omega arith)
part_stops true lanes k (suc zero) showing (group true) whole e f l =
    record { place = head true 1; reached = refl; tells = refl }
part_stops false lanes k (suc n) showing (group true) whole e f l = absurd (omega arith)
part_stops true lanes k (suc (suc zero)) showing (group true) whole e f l =
    record { place = head true 2; reached = refl; tells = refl }
part_stops true lanes k (suc (suc (suc zero))) showing (group true) whole e f l =
    record { place = head true 3; reached = refl; tells = refl }
part_stops true lanes k (suc (suc (suc (suc n)))) showing (group true) whole e f l = absurd (omega arith)
part_stops true lanes k (suc zero) showing (group false) whole e f l =
    record { place = head false 1; reached = refl; tells = refl }
part_stops false lanes k (suc n) showing (group false) whole e f l = absurd (omega arith)
part_stops true lanes k (suc (suc zero)) showing (group false) whole e f l =
    record { place = head false 2; reached = refl; tells = refl }
part_stops true lanes k (suc (suc (suc zero))) showing (group false) whole e f l =
    record { place = head false 3; reached = refl; tells = refl }
part_stops true lanes k (suc (suc (suc (suc n)))) showing (group false) whole e f l = absurd (omega arith)
part_stops enhanced lanes k (suc n) headed (block rows) whole e f l =
    ids_stop enhanced (suc k) (36 / lanes) k n whole rows (omega (arith, length-map rows row)) (f.1 ∙ e)
part_stops enhanced lanes k (suc n) blanking (filler bytes) whole e f l = absurd (omega arith)
part_stops enhanced lanes k (suc zero) blanking (attributes rows) whole e f l =
    record { place = opened; reached = refl; tells = refl }
part_stops enhanced lanes k (suc (suc n)) blanking (attributes rows) whole e f l =
    let s : Stops enhanced (suc k) (36 / lanes) whole (numbers [] (36 / lanes))
    (take n (map row rows ++ code an_se ∷ [])) [] =
    numbers_part enhanced (suc k) (36 / lanes) (36 / lanes) n whole [] rows (code an_se)
    (omega (arith, tail_length rows (code an_se))) f.1 in
    record { place = s.place; reached = s.reached; tells = s.tells }
part_stops enhanced lanes k (suc n) blanking (secondary []) whole e f l = absurd (omega (arith, f.1))
part_stops enhanced lanes k (suc zero) blanking (secondary (r ∷ rows)) whole e f l =
    record { place = opened; reached = refl; tells = refl }
part_stops enhanced lanes k (suc (suc n)) blanking (secondary (r ∷ rows)) whole e f l =
    let s : Stops enhanced (suc k) (36 / lanes) whole (packet (r ∷ [])) (take n (map row rows ++ code an_se ∷ [])) [] =
    packet_part enhanced (suc k) (36 / lanes) n whole (r ∷ []) rows (code an_se)
    (omega (arith, tail_length rows (code an_se))) in
    record { place = s.place; reached = s.reached; tells = s.tells }
part_stops enhanced lanes k (suc n) blanking begins whole e f l = absurd (omega arith)
part_stops enhanced lanes k (suc n) showing (valid bytes) whole e f l = absurd (omega arith)
part_stops enhanced lanes k (suc n) showing (stuffing None) whole e f l = absurd (omega arith)
part_stops enhanced lanes k (suc n) showing (stuffing (Some rows)) whole e f l =
    let s : Stops enhanced (suc k) (36 / lanes) whole (fill []) (take n (map row rows ++ code an_fe ∷ [])) [] =
    fill_part enhanced (suc k) (36 / lanes) n whole [] rows (code an_fe)
    (omega (arith, tail_length rows (code an_fe))) in
    record { place = s.place; reached = s.reached; tells = s.tells }
part_stops enhanced lanes k (suc n) m x whole e f l = absurd f

-- ---- a list of periods is a chain

pub chain_join : (lanes : ℕ) (m : Mode) (xs ys : List Part) → Chain lanes m xs → Chain lanes (end m xs) ys
    → Chain lanes m (xs ++ ys)
chain_join lanes m [] ys c d = d
chain_join lanes m (x ∷ xs) ys c d = (c.0, chain_join lanes (after x) xs ys c.1 d)

pub chain_cut : (lanes : ℕ) (m : Mode) (xs ys : List Part) → Chain lanes m (xs ++ ys)
    → Chain lanes m xs × Chain lanes (end m xs) ys
chain_cut lanes m [] ys c = (tt, c)
chain_cut lanes m (x ∷ xs) ys c = let d = chain_cut lanes (after x) xs ys c.1 in ((c.0, d.0), d.1)

blank_chain : (lanes : ℕ) (xs : List Part) → AllByRecursion (IsBlank lanes) xs
    → Chain lanes blanking xs × (end blanking xs ≡ blanking)
blank_chain lanes [] h = (tt, refl)
blank_chain lanes (filler bytes ∷ xs) h = let c = blank_chain lanes xs h.1 in ((h.0, c.0), c.1)
blank_chain lanes (attributes rows ∷ xs) h = let c = blank_chain lanes xs h.1 in ((h.0, c.0), c.1)
blank_chain lanes (secondary rows ∷ xs) h = let c = blank_chain lanes xs h.1 in ((h.0, c.0), c.1)
blank_chain lanes (x ∷ xs) h = absurd h.0

active_chain : (lanes : ℕ) (xs : List Part) → AllByRecursion (IsActive lanes) xs
    → Chain lanes showing xs × (end showing xs ≡ showing)
active_chain lanes [] h = (tt, refl)
active_chain lanes (valid bytes ∷ xs) h = let c = active_chain lanes xs h.1 in ((h.0, c.0), c.1)
active_chain lanes (stuffing None ∷ xs) h = let c = active_chain lanes xs h.1 in ((tt, c.0), c.1)
active_chain lanes (stuffing (Some rows) ∷ xs) h = let c = active_chain lanes xs h.1 in ((h.0, c.0), c.1)
active_chain lanes (x ∷ xs) h = absurd h.0

-- what may follow a blank part and an active part: a group
abbrev Ends : ℕ → List Part → Type 0
Ends lanes xs = Chain lanes blanking xs × Chain lanes showing xs

may_chain : (lanes : ℕ) (xs rest : List Part) → MayBeActive lanes xs → Ends lanes rest
    → Chain lanes blanking (xs ++ rest)
may_chain lanes [] rest h e = e.0
may_chain lanes (begins ∷ xs) rest h e =
    let c = active_chain lanes xs h in
    (tt, chain_join lanes showing xs rest c.0 (subst (λ m. Chain lanes m rest) (sym c.1) e.1))
may_chain lanes (x ∷ xs) rest h e = absurd h

-- a period after a blank or an active part, and with SR at the beginning
body_chain : (lanes : ℕ) (y : Part) (us vs rest : List Part) → IsBlock lanes y → AllByRecursion (IsBlank lanes) us
    → MayBeActive lanes vs
    → Ends lanes rest → Chain lanes headed (y ∷ ((us ++ vs) ++ rest))
body_chain lanes (block rows) us vs rest i b a e =
    let c = blank_chain lanes us b in (
      i,
      subst (λ xs. Chain lanes blanking xs) (sym (append_assoc us vs rest))
          (chain_join lanes blanking us (vs ++ rest) c.0
          (subst (λ m. Chain lanes m (vs ++ rest)) (sym c.1) (may_chain lanes vs rest a e))),
    )
body_chain lanes x us vs rest i b a e = absurd i

period_chain : (lanes : ℕ) (x y : Part) (us vs rest : List Part) → IsGroup x → IsBlock lanes y
    → AllByRecursion (IsBlank lanes) us → MayBeActive lanes vs
    → Ends lanes rest → Ends lanes ((x ∷ y ∷ (us ++ vs)) ++ rest)
period_chain lanes (group reset) y us vs rest g i b a e =
    let c = body_chain lanes y us vs rest i b a e in ((tt, c), (tt, c))
period_chain lanes x y us vs rest g i b a e = absurd g

periods_chain : (lanes : ℕ) (ps : List (List Part)) → AllByRecursion (IsPeriod lanes) ps
    → Ends lanes (flat_map (λ period. period) ps)
periods_chain lanes [] h = (tt, tt)
periods_chain lanes (p ∷ ps) h =
    let e = periods_chain lanes ps h.1 in
    subst (λ xs. Ends lanes (xs ++ flat_map (λ period. period) ps)) (sym h.0.joined)
    (period_chain lanes h.0.head h.0.ids h.0.blank h.0.active
    (flat_map (λ period. period) ps) h.0.is_group h.0.is_block h.0.is_blank h.0.may_be_active e)

opens : (lanes : ℕ) (xs : List Part) → StartsWithSr xs → Chain lanes blanking xs → Chain lanes opening xs
opens lanes (group reset ∷ xs) s c = (s, c.1)
opens lanes (x ∷ xs) s c = absurd s
opens lanes [] s c = absurd s

pub is_chain : (lanes : ℕ) (xs : List Part) → ArePeriods lanes xs → Chain lanes opening xs
is_chain lanes xs h =
    opens lanes xs h.first (subst (λ ys. Chain lanes blanking ys) (sym h.joined)
    (periods_chain lanes h.periods h.each).0)
