-- What the states have read is spelled by its parts.
use Rattle.std.proofs.Common.{ℕ, zero, suc, ◌+◌, ◌/◌, ◌≤◌, ◌≡◌, ◌∙◌, Bool, true, false, List, [], ◌∷◌, ◌++◌, map}
use Rattle.std.proofs.Common.{length, Option, Some, None, refl, sym, ap, subst, arith, append_assoc}
use Rattle.std.proofs.Common.{length-append}
use Rattle.std.specs.Prelude.{⊤}
use Rattle.std.specs.List.{AllByRecursion, flat_map}
use Rattle.std.proofs.lemmas.List.{append-nil, map-append}
use Rattle.dpx_grammar.specs.Parts.{Part, AreRows}
use Rattle.dpx_grammar.specs.Machine.{a_bs, a_sr, a_be, an_ss, an_se, an_fs, an_fe, a_bf, Token, row, code}
use Rattle.dpx_grammar.specs.Machine.{IsToken, Place, start, head, ids, blank, opened, numbers, packet, active, fill}
use Rattle.dpx_grammar.specs.Machine.{step, run, go_on}
use Rattle.dpx_grammar.proofs.Runs.{tokens, Mode, opening, headed, blanking, showing, after, Follows, Chain, end}

-- ---- steps
-- the tokens that have been read of the next part
abbrev pub front_of : Place → List Token
front_of start = []
front_of (head true zero) = []
front_of (head true (suc zero)) = code a_sr ∷ []
front_of (head true (suc (suc zero))) = code a_sr ∷ code a_bf ∷ []
front_of (head true (suc (suc (suc n)))) = code a_sr ∷ code a_bf ∷ code a_bf ∷ []
front_of (head false zero) = []
front_of (head false (suc zero)) = code a_bs ∷ []
front_of (head false (suc (suc zero))) = code a_bs ∷ code a_bf ∷ []
front_of (head false (suc (suc (suc n)))) = code a_bs ∷ code a_bf ∷ code a_bf ∷ []
front_of (ids rows n) = map row rows
front_of blank = []
front_of opened = code an_ss ∷ []
front_of (numbers rows n) = code an_ss ∷ code an_ss ∷ map row rows
front_of (packet rows) = code an_ss ∷ map row rows
front_of active = []
front_of (fill rows) = code an_fs ∷ map row rows

-- where the machine may stand behind a part
abbrev pub At : Bool → ℕ → Mode → Place → Type 0
At enhanced lanes opening start = ⊤
At enhanced lanes opening (head reset n) = (enhanced ≡ true) × (reset ≡ true) × (1 ≤ n) × (n ≤ 3)
At enhanced lanes blanking (head reset n) = (enhanced ≡ true) × (1 ≤ n) × (n ≤ 3)
At enhanced lanes showing (head reset n) = (enhanced ≡ true) × (1 ≤ n) × (n ≤ 3)
At enhanced lanes headed (ids rows n) = AreRows lanes rows × (length rows + n ≡ 12 / lanes) × (1 ≤ n)
At enhanced lanes blanking blank = ⊤
At enhanced lanes blanking opened = ⊤
At enhanced lanes blanking (numbers rows n) = AreRows lanes rows × (length rows + n ≡ 36 / lanes)
At enhanced lanes blanking (packet rows) = AreRows lanes rows × (1 ≤ length rows)
At enhanced lanes showing active = ⊤
At enhanced lanes showing (fill rows) = AreRows lanes rows
At enhanced lanes _ _ = ⊥

-- what a step does with the next part
abbrev pub Takes : Bool → ℕ → Mode → Place → Token → Option (Option Part × Place) → Type 0
Takes enhanced lanes m s t None = ⊤
Takes enhanced lanes m s t (Some (None, now)) = At enhanced lanes m now × (front_of now ≡ front_of s ++ t ∷ [])
Takes enhanced lanes m s t (Some (Some part, now)) =
    Follows lanes m part × (tokens enhanced part ≡ front_of s ++ t ∷ []) × At enhanced lanes (after part) now
    × (front_of now ≡ [])

one_row : (lanes : ℕ) (rows : List (List ℕ)) (bytes : List ℕ) → AreRows lanes rows → length bytes ≡ lanes
    → AreRows lanes (rows ++ bytes ∷ [])
one_row lanes [] bytes h e = (e, tt)
one_row lanes (r ∷ rows) bytes h e = (h.0, one_row lanes rows bytes h.1 e)

row_end : (rows : List (List ℕ)) (bytes : List ℕ) → map row (rows ++ bytes ∷ []) ≡ map row rows ++ row bytes ∷ []
row_end rows bytes = map-append row rows (bytes ∷ [])

longer : {X : Type 0} (xs : List X) (x : X) → length (xs ++ x ∷ []) ≡ length xs + 1
longer xs x = length-append xs (x ∷ [])

pub different : false ≡ true → ⊥
different e = cc

step_head : (enhanced : Bool) (lanes : ℕ) (m : Mode) (reset : Bool) (n : ℕ) (t : Token)
    → At enhanced lanes m (head reset n) → 1 ≤ 12 / lanes
    → Takes enhanced lanes m (head reset n) t (step enhanced (12 / lanes) (36 / lanes) (head reset n) t)
step_head true lanes opening true (suc zero) (code a_bf) h b = ((refl, refl, omega arith, omega arith), refl)
step_head true lanes opening true (suc (suc zero)) (code a_bf) h b = ((refl, refl, omega arith, omega arith), refl)
step_head true lanes opening true (suc (suc (suc zero))) (code a_sr) h b = (refl, refl, (tt, omega arith, b), refl)
step_head true lanes blanking true (suc zero) (code a_bf) h b = ((refl, omega arith, omega arith), refl)
step_head true lanes blanking true (suc (suc zero)) (code a_bf) h b = ((refl, omega arith, omega arith), refl)
step_head true lanes blanking true (suc (suc (suc zero))) (code a_sr) h b = (tt, refl, (tt, omega arith, b), refl)
step_head true lanes blanking false (suc zero) (code a_bf) h b = ((refl, omega arith, omega arith), refl)
step_head true lanes blanking false (suc (suc zero)) (code a_bf) h b = ((refl, omega arith, omega arith), refl)
step_head true lanes blanking false (suc (suc (suc zero))) (code a_bs) h b = (tt, refl, (tt, omega arith, b), refl)
step_head true lanes showing true (suc zero) (code a_bf) h b = ((refl, omega arith, omega arith), refl)
step_head true lanes showing true (suc (suc zero)) (code a_bf) h b = ((refl, omega arith, omega arith), refl)
step_head true lanes showing true (suc (suc (suc zero))) (code a_sr) h b = (tt, refl, (tt, omega arith, b), refl)
step_head true lanes showing false (suc zero) (code a_bf) h b = ((refl, omega arith, omega arith), refl)
step_head true lanes showing false (suc (suc zero)) (code a_bf) h b = ((refl, omega arith, omega arith), refl)
step_head true lanes showing false (suc (suc (suc zero))) (code a_bs) h b = (tt, refl, (tt, omega arith, b), refl)
step_head enhanced lanes opening false n t h b = absurd (different h.1)
step_head enhanced lanes headed reset n t h b = absurd h
step_head true lanes m reset n t h b = tt
step_head false lanes opening reset n t h b = absurd (different h.0)
step_head false lanes blanking reset n t h b = absurd (different h.0)
step_head false lanes showing reset n t h b = absurd (different h.0)

step_ids : (enhanced : Bool) (lanes : ℕ) (m : Mode) (rows : List (List ℕ)) (n : ℕ) (t : Token)
    → At enhanced lanes m (ids rows n) → IsToken lanes t
    → Takes enhanced lanes m (ids rows n) t (step enhanced (12 / lanes) (36 / lanes) (ids rows n) t)
step_ids enhanced lanes headed rows (suc zero) (row bytes) h g =
    ((one_row lanes rows bytes h.0 g, omega (arith, longer rows bytes, h.1)), row_end rows bytes, tt, refl)
step_ids enhanced lanes headed rows (suc (suc n)) (row bytes) h g =
    ((one_row lanes rows bytes h.0 g, omega (arith, longer rows bytes, h.1), omega arith), row_end rows bytes)
step_ids enhanced lanes headed rows zero t h g = absurd (omega (arith, h.2))
step_ids enhanced lanes headed rows (suc zero) (code c) h g = tt
step_ids enhanced lanes headed rows (suc (suc n)) (code c) h g = tt
step_ids enhanced lanes opening rows n t h g = absurd h
step_ids enhanced lanes blanking rows n t h g = absurd h
step_ids enhanced lanes showing rows n t h g = absurd h

step_numbers : (enhanced : Bool) (lanes : ℕ) (m : Mode) (rows : List (List ℕ)) (n : ℕ) (t : Token)
    → At enhanced lanes m (numbers rows n) → IsToken lanes t
    → Takes enhanced lanes m (numbers rows n) t (step enhanced (12 / lanes) (36 / lanes) (numbers rows n) t)
step_numbers enhanced lanes blanking rows (suc n) (row bytes) h g = (
  (one_row lanes rows bytes h.0 g, omega (arith, longer rows bytes, h.1)),
  ap (λ xs. code an_ss ∷ code an_ss ∷ xs) (row_end rows bytes),
)
step_numbers enhanced lanes blanking rows zero (code an_se) h g = ((h.0, omega (arith, h.1)), refl, tt, refl)
step_numbers enhanced lanes blanking rows n t h g = tt
step_numbers enhanced lanes opening rows n t h g = absurd h
step_numbers enhanced lanes headed rows n t h g = absurd h
step_numbers enhanced lanes showing rows n t h g = absurd h

step_packet : (enhanced : Bool) (lanes : ℕ) (m : Mode) (rows : List (List ℕ)) (t : Token)
    → At enhanced lanes m (packet rows) → IsToken lanes t
    → Takes enhanced lanes m (packet rows) t (step enhanced (12 / lanes) (36 / lanes) (packet rows) t)
step_packet enhanced lanes blanking rows (row bytes) h g = (
  (one_row lanes rows bytes h.0 g, omega (arith, longer rows bytes, h.1)),
  ap (λ xs. code an_ss ∷ xs) (row_end rows bytes),
)
step_packet enhanced lanes blanking rows (code an_se) h g = ((h.0, h.1), refl, tt, refl)
step_packet enhanced lanes blanking rows t h g = tt
step_packet enhanced lanes opening rows t h g = absurd h
step_packet enhanced lanes headed rows t h g = absurd h
step_packet enhanced lanes showing rows t h g = absurd h

step_fill : (enhanced : Bool) (lanes : ℕ) (m : Mode) (rows : List (List ℕ)) (t : Token)
    → At enhanced lanes m (fill rows) → IsToken lanes t
    → Takes enhanced lanes m (fill rows) t (step enhanced (12 / lanes) (36 / lanes) (fill rows) t)
step_fill enhanced lanes showing rows (row bytes) h g =
    (one_row lanes rows bytes h g, ap (λ xs. code an_fs ∷ xs) (row_end rows bytes))
step_fill enhanced lanes showing rows (code an_fe) h g = (h, refl, tt, refl)
step_fill enhanced lanes showing rows t h g = tt
step_fill enhanced lanes opening rows t h g = absurd h
step_fill enhanced lanes headed rows t h g = absurd h
step_fill enhanced lanes blanking rows t h g = absurd h

step_takes : (enhanced : Bool) (lanes : ℕ) (m : Mode) (s : Place) (t : Token) → At enhanced lanes m s → IsToken lanes t
    → 1 ≤ 12 / lanes
    → Takes enhanced lanes m s t (step enhanced (12 / lanes) (36 / lanes) s t)
step_takes enhanced lanes m (head reset n) t h g b = step_head enhanced lanes m reset n t h b
step_takes enhanced lanes m (ids rows n) t h g b = step_ids enhanced lanes m rows n t h g
step_takes enhanced lanes m (numbers rows n) t h g b = step_numbers enhanced lanes m rows n t h g
step_takes enhanced lanes m (packet rows) t h g b = step_packet enhanced lanes m rows t h g
step_takes enhanced lanes m (fill rows) t h g b = step_fill enhanced lanes m rows t h g
step_takes true lanes opening start (code a_sr) h g b = ((refl, refl, omega arith, omega arith), refl)
step_takes false lanes opening start (code a_sr) h g b = (refl, refl, (tt, omega arith, b), refl)
step_takes enhanced lanes opening start t h g b = tt
step_takes enhanced lanes blanking blank (row bytes) h g b = (g, refl, tt, refl)
step_takes true lanes blanking blank (code a_sr) h g b = ((refl, omega arith, omega arith), refl)
step_takes false lanes blanking blank (code a_sr) h g b = (tt, refl, (tt, omega arith, b), refl)
step_takes true lanes blanking blank (code a_bs) h g b = ((refl, omega arith, omega arith), refl)
step_takes false lanes blanking blank (code a_bs) h g b = (tt, refl, (tt, omega arith, b), refl)
step_takes enhanced lanes blanking blank (code a_be) h g b = (tt, refl, tt, refl)
step_takes enhanced lanes blanking blank (code an_ss) h g b = (tt, refl)
step_takes enhanced lanes blanking blank t h g b = tt
step_takes enhanced lanes blanking opened (code an_ss) h g b = ((tt, omega arith), refl)
step_takes enhanced lanes blanking opened (row bytes) h g b = (((g, tt), omega arith), refl)
step_takes enhanced lanes blanking opened t h g b = tt
step_takes enhanced lanes showing active (row bytes) h g b = (g, refl, tt, refl)
step_takes enhanced lanes showing active (code an_fe) h g b = (tt, refl, tt, refl)
step_takes enhanced lanes showing active (code an_fs) h g b = (tt, refl)
step_takes true lanes showing active (code a_sr) h g b = ((refl, omega arith, omega arith), refl)
step_takes false lanes showing active (code a_sr) h g b = (tt, refl, (tt, omega arith, b), refl)
step_takes true lanes showing active (code a_bs) h g b = ((refl, omega arith, omega arith), refl)
step_takes false lanes showing active (code a_bs) h g b = (tt, refl, (tt, omega arith, b), refl)
step_takes enhanced lanes showing active t h g b = tt
step_takes enhanced lanes m s t h g b = absurd h

-- ---- runs

pub record Ran (enhanced : Bool) (lanes : ℕ) (m : Mode) (s : Place) (ts : List Token) (whole ended : List Part)
    (now : Place) : Type 0 where
  pub parts : List Part
  pub grew : ended ≡ whole ++ parts
  pub chain : Chain lanes m parts
  pub stands : At enhanced lanes (end m parts) now
  pub spelled : front_of s ++ ts ≡ flat_map (tokens enhanced) parts ++ front_of now

no_some : {X : Type 0} (x : X) → None ≡ Some x → ⊥
no_some x e = cc

some_is : (x y : List Part × Place) → Some x ≡ Some y → x ≡ y
some_is x y e = cc

-- one step more
ran_more : (enhanced : Bool) (lanes : ℕ) (m : Mode) (s : Place) (t : Token) (ts : List Token) (whole ended : List Part)
    (now : Place) (o : Option (Option Part × Place))
    → Takes enhanced lanes m s t o
    → ((m : Mode) (s : Place) (whole : List Part) → At enhanced lanes m s
    → run enhanced (12 / lanes) (36 / lanes) whole s ts ≡ Some (ended, now)
    → Ran enhanced lanes m s ts whole ended now)
    → go_on whole o (λ w p. run enhanced (12 / lanes) (36 / lanes) w p ts) ≡ Some (ended, now)
    → Ran enhanced lanes m s (t ∷ ts) whole ended now
ran_more enhanced lanes m s t ts whole ended now None h more e = absurd (no_some (ended, now) e)
ran_more enhanced lanes m s t ts whole ended now (Some (None, next)) h more e =
    let r : Ran enhanced lanes m next ts whole ended now = more m next whole h.0 e in
    record {
      parts = r.parts;
      grew = r.grew;
      chain = r.chain;
      stands = r.stands;
      spelled = sym (append_assoc (front_of s) (t ∷ []) ts) ∙ ap (λ xs. xs ++ ts) (sym h.1) ∙ r.spelled;
    }
ran_more enhanced lanes m s t ts whole ended now (Some (Some part, next)) h more e =
    let r : Ran enhanced lanes (after part) next ts (whole ++ part ∷ []) ended now =
    more (after part) next (whole ++ part ∷ []) h.2 e in
    let rest : ts ≡ flat_map (tokens enhanced) r.parts ++ front_of now = ap (λ xs. xs ++ ts) (sym h.3) ∙ r.spelled in
    record {
      parts = part ∷ r.parts;
      grew = r.grew ∙ append_assoc whole (part ∷ []) r.parts;
      chain = (h.0, r.chain);
      stands = r.stands;
      spelled =
          sym (append_assoc (front_of s) (t ∷ []) ts) ∙ ap (λ xs. xs ++ ts) (sym h.1)
          ∙ ap (λ xs. tokens enhanced part ++ xs) rest
          ∙ sym (append_assoc (tokens enhanced part) (flat_map (tokens enhanced) r.parts) (front_of now));
    }

pub run_sound : (enhanced : Bool) (lanes : ℕ) (ts : List Token) (ended : List Part) (now : Place)
    → AllByRecursion (IsToken lanes) ts → 1 ≤ 12 / lanes
    → (m : Mode) (s : Place) (whole : List Part) → At enhanced lanes m s
    → run enhanced (12 / lanes) (36 / lanes) whole s ts ≡ Some (ended, now)
    → Ran enhanced lanes m s ts whole ended now
run_sound enhanced lanes [] ended now good b m s whole h e =
    let p = some_is (whole, s) (ended, now) e in
    let w : whole ≡ ended = ap (λ x. x.0) p in
    let q : s ≡ now = ap (λ x. x.1) p in
    record {
      parts = [];
      grew = sym w ∙ sym (append-nil whole);
      chain = tt;
      stands = subst (λ z. At enhanced lanes m z) q h;
      spelled = append-nil (front_of s) ∙ ap front_of q;
    }
run_sound enhanced lanes (t ∷ ts) ended now good b m s whole h e =
    ran_more enhanced lanes m s t ts whole ended now (step enhanced (12 / lanes) (36 / lanes) s t)
    (step_takes enhanced lanes m s t h good.0 b) (run_sound enhanced lanes ts ended now good.1 b) e
