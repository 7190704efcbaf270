-- Each place can be gone on from.
use Rattle.std.proofs.Common.{ℕ, zero, suc, ◌≤◌, ◌≡◌, ◌≢◌, ◌∙◌, Bool, true, false, List, [], ◌∷◌, ◌++◌, map}
use Rattle.std.proofs.Common.{length, replicate, Some, refl, sym, ap, arith, append_assoc}
use Rattle.std.proofs.Common.{length-append}
use Rattle.std.proofs.lemmas.List.{map-append, length-map, length-replicate, take_at}
use Rattle.dpx_grammar.specs.Parts.{Part, group, block, filler, attributes, secondary, valid, stuffing, AreRows}
use Rattle.dpx_grammar.specs.Machine.{begun_of, a_bs, a_sr, an_ss, an_se, an_fe, a_bf, Token, row, code}
use Rattle.dpx_grammar.specs.Machine.{Place, start, head, ids, blank, opened, numbers, packet, active, fill}
use Rattle.dpx_grammar.proofs.Cuts.{told_in}
use Rattle.dpx_grammar.proofs.Runs.{tokens, Mode, opening, headed, blanking, showing, Follows}
use Rattle.dpx_grammar.proofs.Sound.{front_of, At, different}

-- ---- each place can be gone on from

pub record Goes (enhanced : Bool) (lanes : ℕ) (m : Mode) (s : Place) : Type 0 where
  pub next : Part
  pub back : List Token
  pub follows : Follows lanes m next
  pub spelled : tokens enhanced next ≡ front_of s ++ back
  pub unfinished : back ≢ []
  pub tells : told_in next (length (front_of s)) ≡ begun_of s

pub zeros : ℕ → List ℕ
zeros lanes = replicate lanes 0

pub zero_rows : (lanes n : ℕ) → AreRows lanes (replicate n (zeros lanes))
unfolding zeros
zero_rows lanes zero = tt
zero_rows lanes (suc n) = (length-replicate lanes 0, zero_rows lanes n)

rows_join : (lanes : ℕ) (xs ys : List (List ℕ)) → AreRows lanes xs → AreRows lanes ys → AreRows lanes (xs ++ ys)
rows_join lanes [] ys a b = b
rows_join lanes (x ∷ xs) ys a b = (a.0, rows_join lanes xs ys a.1 b)

some_cons : {X : Type 0} (x : X) (xs : List X) → x ∷ xs ≢ []
some_cons x xs = λ e. cc

some_append : {X : Type 0} (x : X) (xs : List X) → xs ++ x ∷ [] ≢ []
some_append x [] = some_cons x []
some_append x (y ∷ ys) = some_cons y (ys ++ x ∷ [])

some_rows : (lanes n : ℕ) → 1 ≤ n → map row (replicate n (zeros lanes)) ≢ []
some_rows lanes zero h = absurd (omega arith)
some_rows lanes (suc n) h = some_cons (row (zeros lanes)) (map row (replicate n (zeros lanes)))

head_goes : (lanes : ℕ) (m : Mode) (reset : Bool) (n : ℕ) → 1 ≤ n → n ≤ 3 → Follows lanes m (group reset)
    → Goes true lanes m (head reset n)
head_goes lanes m true (suc zero) a b f =
    record {
      next = group true;
      back = code a_bf ∷ code a_bf ∷ code a_sr ∷ [];
      follows = f;
      spelled = refl;
      unfinished =
          some_cons _ _;
      tells = refl;
    }
head_goes lanes m true (suc (suc zero)) a b f =
    record {
      next = group true;
      back = code a_bf ∷ code a_sr ∷ [];
      follows = f;
      spelled = refl;
      unfinished =
          some_cons _ _;
      tells = refl;
    }
head_goes lanes m true (suc (suc (suc zero))) a b f =
    record {
      next = group true;
      back = code a_sr ∷ [];
      follows = f;
      spelled = refl;
      unfinished = some_cons _ _;
      tells =
          refl;
    }
head_goes lanes m false (suc zero) a b f =
    record {
      next = group false;
      back = code a_bf ∷ code a_bf ∷ code a_bs ∷ [];
      follows = f;
      spelled = refl;
      unfinished = some_cons _ _;
      tells = refl;
    }
head_goes lanes m false (suc (suc zero)) a b f =
    record {
      next = group false;
      back = code a_bf ∷ code a_bs ∷ [];
      follows = f;
      spelled = refl;
      unfinished =
          some_cons _ _;
      tells = refl;
    }
head_goes lanes m false (suc (suc (suc zero))) a b f =
    record {
      next = group false;
      back = code a_bs ∷ [];
      follows = f;
      spelled = refl;
      unfinished = some_cons _ _;
      tells =
          refl;
    }
head_goes lanes m reset zero a b f = absurd (omega arith)
head_goes lanes m reset (suc (suc (suc (suc n)))) a b f = absurd (omega arith)

ids_tell : (rows zs : List (List ℕ)) (n : ℕ)
    → told_in (block (rows ++ zs)) (length (map row rows)) ≡ begun_of (ids rows n)
ids_tell [] zs n = refl
ids_tell (r ∷ rows) zs n = ap (λ xs. block (r ∷ xs) ∷ [])
    (take_at rows zs (length (map row rows)) (sym (length-map rows row)))

pub goes : (enhanced : Bool) (lanes : ℕ) (m : Mode) (s : Place) → At enhanced lanes m s → Goes enhanced lanes m s
unfolding zeros
goes true lanes opening start h =
    record {
      next = group true;
      back = code a_sr ∷ code a_bf ∷ code a_bf ∷ code a_sr ∷ [];
      follows = refl;
      spelled =
          refl;
      unfinished = some_cons _ _;
      tells = refl;
    }
goes false lanes opening start h =
    record {
      next = group true;
      back = code a_sr ∷ [];
      follows = refl;
      spelled = refl;
      unfinished = some_cons _ _;
      tells = refl;
    }
goes true lanes opening (head reset n) h = head_goes lanes opening reset n h.2 h.3 h.1
goes true lanes blanking (head reset n) h = head_goes lanes blanking reset n h.1 h.2 tt
goes true lanes showing (head reset n) h = head_goes lanes showing reset n h.1 h.2 tt
goes false lanes opening (head reset n) h = absurd (different h.0)
goes false lanes blanking (head reset n) h = absurd (different h.0)
goes false lanes showing (head reset n) h = absurd (different h.0)
goes enhanced lanes headed (ids rows n) h = record {
  next = block (rows ++ replicate n (zeros lanes));
  back = map row (replicate n (zeros lanes));
  follows = (
    rows_join lanes rows (replicate n (zeros lanes)) h.0 (zero_rows lanes n),
    omega (arith, length-append rows (replicate n (zeros lanes)), length-replicate n (zeros lanes), h.1),
  );
  spelled = map-append row rows (replicate n (zeros lanes));
  unfinished = some_rows lanes n h.2;
  tells = ids_tell rows (replicate n (zeros lanes)) n;
}
goes enhanced lanes blanking blank h =
    record {
      next = filler (zeros lanes);
      back = row (zeros lanes) ∷ [];
      follows = length-replicate lanes 0;
      spelled =
          refl;
      unfinished = some_cons _ _;
      tells = refl;
    }
goes enhanced lanes blanking opened h = record {
  next = secondary (zeros lanes ∷ []);
  back = row (zeros lanes) ∷ code an_se ∷ [];
  follows = ((length-replicate lanes 0, tt), omega arith);
  spelled = refl;
  unfinished = some_cons _ _;
  tells = refl;
}
goes enhanced lanes blanking (numbers rows n) h = record {
  next = attributes (rows ++ replicate n (zeros lanes));
  back = map row (replicate n (zeros lanes)) ++ code an_se ∷ [];
  follows = (
    rows_join lanes rows (replicate n (zeros lanes)) h.0 (zero_rows lanes n),
    omega (arith, length-append rows (replicate n (zeros lanes)), length-replicate n (zeros lanes), h.1),
  );
  spelled =
      ap (λ xs. code an_ss ∷ code an_ss ∷ (xs ++ code an_se ∷ [])) (map-append row rows (replicate n (zeros lanes)))
      ∙ ap (λ xs. code an_ss ∷ code an_ss ∷ xs)
      (append_assoc (map row rows) (map row (replicate n (zeros lanes))) (code an_se ∷ []));
  unfinished = some_append (code an_se) (map row (replicate n (zeros lanes)));
  tells = refl;
}
goes enhanced lanes blanking (packet rows) h =
    record {
      next = secondary rows;
      back = code an_se ∷ [];
      follows = h;
      spelled = refl;
      unfinished = some_cons _ _;
      tells = refl;
    }
goes enhanced lanes showing active h =
    record {
      next = valid (zeros lanes);
      back = row (zeros lanes) ∷ [];
      follows = length-replicate lanes 0;
      spelled =
          refl;
      unfinished = some_cons _ _;
      tells = refl;
    }
goes enhanced lanes showing (fill rows) h =
    record {
      next = stuffing (Some rows);
      back = code an_fe ∷ [];
      follows = h;
      spelled = refl;
      unfinished =
          some_cons _ _;
      tells = refl;
    }
goes enhanced lanes m s h = absurd h
