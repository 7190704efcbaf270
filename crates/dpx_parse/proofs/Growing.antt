-- What is told grows by a part, or its last block grows.
use Rattle.std.proofs.Common.{ℕ, zero, suc, ◌/◌, ◌≡◌, ◌∙◌, ◌⊎◌, List, [], ◌∷◌, ◌++◌, Option, Some, None, Bool, true}
use Rattle.std.proofs.Common.{false, length, reverse, refl, sym, ap, subst, arith, inl, inr, append_assoc}
use Rattle.std.specs.Prelude.{⊤, ◌==◌}
use Rattle.std.proofs.lemmas.List.{append-nil}
use Rattle.dpx_base.specs.declared.lanes.Lanes.{Lanes}
use Rattle.dpx_base.specs.declared.sym.Sym.{Sym}
use Rattle.dpx_base.specs.Lanes.{lanes_count}
use Rattle.dpx_grammar.specs.Accepted.{copies}
use Rattle.dpx_grammar.specs.Machine.{a_bs, a_sr, a_be, an_ss, an_se, an_fs, an_fe, a_bf, Token, row, code, Place}
use Rattle.dpx_grammar.specs.Machine.{start, head, ids, blank, opened, numbers, packet, active, fill, step, grown}
use Rattle.dpx_grammar.specs.Machine.{Reads}
use Rattle.dpx_parse.proofs.Steps.{IsAt}
use Rattle.dpx_grammar.specs.Parts.{Part, group, block, filler, attributes, secondary, begins, valid, stuffing}
use Rattle.dpx_parse.specs.Events.{part_event, event_told}
use Rattle.dpx_parse.specs.FirstFault.{Tells}
use Rattle.dpx_parse.specs.Received.{AreEvents, heard}
use Rattle.dpx_parse.specs.Stands.{told}
use Rattle.dpx_parse.specs.declared.event.Event.{Event}
use Rattle.dpx_parse.specs.declared.event.Event.TheVariants.{Nothing, Attributes, LineStart, Valid, LineEnd}
use Rattle.dpx_parse.proofs.Reading.{tells_is, Longer, longer_of}
use Rattle.dpx_parse.proofs.Takes.{grown_back}

-- ---- what is told grows by a part, or its last block grows

pub record Grew (old new : List Part) : Type 0 where
  pub x : Part
  pub is : new ≡ x ∷ old

pub record Swelled (old new : List Part) : Type 0 where
  pub rows : List (List ℕ)
  pub more : List (List ℕ)
  pub whole : List Part
  pub old_is : old ≡ block rows ∷ whole
  pub new_is : new ≡ block more ∷ whole
  pub ids : List ℕ
  pub copies_are : copies more ≡ copies rows ++ ids

abbrev pub Grows : List Part → List Part → Type 0
Grows old new = (new ≡ old) ⊎ (Grew old new ⊎ Swelled old new)

abbrev pub GrowsBy : List Part → Place → Option (Option Part × Place) → Type 0
GrowsBy whole s None = ⊤
GrowsBy whole s (Some to) = Grows (told whole s) (told (grown_back whole to.0) to.1)

one_more : (x : Part) (old : List Part) → Grows old (x ∷ old)
one_more x old = inr (inl (record { x = x; is = refl }))

told_ids : (whole : List Part) (rows : List (List ℕ)) (x : List ℕ) (n : ℕ)
    → told whole (ids (rows ++ x ∷ []) n) ≡ block (rows ++ x ∷ []) ∷ whole
told_ids whole [] x n = refl
told_ids whole (r ∷ rows) x n = refl

copies_grow : (rows : List (List ℕ)) (x : List ℕ) → (ids : List ℕ) × (copies (rows ++ x ∷ []) ≡ copies rows ++ ids)
copies_grow [] x = (x, refl)
copies_grow (a ∷ []) x = ([], sym (append-nil a))
copies_grow (a ∷ b ∷ []) x = ([], refl)
copies_grow (a ∷ b ∷ c ∷ rows) x = let i = copies_grow rows x in
    (i.0, ap (λ z. a ++ z) i.1 ∙ sym (append_assoc a (copies rows) i.0))

swells : (whole : List Part) (rows : List (List ℕ)) (x : List ℕ) (n : ℕ)
    → Grows (told whole (ids rows n)) (block (rows ++ x ∷ []) ∷ whole)
swells whole [] x n = one_more (block (x ∷ [])) whole
swells whole (r ∷ rows) x n =
    let g = copies_grow (r ∷ rows) x in
    inr (inr (record {
      rows = r ∷ rows;
      more = (r ∷ rows) ++ x ∷ [];
      whole = whole;
      old_is = refl;
      new_is = refl;
      ids =
          g.0;
      copies_are = g.1;
    }))

grows : (e : Bool) (b a : ℕ) (whole : List Part) (s : Place) (t : Token) → GrowsBy whole s (step e b a s t)
grows true b a whole start (code a_sr) = one_more (group true) whole
grows false b a whole start (code a_sr) = one_more (group true) whole
grows e b a whole start t = tt
grows e b a whole (head reset (suc zero)) (code a_bf) = inl refl
grows e b a whole (head reset (suc (suc zero))) (code a_bf) = inl refl
grows e b a whole (head true (suc (suc (suc zero)))) (code a_sr) = inl refl
grows e b a whole (head false (suc (suc (suc zero)))) (code a_bs) = inl refl
grows e b a whole (ids rows (suc zero)) (row bytes) = swells whole rows bytes 1
grows e b a whole (ids rows (suc (suc n))) (row bytes) =
    subst (λ x. Grows (told whole (ids rows (suc (suc n)))) x) (sym (told_ids whole rows bytes (suc n)))
    (swells whole rows bytes (suc (suc n)))
grows e b a whole blank (row bytes) = one_more (filler bytes) whole
grows true b a whole blank (code a_sr) = one_more (group true) whole
grows false b a whole blank (code a_sr) = one_more (group true) whole
grows true b a whole blank (code a_bs) = one_more (group false) whole
grows false b a whole blank (code a_bs) = one_more (group false) whole
grows e b a whole blank (code a_be) = one_more begins whole
grows e b a whole blank (code an_ss) = inl refl
grows e b a whole opened (code an_ss) = inl refl
grows e b a whole opened (row bytes) = inl refl
grows e b a whole (numbers rows (suc n)) (row bytes) = inl refl
grows e b a whole (numbers rows zero) (code an_se) = one_more (attributes rows) whole
grows e b a whole (packet rows) (row bytes) = inl refl
grows e b a whole (packet rows) (code an_se) = one_more (secondary rows) whole
grows e b a whole active (row bytes) = one_more (valid bytes) whole
grows e b a whole active (code an_fe) = one_more (stuffing None) whole
grows e b a whole active (code an_fs) = inl refl
grows true b a whole active (code a_sr) = one_more (group true) whole
grows false b a whole active (code a_sr) = one_more (group true) whole
grows true b a whole active (code a_bs) = one_more (group false) whole
grows false b a whole active (code a_bs) = one_more (group false) whole
grows e b a whole (fill rows) (row bytes) = inl refl
grows e b a whole (fill rows) (code an_fe) = one_more (stuffing (Some rows)) whole
grows e b a whole s t = tt

-- ---- what is heard of the parts, newest first

abbrev pub heard_of : ℕ → List Part → List Event
heard_of lanes [] = []
heard_of lanes (x ∷ before) = heard_of lanes before ++ heard (part_event lanes before x ∷ [])

same_length : (n : ℕ) → n == n ≡ true
same_length n = grind arith

next_length : (n : ℕ) → suc n == n ≡ false
next_length n = grind arith

heard_more : (lanes : ℕ) (old new : List Part) → Grows old new
    → heard_of lanes new ≡ heard_of lanes old ++ heard (event_told lanes old new ∷ [])
heard_more lanes old new (inl e) =
    let z = same_length (length old) in
    subst (λ x. heard_of lanes x ≡ heard_of lanes old ++ heard (event_told lanes old x ∷ [])) (sym e)
    (rw z (sym (append-nil (heard_of lanes old))))
heard_more lanes old new (inr (inl g)) =
    let z = next_length (length old) in
    subst (λ x. heard_of lanes x ≡ heard_of lanes old ++ heard (event_told lanes old x ∷ [])) (sym g.is) (rw z refl)
heard_more lanes old new (inr (inr g)) =
    let z = same_length (suc (length g.whole)) in
    subst (λ x. heard_of lanes x ≡ heard_of lanes old ++ heard (event_told lanes old x ∷ [])) (sym g.new_is)
    (subst (λ y. heard_of lanes (block g.more ∷ g.whole)
    ≡ heard_of lanes y ++ heard (event_told lanes y (block g.more ∷ g.whole) ∷ [])) (sym g.old_is)
    (rw z (sym (append-nil (heard_of lanes g.whole ++ [])))))

pub heard_join : (xs ys : List Event) → heard (xs ++ ys) ≡ heard xs ++ heard ys
heard_join [] ys = refl
heard_join (Nothing ∷ xs) ys = heard_join xs ys
heard_join (Attributes a ∷ xs) ys = ap (λ z. Attributes a ∷ z) (heard_join xs ys)
heard_join (LineStart ∷ xs) ys = ap (λ z. LineStart ∷ z) (heard_join xs ys)
heard_join (Valid x ∷ xs) ys = ap (λ z. Valid x ∷ z) (heard_join xs ys)
heard_join (LineEnd ∷ xs) ys = ap (λ z. LineEnd ∷ z) (heard_join xs ys)

-- the events of the sets behind those, with what was heard before
pub all_heard : (l : Lanes) (en : Bool) (before sets : List (List Sym)) (es : List Event) (whole : List Part)
    (s : Place)
    (parts : List Part)
    → Reads en (lanes_count l) before whole s → IsAt s → AreEvents en (lanes_count l) before sets es
    → Tells en (lanes_count l) (before ++ sets) parts
    → heard_of (lanes_count l) (reverse parts) ≡ heard_of (lanes_count l) (told (reverse whole) s) ++ heard es
all_heard l en before [] [] whole s parts r at h t =
    let t' : Tells en (lanes_count l) before parts =
    subst (λ x. Tells en (lanes_count l) x parts) (append-nil before) t in
    ap (heard_of (lanes_count l)) (tells_is l en before whole s parts r t')
    ∙ sym (append-nil (heard_of (lanes_count l) (told (reverse whole) s)))
all_heard l en before [] (e ∷ es) whole s parts r at h t = absurd h
all_heard l en before (set ∷ sets) [] whole s parts r at h t = absurd h
all_heard l en before (set ∷ sets) (e ∷ es) whole s parts r at h t =
    let x : Longer l en before set whole s = longer_of l en before set whole s h.0.new r at h.0.new_are in
    let g : Grows (told (reverse whole) s) (told (reverse (grown whole x.part)) x.now) =
    subst (λ w. Grows (told (reverse whole) s) (told w x.now)) (sym x.grown_is)
    (subst (GrowsBy (reverse whole) s) x.step_is
    (grows en (12 / lanes_count l) (36 / lanes_count l) (reverse whole) s x.token)) in
    let q : e ≡ event_told (lanes_count l) (told (reverse whole) s) (told (reverse (grown whole x.part)) x.now) =
    h.0.event_is ∙ ap (λ w. event_told (lanes_count l) w (reverse h.0.new))
    (tells_is l en before whole s h.0.old r h.0.old_are)
    ∙ ap (event_told (lanes_count l) (told (reverse whole) s))
    (tells_is l en (before ++ set ∷ []) (grown whole x.part) x.now h.0.new x.reads h.0.new_are) in
    let t' : Tells en (lanes_count l) ((before ++ set ∷ []) ++ sets) parts =
    subst (λ z. Tells en (lanes_count l) z parts) (sym (append_assoc before (set ∷ []) sets)) t in
    let i = all_heard l en (before ++ set ∷ []) sets es (grown whole x.part) x.now parts x.reads x.at h.1 t' in
    i ∙ ap (λ z. z ++ heard es) (heard_more (lanes_count l) (told (reverse whole) s)
    (told (reverse (grown whole x.part)) x.now) g)
    ∙ append_assoc (heard_of (lanes_count l) (told (reverse whole) s))
    (heard (event_told (lanes_count l) (told (reverse whole) s) (told (reverse (grown whole x.part)) x.now) ∷ []))
    (heard es)
    ∙ ap (λ z. heard_of (lanes_count l) (told (reverse whole) s) ++ z)
    (sym (heard_join (event_told (lanes_count l) (told (reverse whole) s)
    (told (reverse (grown whole x.part)) x.now) ∷ []) es))
    ∙ ap (λ z. heard_of (lanes_count l) (told (reverse whole) s) ++ heard (z ∷ es)) (sym q)
