-- The sets of an unfinished line.
use Rattle.std.proofs.Common.{ℕ, ◌+◌, ◌≡◌, ◌∙◌, List, [], ◌∷◌, ◌++◌, Bool, true, false, map, length, reverse, refl, sym}
use Rattle.std.proofs.Common.{ap, arith, length-append, append_assoc}
use Rattle.std.specs.Prelude.{if◌then◌else◌}
use Rattle.std.specs.List.{flat_map}
use Rattle.std.proofs.lemmas.List.{append-nil, reverse-append, length-map}
use Rattle.dpx_base.specs.declared.lanes.Lanes.{Lanes}
use Rattle.dpx_base.specs.declared.sym.Sym.{Sym}
use Rattle.dpx_base.specs.Lanes.{lanes_count}
use Rattle.dpx_grammar.specs.Accepted.{is_ended, unfinished}
use Rattle.dpx_grammar.specs.Machine.{row, token_set, Place, start, head, ids, blank, opened, numbers, packet, active}
use Rattle.dpx_grammar.specs.Machine.{fill}
use Rattle.dpx_grammar.specs.Parts.{Part, group, block, filler, attributes, secondary, begins, valid, stuffing, begun}
use Rattle.dpx_grammar.specs.Parts.{sets_of}
use Rattle.dpx_grammar.specs.Machine.{begun_of}
use Rattle.dpx_grammar.proofs.Runs.{Mode, opening, headed, blanking, showing}
use Rattle.dpx_grammar.proofs.Sound.{front_of}
use Rattle.dpx_parse.specs.Faults.{is_live}
use Rattle.dpx_grammar.specs.Parts.{sets_of}
use Rattle.dpx_parse.specs.Parser.{lanes_of, enhanced_of, HasTaken, IsTail}
use Rattle.dpx_parse.specs.Stands.{told, is_live_at, since, tail_at, number_of}
use Rattle.dpx_parse.specs.declared.parser.Parser.{Parser}
use Rattle.dpx_parse.proofs.Order.{Order, cut_order}
use Rattle.dpx_parse.proofs.Reading.{back_told}
use Rattle.dpx_parse.proofs.Places.{cut_is, reads_joined, cancel}

-- the same count from the first part on
abbrev tail_in : Bool → ℕ → ℕ → Bool → List Part → ℕ → ℕ
tail_in e lanes c l [] f = if l then c + f else 0
tail_in e lanes c l (group r ∷ ps) f = tail_in e lanes 0 false ps f
tail_in e lanes c l (block x ∷ ps) f = tail_in e lanes c l ps f
tail_in e lanes c l (filler x ∷ ps) f = tail_in e lanes c l ps f
tail_in e lanes c l (attributes x ∷ ps) f = tail_in e lanes c l ps f
tail_in e lanes c l (secondary x ∷ ps) f = tail_in e lanes c l ps f
tail_in e lanes c l (begins ∷ ps) f = tail_in e lanes 1 true ps f
tail_in e lanes c l (valid x ∷ ps) f = tail_in e lanes (c + 1) l ps f
tail_in e lanes c l (stuffing x ∷ ps) f = tail_in e lanes (c + length (sets_of e lanes (stuffing x))) l ps f

abbrev lit_tail : Bool → ℕ → ℕ → List Part → ℕ → ℕ
lit_tail e lanes c ps f = if is_ended ps then unfinished e lanes ps f else c +
    (length (flat_map (sets_of e lanes) ps) + f)

rest_same : (b : Bool) (u x y : ℕ) → x ≡ y → (if b then u else x) ≡ (if b then u else y)
rest_same true u x y e = refl
rest_same false u x y e = e

abbrev Goal : Bool → ℕ → ℕ → Mode → List Part → ℕ → Type 0
Goal e lanes c showing ps f = lit_tail e lanes c ps f ≡ tail_in e lanes c true ps f
Goal e lanes c m ps f = unfinished e lanes ps f ≡ tail_in e lanes c false ps f

tail_of : (e : Bool) (lanes c : ℕ) (m : Mode) (ps : List Part) (f : ℕ) → Order m ps → Goal e lanes c m ps f
tail_of e lanes c showing [] f w = omega arith
tail_of e lanes c showing (group r ∷ ps) f w = tail_of e lanes 0 headed ps f w.1
tail_of e lanes c showing (valid x ∷ ps) f w =
    rest_same (is_ended ps) (unfinished e lanes ps f) _ _ (omega arith) ∙ tail_of e lanes (c + 1) showing ps f w.1
tail_of e lanes c showing (stuffing x ∷ ps) f w =
    rest_same (is_ended ps) (unfinished e lanes ps f) _ _
    (omega (arith, length-append (sets_of e lanes (stuffing x)) (flat_map (sets_of e lanes) ps)))
    ∙ tail_of e lanes (c + length (sets_of e lanes (stuffing x))) showing ps f w.1
tail_of e lanes c showing (x ∷ ps) f w = absurd w.0
tail_of e lanes c opening [] f w = refl
tail_of e lanes c opening (group r ∷ ps) f w = tail_of e lanes 0 headed ps f w.1
tail_of e lanes c opening (x ∷ ps) f w = absurd w.0
tail_of e lanes c headed [] f w = refl
tail_of e lanes c headed (block x ∷ ps) f w = tail_of e lanes c blanking ps f w.1
tail_of e lanes c headed (x ∷ ps) f w = absurd w.0
tail_of e lanes c blanking [] f w = refl
tail_of e lanes c blanking (group r ∷ ps) f w = tail_of e lanes 0 headed ps f w.1
tail_of e lanes c blanking (filler x ∷ ps) f w = tail_of e lanes c blanking ps f w.1
tail_of e lanes c blanking (attributes x ∷ ps) f w = tail_of e lanes c blanking ps f w.1
tail_of e lanes c blanking (secondary x ∷ ps) f w = tail_of e lanes c blanking ps f w.1
tail_of e lanes c blanking (begins ∷ ps) f w =
    rest_same (is_ended ps) (unfinished e lanes ps f) _ _ (omega arith) ∙ tail_of e lanes 1 showing ps f w.1
tail_of e lanes c blanking (x ∷ ps) f w = absurd w.0

rev_cons : (x : Part) (xs ys : List Part) → reverse (x ∷ xs) ++ ys ≡ reverse xs ++ (x ∷ ys)
rev_cons x xs ys = ap (λ z. z ++ ys) (reverse-append (x ∷ []) xs) ∙ append_assoc (reverse xs) (x ∷ []) ys

abbrev back_tail : Bool → ℕ → List Part → ℕ → ℕ
back_tail e lanes parts f = if is_live parts then since e lanes parts + f else 0

back_is : (e : Bool) (lanes : ℕ) (before ps : List Part) (f : ℕ)
    → tail_in e lanes (since e lanes before) (is_live before) ps f ≡ back_tail e lanes (reverse ps ++ before) f
back_is e lanes before [] f = refl
back_is e lanes before (group x ∷ ps) f = back_is e lanes (group x ∷ before) ps f
    ∙ ap (λ z. back_tail e lanes z f) (sym (rev_cons (group x) ps before))
back_is e lanes before (block x ∷ ps) f = back_is e lanes (block x ∷ before) ps f
    ∙ ap (λ z. back_tail e lanes z f) (sym (rev_cons (block x) ps before))
back_is e lanes before (filler x ∷ ps) f =
    back_is e lanes (filler x ∷ before) ps f ∙ ap (λ z. back_tail e lanes z f) (sym (rev_cons (filler x) ps before))
back_is e lanes before (attributes x ∷ ps) f =
    back_is e lanes (attributes x ∷ before) ps f
    ∙ ap (λ z. back_tail e lanes z f) (sym (rev_cons (attributes x) ps before))
back_is e lanes before (secondary x ∷ ps) f =
    back_is e lanes (secondary x ∷ before) ps f
    ∙ ap (λ z. back_tail e lanes z f) (sym (rev_cons (secondary x) ps before))
back_is e lanes before (begins ∷ ps) f = back_is e lanes (begins ∷ before) ps f
    ∙ ap (λ z. back_tail e lanes z f) (sym (rev_cons begins ps before))
back_is e lanes before (valid x ∷ ps) f = back_is e lanes (valid x ∷ before) ps f
    ∙ ap (λ z. back_tail e lanes z f) (sym (rev_cons (valid x) ps before))
back_is e lanes before (stuffing x ∷ ps) f =
    back_is e lanes (stuffing x ∷ before) ps f ∙ ap (λ z. back_tail e lanes z f) (sym (rev_cons (stuffing x) ps before))

-- by the place
at_is : (e : Bool) (lanes : ℕ) (whole : List Part) (s : Place) → is_live (told whole s) ≡ is_live_at s
    → back_tail e lanes (told whole s) (length (front_of s)) ≡ tail_at e lanes whole s
at_is e lanes whole start h = rw h refl
at_is e lanes whole (head r n) h = refl
at_is e lanes whole (ids [] n) h = rw h refl
at_is e lanes whole (ids (x ∷ rows) n) h = rw h refl
at_is e lanes whole blank h = rw h refl
at_is e lanes whole opened h = rw h refl
at_is e lanes whole (numbers rows n) h = rw h refl
at_is e lanes whole (packet rows) h = rw h refl
at_is e lanes whole active h = rw h refl
at_is e lanes whole (fill rows) h = rw h (omega (arith, length-map rows row))

pub tails : (p : Parser) (sets : List (List Sym)) → HasTaken p sets
    → IsTail (enhanced_of p) (lanes_of p) sets p.core.unended
tails p sets s frames tail r =
    let l : Lanes = lanes_of p in
    let c = cut_is (lanes_of p)
    (enhanced_of p) sets s.whole r.whole s.place r.next r.front s.reads r.cut in
    let parts : r.whole ++ begun r.next r.front ≡ s.whole ++ begun_of s.place =
    ap (λ w. w ++ begun r.next r.front) c.0 ∙ ap (λ x. s.whole ++ x) (sym c.1) in
    let joined : flat_map (sets_of (enhanced_of p) (lanes_count (lanes_of p))) s.whole ++ r.front
    ≡ flat_map (sets_of (enhanced_of p) (lanes_count (lanes_of p))) s.whole ++ map
    (token_set (lanes_count (lanes_of p))) (front_of s.place) =
    ap (λ w. flat_map (sets_of (enhanced_of p) (lanes_count (lanes_of p))) w ++ r.front) (sym c.0) ∙ sym r.cut.joined
    ∙ reads_joined (lanes_of p) (enhanced_of p) sets s.whole s.place s.reads in
    let front : length r.front ≡ length (front_of s.place) =
    ap length (cancel (flat_map (sets_of (enhanced_of p) (lanes_count (lanes_of p))) s.whole) r.front
    (map (token_set (lanes_count (lanes_of p))) (front_of s.place)) joined)
    ∙ length-map (front_of s.place) (token_set (lanes_count (lanes_of p))) in
    let o : unfinished (enhanced_of p) (lanes_count (lanes_of p)) (r.whole ++ begun r.next r.front) (length r.front)
    ≡ tail_in (enhanced_of p) (lanes_count (lanes_of p)) 0 false (r.whole ++ begun r.next r.front)
    (length r.front) =
    tail_of (enhanced_of p) (lanes_count (lanes_of p)) 0 opening (r.whole ++ begun r.next r.front) (length r.front)
    (cut_order (enhanced_of p) (lanes_count (lanes_of p)) sets r.whole r.next r.front r.cut) in
    let b : tail_in (enhanced_of p) (lanes_count (lanes_of p)) 0 false (r.whole ++ begun r.next r.front)
    (length r.front) ≡ back_tail (enhanced_of p) (lanes_count (lanes_of p))
    (reverse (r.whole ++ begun r.next r.front) ++ []) (length r.front) =
    back_is (enhanced_of p) (lanes_count (lanes_of p)) [] (r.whole ++ begun r.next r.front) (length r.front) in
    let t : tail ≡ tail_at (enhanced_of p) (lanes_count (lanes_of p)) (reverse s.whole) s.place =
    r.tail_is ∙ o ∙ b ∙ ap (λ z. back_tail (enhanced_of p) (lanes_count (lanes_of p)) z (length r.front))
    (append-nil (reverse (r.whole ++ begun r.next r.front)) ∙ ap reverse parts
    ∙ back_told s.whole s.place)
    ∙ ap (back_tail (enhanced_of p) (lanes_count (lanes_of p)) (told (reverse s.whole) s.place)) front
    ∙ at_is (enhanced_of p) (lanes_count (lanes_of p)) (reverse s.whole) s.place s.knows.live_at in
    s.unended ∙ ap number_of (sym t)
