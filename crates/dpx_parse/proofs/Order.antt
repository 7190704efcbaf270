-- The parts from the first on, by what is known before each.
use Rattle.std.proofs.Common.{ℕ, ◌+◌, ◌/◌, ◌%◌, ◌≤◌, ◌≡◌, ◌∙◌, List, [], ◌∷◌, ◌++◌, Option, Some, None, Ok}
use Rattle.std.proofs.Common.{Bool, true, false, length, reverse, refl, sym, ap, subst, arith, append_assoc}
use Rattle.std.specs.Prelude.{⊤, ◌==◌, ◌&&◌, if◌then◌else◌}
use Rattle.std.specs.Result.{result_ok}
use Rattle.std.specs.List.{AllByRecursion}
use Rattle.std.proofs.lemmas.List.{reverse-append}
use Rattle.dpx_base.specs.declared.sym.Sym.{Sym}
use Rattle.dpx_msa.specs.declared.attributes.Attributes.{Attributes}
use Rattle.dpx_grammar.specs.Accepted.{copies, AreProgressive, FrameParts}
use Rattle.dpx_grammar.specs.Accepted.{Frame, HasLength, line_length, pixels_of, IsFrame, AreFrames}
use Rattle.dpx_grammar.specs.Gathered.{gathered}
use Rattle.dpx_msa.specs.Reading.{read_attributes}
use Rattle.dpx_grammar.specs.Parts.{Part, group, block, filler, attributes, secondary, begins, valid, stuffing, begun}
use Rattle.dpx_grammar.specs.Parts.{IsCut}
use Rattle.dpx_grammar.proofs.Cuts.{is_chain, chain_cut}
use Rattle.dpx_grammar.proofs.Runs.{Mode, opening, headed, blanking, showing, after, Follows, Chain, end}
use Rattle.dpx_parse.specs.Faults.{in_force, is_live, valids, lines, AllStand, id_fault, all_are, head_fault}
use Rattle.dpx_parse.specs.Faults.{begin_fault, end_fault, valid_fault}
use Rattle.dpx_parse.specs.declared.bad.ParseWhy.{ParseWhy}
use Rattle.dpx_parse.specs.declared.bad.ParseWhy.TheVariants.{Interlaced, VbIdDiffers}

-- ---- part by part, by what is known before

abbrev pub AllIn : ℕ → Option Attributes → Bool → ℕ → ℕ → List Part → Type 0
AllIn lanes o l n v [] = ⊤
AllIn lanes o l n v (group r ∷ ps) = (head_fault lanes o l v ≡ None) × AllIn lanes o false (if l then n + 1 else n) v ps
AllIn lanes o l n v (block rows ∷ ps) = (id_fault (copies rows) ≡ None) × AllIn lanes o l n v ps
AllIn lanes o l n v (filler row ∷ ps) = AllIn lanes o l n v ps
AllIn lanes o l n v (attributes rows ∷ ps) =
    (end_fault o n (read_attributes (gathered lanes rows)) ≡ None)
    × AllIn lanes (result_ok (read_attributes (gathered lanes rows))) l 0 v ps
AllIn lanes o l n v (secondary rows ∷ ps) = AllIn lanes o l n v ps
AllIn lanes o l n v (begins ∷ ps) = (begin_fault o n ≡ None) × AllIn lanes o true n 0 ps
AllIn lanes o l n v (valid row ∷ ps) = (valid_fault lanes o v ≡ None) × AllIn lanes o l n (v + 1) ps
AllIn lanes o l n v (stuffing rows ∷ ps) = AllIn lanes o l n v ps

abbrev InPlace : ℕ → List Part → List Part → Type 0
InPlace lanes before ps = AllIn lanes (in_force lanes before) (is_live before) (lines before) (valids before) ps

rev_cons : (x : Part) (xs ys : List Part) → reverse (x ∷ xs) ++ ys ≡ reverse xs ++ (x ∷ ys)
rev_cons x xs ys = ap (λ z. z ++ ys) (reverse-append (x ∷ []) xs) ∙ append_assoc (reverse xs) (x ∷ []) ys

pub stand_all : (lanes : ℕ) (ps before : List Part) → AllStand lanes (reverse ps ++ before)
    → InPlace lanes before ps × AllStand lanes before
stand_all lanes [] before h = (tt, h)
stand_all lanes (group r ∷ ps) before h =
    let x = stand_all lanes ps (group r ∷ before) (subst (AllStand lanes) (rev_cons (group r) ps before) h) in
    ((x.1.0, x.0), x.1.1)
stand_all lanes (block r ∷ ps) before h =
    let x = stand_all lanes ps (block r ∷ before) (subst (AllStand lanes) (rev_cons (block r) ps before) h) in
    ((x.1.0, x.0), x.1.1)
stand_all lanes (filler r ∷ ps) before h =
    let x = stand_all lanes ps (filler r ∷ before) (subst (AllStand lanes) (rev_cons (filler r) ps before) h) in
    (x.0, x.1.1)
stand_all lanes (attributes r ∷ ps) before h =
    let x = stand_all lanes ps (attributes r ∷ before) (subst (AllStand lanes) (rev_cons (attributes r) ps before) h) in
    ((x.1.0, x.0), x.1.1)
stand_all lanes (secondary r ∷ ps) before h =
    let x = stand_all lanes ps (secondary r ∷ before) (subst (AllStand lanes) (rev_cons (secondary r) ps before) h) in
    (x.0, x.1.1)
stand_all lanes (begins ∷ ps) before h =
    let x = stand_all lanes ps (begins ∷ before) (subst (AllStand lanes) (rev_cons begins ps before) h) in
    ((x.1.0, x.0), x.1.1)
stand_all lanes (valid r ∷ ps) before h =
    let x = stand_all lanes ps (valid r ∷ before) (subst (AllStand lanes) (rev_cons (valid r) ps before) h) in
    ((x.1.0, x.0), x.1.1)
stand_all lanes (stuffing r ∷ ps) before h =
    let x = stand_all lanes ps (stuffing r ∷ before) (subst (AllStand lanes) (rev_cons (stuffing r) ps before) h) in
    (x.0, x.1.1)

pub all_stand : (lanes : ℕ) (ps before : List Part) → InPlace lanes before ps → AllStand lanes before
    → AllStand lanes (reverse ps ++ before)
all_stand lanes [] before h a = a
all_stand lanes (group r ∷ ps) before h a =
    subst (AllStand lanes) (sym (rev_cons (group r) ps before)) (all_stand lanes ps (group r ∷ before) h.1 (h.0, a))
all_stand lanes (block r ∷ ps) before h a =
    subst (AllStand lanes) (sym (rev_cons (block r) ps before)) (all_stand lanes ps (block r ∷ before) h.1 (h.0, a))
all_stand lanes (filler r ∷ ps) before h a =
    subst (AllStand lanes) (sym (rev_cons (filler r) ps before)) (all_stand lanes ps (filler r ∷ before) h (refl, a))
all_stand lanes (attributes r ∷ ps) before h a =
    subst (AllStand lanes) (sym (rev_cons (attributes r) ps before))
    (all_stand lanes ps (attributes r ∷ before) h.1 (h.0, a))
all_stand lanes (secondary r ∷ ps) before h a =
    subst (AllStand lanes) (sym (rev_cons (secondary r) ps before))
    (all_stand lanes ps (secondary r ∷ before) h (refl, a))
all_stand lanes (begins ∷ ps) before h a =
    subst (AllStand lanes) (sym (rev_cons begins ps before)) (all_stand lanes ps (begins ∷ before) h.1 (h.0, a))
all_stand lanes (valid r ∷ ps) before h a =
    subst (AllStand lanes) (sym (rev_cons (valid r) ps before)) (all_stand lanes ps (valid r ∷ before) h.1 (h.0, a))
all_stand lanes (stuffing r ∷ ps) before h a =
    subst (AllStand lanes) (sym (rev_cons (stuffing r) ps before))
    (all_stand lanes ps (stuffing r ∷ before) h (refl, a))

-- ---- the order of parts

abbrev pub Fits : Mode → Part → Type 0
Fits opening (group r) = ⊤
Fits headed (block rows) = ⊤
Fits blanking (group r) = ⊤
Fits blanking (filler row) = ⊤
Fits blanking (attributes rows) = ⊤
Fits blanking (secondary rows) = ⊤
Fits blanking begins = ⊤
Fits showing (group r) = ⊤
Fits showing (valid row) = ⊤
Fits showing (stuffing rows) = ⊤
Fits _ _ = ⊥

abbrev pub Order : Mode → List Part → Type 0
Order m [] = ⊤
Order m (x ∷ xs) = Fits m x × Order (after x) xs

fits_of : (lanes : ℕ) (m : Mode) (x : Part) → Follows lanes m x → Fits m x
fits_of lanes opening (group r) f = tt
fits_of lanes headed (block rows) f = tt
fits_of lanes blanking (group r) f = tt
fits_of lanes blanking (filler row) f = tt
fits_of lanes blanking (attributes rows) f = tt
fits_of lanes blanking (secondary rows) f = tt
fits_of lanes blanking begins f = tt
fits_of lanes showing (group r) f = tt
fits_of lanes showing (valid row) f = tt
fits_of lanes showing (stuffing rows) f = tt
fits_of lanes m x f = absurd f

order_of : (lanes : ℕ) (m : Mode) (xs : List Part) → Chain lanes m xs → Order m xs
order_of lanes m [] c = tt
order_of lanes m (x ∷ xs) c = (fits_of lanes m x c.0, order_of lanes (after x) xs c.1)

order_join : (m : Mode) (xs ys : List Part) → Order m xs → Order (end m xs) ys → Order m (xs ++ ys)
order_join m [] ys c d = d
order_join m (x ∷ xs) ys c d = (c.0, order_join (after x) xs ys c.1 d)

any_block : (m : Mode) (rows more : List (List ℕ)) → Fits m (block rows) → Fits m (block more)
any_block headed rows more f = tt
any_block opening rows more f = f
any_block blanking rows more f = f
any_block showing rows more f = f

begun_order : (m : Mode) (next : Part) (front : List (List Sym)) → Fits m next → Order m (begun next front)
begun_order m next [] f = tt
begun_order m (group r) (s ∷ front) f = (f, tt)
begun_order m (block rows) (s ∷ front) f = (any_block m rows _ f, tt)
begun_order m (filler row) (s ∷ front) f = tt
begun_order m (attributes rows) (s ∷ front) f = tt
begun_order m (secondary rows) (s ∷ front) f = tt
begun_order m begins (s ∷ front) f = tt
begun_order m (valid row) (s ∷ front) f = tt
begun_order m (stuffing rows) (s ∷ front) f = tt

pub cut_order : (e : Bool) (lanes : ℕ) (sets : List (List Sym)) (whole : List Part) (next : Part)
    (front : List (List Sym)) → IsCut e lanes sets whole next front
    → Order opening (whole ++ begun next front)
cut_order e lanes sets whole next front c =
    let k = chain_cut lanes opening whole (next ∷ c.more) (is_chain lanes (whole ++ next ∷ c.more) c.are_periods) in
    order_join opening whole (begun next front) (order_of lanes opening whole k.0)
    (begun_order (end opening whole) next front (fits_of lanes (end opening whole) next k.1.0))

-- ---- copies

pub no_fault_of : (b : Bool) (w : ParseWhy) (r : Option ParseWhy) → (if b then Some w else r) ≡ None
    → (b ≡ false) × (r ≡ None)
no_fault_of true w r h = absurd (cc)
no_fault_of false w r h = (refl, h)

pub all_of : (b : Bool) (w : ParseWhy) → (if b then None else Some w) ≡ None → b ≡ true
all_of true w h = refl
all_of false w h = absurd (cc)

are_all : (id : ℕ) (ids : List ℕ) → all_are id ids ≡ true → AllByRecursion (λ other. other ≡ id) ids
are_all id [] h = tt
are_all id (x ∷ ids) h = let b = both (x == id) (all_are id ids) h in
    (let e : x ≡ id = same x id b.0 in e, are_all id ids b.1)
  where
    both : (a b : Bool) → (a && b) ≡ true → (a ≡ true) × (b ≡ true)
    both true b e = (refl, e)
    both false b e = absurd (cc)

    same : (a b : ℕ) → a == b ≡ true → a ≡ b
    same a b h = grind arith

all_are_of : (id : ℕ) (ids : List ℕ) → AllByRecursion (λ other. other ≡ id) ids → all_are id ids ≡ true
all_are_of id [] h = refl
all_are_of id (x ∷ ids) h = let e : x == id ≡ true = same x id h.0 in let r = all_are_of id ids h.1 in rw (e, r) refl
  where
    same : (a b : ℕ) → a ≡ b → a == b ≡ true
    same a b h = grind arith

pub progressive : (ids : List ℕ) → id_fault ids ≡ None → AreProgressive ids
progressive [] h = tt
progressive (id ∷ ids) h =
    let a = no_fault_of (id / 4 % 2 == 1) Interlaced (if all_are id ids then None else Some VbIdDiffers) h in
    (zero_of id a.0, are_all id ids (all_of (all_are id ids) VbIdDiffers a.1))
  where
    zero_of : (id : ℕ) → id / 4 % 2 == 1 ≡ false → id / 4 % 2 ≡ 0
    zero_of id h = grind arith

pub one_id : (ids : List ℕ) → AreProgressive ids → id_fault ids ≡ None
one_id [] h = refl
one_id (id ∷ ids) h = let z : id / 4 % 2 == 1 ≡ false = zero_of id h.0 in let r = all_are_of id ids h.1 in
    rw (z, r) refl
  where
    zero_of : (id : ℕ) → id / 4 % 2 ≡ 0 → id / 4 % 2 == 1 ≡ false
    zero_of id h = grind arith

-- ---- frames

abbrev pub Ends : List FrameParts → ℕ → ℕ → Type 0
Ends [] n h = n ≤ h
Ends (t ∷ ts) n h = n ≡ h

abbrev pub AreGood : ℕ → List FrameParts → Type 0
AreGood lanes [] = ⊤
AreGood lanes (t ∷ ts) =
    (a : Attributes) × (read_attributes (gathered lanes t.rows) ≡ Ok a)
    × AllByRecursion (HasLength (line_length lanes a)) t.lines
    × Ends ts (length t.lines) a.height × AreGood lanes ts

frame_from : (lanes : ℕ) (t : FrameParts) (a : Attributes) → read_attributes (gathered lanes t.rows) ≡ Ok a
    → AllByRecursion (HasLength (line_length lanes a)) t.lines
    → IsFrame lanes t (record { attributes = a; lines = pixels_of lanes a t.lines })
frame_from lanes t a r h = record { read = r; lengths = h; lines = refl }

pub good_to : (lanes : ℕ) (ts : List FrameParts) → AreGood lanes ts → (frames : List Frame) × AreFrames lanes ts frames
good_to lanes [] g = ([], tt)
good_to lanes (t ∷ []) g = (
  record { attributes = g.0; lines = pixels_of lanes g.0 t.lines } ∷ [],
  (frame_from lanes t g.0 g.1 g.2, g.3),
)
good_to lanes (t ∷ u ∷ ts) g =
    let r = good_to lanes (u ∷ ts) g.4 in
    (record { attributes = g.0; lines = pixels_of lanes g.0 t.lines } ∷ r.0, (frame_from lanes t g.0 g.1 g.2, g.3, r.1))

pub good_from : (lanes : ℕ) (ts : List FrameParts) (frames : List Frame) → AreFrames lanes ts frames → AreGood lanes ts
good_from lanes [] [] h = tt
good_from lanes [] (f ∷ fs) h = absurd h
good_from lanes (t ∷ []) [] h = absurd h
good_from lanes (t ∷ []) (f ∷ []) h = (f.attributes, h.0.read, h.0.lengths, h.1, tt)
good_from lanes (t ∷ []) (f ∷ g ∷ fs) h = absurd h
good_from lanes (t ∷ u ∷ ts) [] h = absurd h
good_from lanes (t ∷ u ∷ ts) (f ∷ fs) h = (f.attributes, h.0.read, h.0.lengths, h.1, good_from lanes (u ∷ ts) fs h.2)
