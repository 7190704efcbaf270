-- A list has no fault exactly where it is accepted.
use Rattle.std.proofs.Common.{ℕ, suc, ◌+◌, ◌≤◌, ◌<◌, ◌≡◌, ◌∙◌, List, [], ◌∷◌, ◌++◌, Option, Some, None, Ok}
use Rattle.std.proofs.Common.{Err, Bool, true, false, length, reverse, refl, sym, ap, subst, arith}
use Rattle.std.specs.Prelude.{⊤, nat_lt, Result, if◌then◌else◌}
use Rattle.std.specs.Result.{result_ok}
use Rattle.std.specs.List.{AllByRecursion}
use Rattle.std.proofs.lemmas.List.{append-nil}
use Rattle.dpx_base.specs.declared.sym.Sym.{Sym}
use Rattle.dpx_base.specs.Lanes.{lanes_count}
use Rattle.dpx_msa.specs.declared.attributes.Attributes.{Attributes}
use Rattle.dpx_msa.specs.declared.msa_bad.MsaBad.{MsaBad}
use Rattle.dpx_grammar.specs.Accepted.{copies, HasOneId, valid_rows, is_ended, lines_of, FrameParts}
use Rattle.dpx_grammar.specs.Accepted.{frame_parts, HasLength, line_length}
use Rattle.dpx_grammar.specs.Accepted.{unfinished}
use Rattle.dpx_grammar.specs.Accepted.{IsAccepted}
use Rattle.dpx_grammar.specs.Gathered.{gathered}
use Rattle.dpx_msa.specs.Reading.{read_attributes}
use Rattle.dpx_grammar.specs.Parts.{Part, group, block, filler, attributes, secondary, begins, valid, stuffing, begun}
use Rattle.dpx_grammar.proofs.Runs.{Mode, opening, headed, blanking, showing}
use Rattle.dpx_parse.specs.Faults.{AllStand, msa_fault}
use Rattle.dpx_parse.specs.FirstFault.{HasNoFault}
use Rattle.dpx_parse.specs.Laws.{AcceptsExactly}
use Rattle.dpx_parse.specs.declared.bad.ParseWhy.{ParseWhy}
use Rattle.dpx_parse.specs.declared.bad.ParseWhy.TheVariants.{LineLong, FrameLong, LineShort}
use Rattle.dpx_parse.specs.declared.bad.ParseWhy.TheVariants.{FrameShort}
use Rattle.dpx_parse.proofs.Order.{AllIn, stand_all, all_stand, Fits, Order, cut_order, no_fault_of, all_of}
use Rattle.dpx_parse.proofs.Order.{progressive, one_id, Ends, AreGood, good_to, good_from}

-- ---- what the parts from here on are

abbrev is_showing : Mode → Bool
is_showing showing = true
is_showing _ = false

abbrev LiveOk : ℕ → Bool → ℕ → List Part → Type 0
LiveOk s false v ps = ⊤
LiveOk s true v ps = (v + length (valid_rows ps) ≤ s) × (is_ended ps ≡ true → v + length (valid_rows ps) ≡ s)

abbrev Rest : ℕ → Option Attributes → Bool → ℕ → ℕ → List Part → Type 0
Rest lanes None l n v ps = AreGood lanes (frame_parts ps)
Rest lanes (Some a) l n v ps =
    LiveOk (line_length lanes a) l v ps × AllByRecursion (HasLength (line_length lanes a)) (lines_of ps)
    × Ends (frame_parts ps) (n + (if l then 1 else 0) + length (lines_of ps)) a.height × AreGood lanes (frame_parts ps)

abbrev Inv : ℕ → Option Attributes → Bool → ℕ → ℕ → Type 0
Inv lanes None l n v = ⊤
Inv lanes (Some a) l n v = (n + (if l then 1 else 0) ≤ a.height) × (l ≡ true → v ≤ line_length lanes a)

abbrev IsDark : Part → Type 0
IsDark (block rows) = ⊤
IsDark (filler row) = ⊤
IsDark (attributes rows) = ⊤
IsDark (secondary rows) = ⊤
IsDark begins = ⊤
IsDark _ = ⊥

abbrev IsLit : Part → Type 0
IsLit (valid row) = ⊤
IsLit (stuffing rows) = ⊤
IsLit _ = ⊥

dark : (m : Mode) (x : Part) → IsDark x → Fits m x → is_showing m ≡ false
dark headed x d f = refl
dark blanking x d f = refl
dark opening x d f = refl
dark showing (block rows) d f = absurd f
dark showing (filler rows) d f = absurd f
dark showing (attributes rows) d f = absurd f
dark showing (secondary rows) d f = absurd f
dark showing begins d f = absurd f
dark showing x d f = absurd d

lit : (m : Mode) (x : Part) → IsLit x → Fits m x → is_showing m ≡ true
lit showing x d f = refl
lit headed (valid row) d f = absurd f
lit headed (stuffing row) d f = absurd f
lit headed x d f = absurd d
lit blanking (valid row) d f = absurd f
lit blanking (stuffing row) d f = absurd f
lit blanking x d f = absurd d
lit opening (valid row) d f = absurd f
lit opening (stuffing row) d f = absurd f
lit opening x d f = absurd d

not_dark : (m : Mode) (x : Part) → IsDark x → Fits m x → true ≡ is_showing m → ⊥
not_dark m x d f e = no (e ∙ dark m x d f)
  where
    no : true ≡ false → ⊥
    no e = cc

not_lit : (m : Mode) (x : Part) → IsLit x → Fits m x → false ≡ is_showing m → ⊥
not_lit m x d f e = no (e ∙ lit m x d f)
  where
    no : false ≡ true → ⊥
    no e = cc

some_fault : (b : Bool) (w : ParseWhy) → (if b then Some w else None) ≡ None → b ≡ false
some_fault true w h = absurd (cc)
some_fault false w h = refl

not_below : (m n : ℕ) → nat_lt m n ≡ false → n ≤ m
not_below m n h = grind arith

is_below : (m n : ℕ) → nat_lt m n ≡ true → m < n
is_below m n h = grind arith

above : (m n : ℕ) → n ≤ m → nat_lt m n ≡ false
above m n h = grind arith

below_is : (m n : ℕ) → m < n → nat_lt m n ≡ true
below_is m n h = grind arith

moved_ends : (ts : List FrameParts) (n m h : ℕ) → n ≡ m → Ends ts n h → Ends ts m h
moved_ends ts n m h e x = subst (λ k. Ends ts k h) e x

room_of : (ts : List FrameParts) (n h : ℕ) → Ends ts n h → n ≤ h
room_of [] n h e = e
room_of (t ∷ ts) n h e = omega (arith, e)

ok_of : (r : Result Attributes MsaBad) → msa_fault r ≡ None → (a : Attributes) × (r ≡ Ok a)
ok_of (Ok a) h = (a, refl)
ok_of (Err bad) h = absurd (cc)

to : (lanes : ℕ) (o : Option Attributes) (l : Bool) (n v : ℕ) (m : Mode) (ps : List Part) → Order m ps
    → l ≡ is_showing m → Inv lanes o l n v
    → AllIn lanes o l n v ps → AllByRecursion HasOneId ps × Rest lanes o l n v ps
to lanes None l n v m [] w e i h = (tt, tt)
to lanes (Some a) false n v m [] w e i h = (tt, (tt, tt, omega (arith, i.0), tt))
to lanes (Some a) true n v m [] w e i h =
    let b = i.1 refl in
    (tt, ((omega (arith, b), λ z. absurd (differ z)), tt, omega (arith, i.0), tt))
  where
    differ : false ≡ true → ⊥
    differ e = cc
to lanes None l n v m (group r ∷ ps) w e i h =
    let x = to lanes None false (if l then n + 1 else n) v headed ps w.1 refl tt h.1 in ((tt, x.0), x.1)
to lanes (Some a) false n v m (group r ∷ ps) w e i h =
    let x = to lanes (Some a) false n v headed ps w.1 refl (i.0, λ z. i.1 z) h.1 in ((tt, x.0), x.1)
to lanes (Some a) true n v m (group r ∷ ps) w e i h =
    let b = not_below v (line_length lanes a)
    (some_fault (nat_lt v (line_length lanes a)) (LineShort v (line_length lanes a)) h.0) in
    let c = i.1 refl in
    let x = to lanes (Some a) false (n + 1) v headed ps w.1 refl (omega (arith, i.0), λ z. c) h.1 in
    let q : n + 1 + 0 + length (lines_of ps) ≡ n + 1 + length (lines_of ps) = omega arith in (
      (tt, x.0),
      (
        (omega (arith, c), λ z. omega (arith, b, c)),
        x.1.1,
        moved_ends (frame_parts ps) _ _ a.height q x.1.2,
        x.1.3,
      ),
    )
to lanes o true n v m (block rows ∷ ps) w e i h = absurd (not_dark m (block rows) tt w.0 e)
to lanes None false n v m (block rows ∷ ps) w e i h =
    let x = to lanes None false n v blanking ps w.1 refl tt h.1 in ((progressive (copies rows) h.0, x.0), x.1)
to lanes (Some a) false n v m (block rows ∷ ps) w e i h =
    let x = to lanes (Some a) false n v blanking ps w.1 refl i h.1 in ((progressive (copies rows) h.0, x.0), x.1)
to lanes o true n v m (filler row ∷ ps) w e i h = absurd (not_dark m (filler row) tt w.0 e)
to lanes None false n v m (filler row ∷ ps) w e i h = let x = to lanes None false n v blanking ps w.1 refl tt h in
    ((tt, x.0), x.1)
to lanes (Some a) false n v m (filler row ∷ ps) w e i h = let x =
    to lanes (Some a) false n v blanking ps w.1 refl i h in ((tt, x.0), x.1)
to lanes o true n v m (secondary rows ∷ ps) w e i h = absurd (not_dark m (secondary rows) tt w.0 e)
to lanes None false n v m (secondary rows ∷ ps) w e i h = let x = to lanes None false n v blanking ps w.1 refl tt h in
    ((tt, x.0), x.1)
to lanes (Some a) false n v m (secondary rows ∷ ps) w e i h = let x =
    to lanes (Some a) false n v blanking ps w.1 refl i h in ((tt, x.0), x.1)
to lanes o true n v m (attributes rows ∷ ps) w e i h = absurd (not_dark m (attributes rows) tt w.0 e)
to lanes None false n v m (attributes rows ∷ ps) w e i h =
    let k = ok_of (read_attributes (gathered lanes rows)) h.0 in
    let g : AllIn lanes (Some k.0) false 0 v ps = subst (λ r. AllIn lanes (result_ok r) false 0 v ps) k.1 h.1 in
    let x = to lanes (Some k.0) false 0 v blanking ps w.1 refl (omega arith, λ z. absurd (differ z)) g in
    let q : 0 + 0 + length (lines_of ps) ≡ length (lines_of ps) = omega arith in
    ((tt, x.0), (k.0, k.1, x.1.1, moved_ends (frame_parts ps) _ _ k.0.height q x.1.2, x.1.3))
  where
    differ : false ≡ true → ⊥
    differ e = cc
to lanes (Some b) false n v m (attributes rows ∷ ps) w e i h =
    let f = no_fault_of (nat_lt n b.height) (FrameShort n b.height) (msa_fault (read_attributes (gathered lanes rows))) h.0 in
    let k = ok_of (read_attributes (gathered lanes rows)) f.1 in
    let g : AllIn lanes (Some k.0) false 0 v ps = subst (λ r. AllIn lanes (result_ok r) false 0 v ps) k.1 h.1 in
    let x = to lanes (Some k.0) false 0 v blanking ps w.1 refl (omega arith, λ z. absurd (differ z)) g in
    let q : 0 + 0 + length (lines_of ps) ≡ length (lines_of ps) = omega arith in
    let p = not_below n b.height f.0 in (
      (tt, x.0),
      (
        tt,
        tt,
        omega (arith, p, i.0),
        (k.0, k.1, x.1.1, moved_ends (frame_parts ps) _ _ k.0.height q x.1.2, x.1.3),
      ),
    )
  where
    differ : false ≡ true → ⊥
    differ e = cc
to lanes o true n v m (begins ∷ ps) w e i h = absurd (not_dark m begins tt w.0 e)
to lanes None false n v m (begins ∷ ps) w e i h = let x = to lanes None true n 0 showing ps w.1 refl tt h.1 in
    ((tt, x.0), x.1)
to lanes (Some a) false n v m (begins ∷ ps) w e i h =
    let b = is_below n a.height (all_of (nat_lt n a.height) FrameLong h.0) in
    let x = to lanes (Some a) true n 0 showing ps w.1 refl (omega (arith, b), λ z. omega arith) h.1 in
    let q : n + 1 + length (lines_of ps) ≡ n + 0 + suc (length (lines_of ps)) = omega arith in
    let z : 0 + length (valid_rows ps) ≡ length (valid_rows ps) = omega arith in (
      (tt, x.0),
      (
        tt,
        (record { most = omega (arith, x.1.0.0); whole = λ y. sym z ∙ x.1.0.1 y }, x.1.1),
        moved_ends (frame_parts ps) _ _ a.height q x.1.2,
        x.1.3,
      ),
    )
to lanes o false n v m (valid row ∷ ps) w e i h = absurd (not_lit m (valid row) tt w.0 e)
to lanes None true n v m (valid row ∷ ps) w e i h = let x = to lanes None true n (v + 1) showing ps w.1 refl tt h.1 in
    ((tt, x.0), x.1)
to lanes (Some a) true n v m (valid row ∷ ps) w e i h =
    let b = is_below v (line_length lanes a) (all_of (nat_lt v (line_length lanes a)) LineLong h.0) in
    let x = to lanes (Some a) true n (v + 1) showing ps w.1 refl (i.0, λ z. omega (arith, b)) h.1 in
    let z : v + suc (length (valid_rows ps)) ≡ v + 1 + length (valid_rows ps) = omega arith in
    ((tt, x.0), ((omega (arith, x.1.0.0), λ y. z ∙ x.1.0.1 y), x.1.1, x.1.2, x.1.3))
to lanes o false n v m (stuffing rows ∷ ps) w e i h = absurd (not_lit m (stuffing rows) tt w.0 e)
to lanes None true n v m (stuffing rows ∷ ps) w e i h = let x = to lanes None true n v showing ps w.1 refl tt h in
    ((tt, x.0), x.1)
to lanes (Some a) true n v m (stuffing rows ∷ ps) w e i h = let x =
    to lanes (Some a) true n v showing ps w.1 refl i h in ((tt, x.0), x.1)

from : (lanes : ℕ) (o : Option Attributes) (l : Bool) (n v : ℕ) (m : Mode) (ps : List Part) → Order m ps
    → l ≡ is_showing m
    → AllByRecursion HasOneId ps → Rest lanes o l n v ps → AllIn lanes o l n v ps
from lanes o l n v m [] w e d r = tt
from lanes None l n v m (group x ∷ ps) w e d r =
    (refl, from lanes None false (if l then n + 1 else n) v headed ps w.1 refl d.1 r)
from lanes (Some a) false n v m (group x ∷ ps) w e d r = (refl, from lanes (Some a) false n v headed ps w.1 refl d.1 r)
from lanes (Some a) true n v m (group x ∷ ps) w e d r =
    let s : v + 0 ≡ line_length lanes a = r.0.1 refl in
    let b : nat_lt v (line_length lanes a) ≡ false = above v (line_length lanes a) (omega (arith, s)) in
    let q : n + 1 + length (lines_of ps) ≡ n + 1 + 0 + length (lines_of ps) = omega arith in (
      rw b refl,
      from lanes (Some a) false (n + 1) v headed ps w.1 refl d.1
          (tt, r.1, moved_ends (frame_parts ps) _ _ a.height q r.2, r.3),
    )
from lanes o true n v m (block rows ∷ ps) w e d r = absurd (not_dark m (block rows) tt w.0 e)
from lanes None false n v m (block rows ∷ ps) w e d r =
    (one_id (copies rows) d.0, from lanes None false n v blanking ps w.1 refl d.1 r)
from lanes (Some a) false n v m (block rows ∷ ps) w e d r =
    (one_id (copies rows) d.0, from lanes (Some a) false n v blanking ps w.1 refl d.1 r)
from lanes o true n v m (filler row ∷ ps) w e d r = absurd (not_dark m (filler row) tt w.0 e)
from lanes None false n v m (filler row ∷ ps) w e d r = from lanes None false n v blanking ps w.1 refl d.1 r
from lanes (Some a) false n v m (filler row ∷ ps) w e d r = from lanes (Some a) false n v blanking ps w.1 refl d.1 r
from lanes o true n v m (secondary rows ∷ ps) w e d r = absurd (not_dark m (secondary rows) tt w.0 e)
from lanes None false n v m (secondary rows ∷ ps) w e d r = from lanes None false n v blanking ps w.1 refl d.1 r
from lanes (Some a) false n v m (secondary rows ∷ ps) w e d r = from lanes (Some a) false n v blanking ps w.1 refl d.1 r
from lanes o true n v m (attributes rows ∷ ps) w e d r = absurd (not_dark m (attributes rows) tt w.0 e)
from lanes None false n v m (attributes rows ∷ ps) w e d r =
    let q : length (lines_of ps) ≡ 0 + 0 + length (lines_of ps) = omega arith in (
      ap msa_fault r.1,
      subst (λ x. AllIn lanes (result_ok x) false 0 v ps) (sym r.1)
          (from lanes (Some r.0) false 0 v blanking ps w.1 refl d.1
          (tt, r.2, moved_ends (frame_parts ps) _ _ r.0.height q r.3, r.4)),
    )
from lanes (Some b) false n v m (attributes rows ∷ ps) w e d r =
    let g = r.3 in
    let q : length (lines_of ps) ≡ 0 + 0 + length (lines_of ps) = omega arith in
    let f : nat_lt n b.height ≡ false = above n b.height (omega (arith, r.2)) in (
      rw f (ap msa_fault g.1),
      subst (λ x. AllIn lanes (result_ok x) false 0 v ps) (sym g.1)
          (from lanes (Some g.0) false 0 v blanking ps w.1 refl d.1
          (tt, g.2, moved_ends (frame_parts ps) _ _ g.0.height q g.3, g.4)),
    )
from lanes o true n v m (begins ∷ ps) w e d r = absurd (not_dark m begins tt w.0 e)
from lanes None false n v m (begins ∷ ps) w e d r = (refl, from lanes None true n 0 showing ps w.1 refl d.1 r)
from lanes (Some a) false n v m (begins ∷ ps) w e d r =
    let b = room_of (frame_parts ps) _ a.height r.2 in
    let f : nat_lt n a.height ≡ true = below_is n a.height (omega (arith, b)) in
    let q : n + 0 + suc (length (lines_of ps)) ≡ n + 1 + length (lines_of ps) = omega arith in
    let z : 0 + length (valid_rows ps) ≡ length (valid_rows ps) = omega arith in
    let k = r.1.0 in (
      rw f refl,
      from lanes (Some a) true n 0 showing ps w.1 refl d.1
          ((omega (arith, k.most), λ y. z ∙ k.whole y), r.1.1, moved_ends (frame_parts ps) _ _ a.height q r.2, r.3),
    )
from lanes o false n v m (valid row ∷ ps) w e d r = absurd (not_lit m (valid row) tt w.0 e)
from lanes None true n v m (valid row ∷ ps) w e d r = (refl, from lanes None true n (v + 1) showing ps w.1 refl d.1 r)
from lanes (Some a) true n v m (valid row ∷ ps) w e d r =
    let f : nat_lt v (line_length lanes a) ≡ true = below_is v (line_length lanes a) (omega (arith, r.0.0)) in
    let z : v + 1 + length (valid_rows ps) ≡ v + suc (length (valid_rows ps)) = omega arith in (
      rw f refl,
      from lanes (Some a) true n (v + 1) showing ps w.1 refl d.1
          ((omega (arith, r.0.0), λ y. z ∙ r.0.1 y), r.1, r.2, r.3),
    )
from lanes o false n v m (stuffing rows ∷ ps) w e d r = absurd (not_lit m (stuffing rows) tt w.0 e)
from lanes None true n v m (stuffing rows ∷ ps) w e d r = from lanes None true n v showing ps w.1 refl d.1 r
from lanes (Some a) true n v m (stuffing rows ∷ ps) w e d r = from lanes (Some a) true n v showing ps w.1 refl d.1 r

-- ---- the law

accepted : (e : Bool) (lanes : ℕ) (sets : List (List Sym)) → HasNoFault e lanes sets → IsAccepted e lanes sets
accepted e lanes sets h =
    let t = h.tells in
    let s : AllStand lanes (reverse (t.whole ++ begun t.next t.front) ++ []) =
    subst (AllStand lanes) (ap reverse t.parts_are
    ∙ sym (append-nil (reverse (t.whole ++ begun t.next t.front)))) h.stand in
    let i = stand_all lanes (t.whole ++ begun t.next t.front) [] s in
    let x = to lanes None false 0 0 opening (t.whole ++ begun t.next t.front)
    (cut_order e lanes sets t.whole t.next t.front t.cut) refl tt i.0 in
    let f = good_to lanes (frame_parts (t.whole ++ begun t.next t.front)) x.1 in (
      f.0,
      unfinished e lanes (t.whole ++ begun t.next t.front) (length t.front),
      record {
        whole = t.whole;
        next = t.next;
        front = t.front;
        cut = t.cut;
        one_id = x.0;
        are_frames = f.1;
        tail_is =
            refl;
      },
    )

faultless : (e : Bool) (lanes : ℕ) (sets : List (List Sym)) → IsAccepted e lanes sets → HasNoFault e lanes sets
faultless e lanes sets (frames, tail, r) =
    let g = good_from lanes (frame_parts (r.whole ++ begun r.next r.front)) frames r.are_frames in
    let i = from lanes None false 0 0 opening (r.whole ++ begun r.next r.front)
    (cut_order e lanes sets r.whole r.next r.front r.cut) refl r.one_id g in
    record {
      parts = r.whole ++ begun r.next r.front;
      tells = record { whole = r.whole; next = r.next; front = r.front; cut = r.cut; parts_are = refl };
      stand = subst (AllStand lanes) (append-nil (reverse (r.whole ++ begun r.next r.front)))
          (all_stand lanes (r.whole ++ begun r.next r.front) [] i tt);
    }

pub accepts_exactly : AcceptsExactly
accepts_exactly e lanes sets = (accepted e (lanes_count lanes) sets, faultless e (lanes_count lanes) sets)
