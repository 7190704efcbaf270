-- Every front of an accepted list is accepted.
use Rattle.std.proofs.Common.{ℕ, zero, suc, ◌/◌, ◌≡◌, ◌∙◌, true, false, List, [], ◌∷◌, ◌++◌, length, take, drop, Option}
use Rattle.std.proofs.Common.{Some, None, refl, sym, ap, subst, Bool}
use Rattle.std.specs.Prelude.{⊤}
use Rattle.std.proofs.lemmas.List.{append-nil, take-map, take_at, take-append-drop}
use Rattle.dpx_base.specs.Lanes.{lanes_count}
use Rattle.dpx_grammar.specs.Accepted.{unfinished}
use Rattle.dpx_grammar.specs.Laws.{FrontsAreAccepted}
use Rattle.dpx_grammar.specs.Machine.{begun_of, a_bs, a_sr, a_be, an_ss, an_se, an_fs, an_fe, a_bf, Token, row, code}
use Rattle.dpx_grammar.specs.Machine.{IsToken, token_set, Place, start, head, ids, blank, opened, numbers, packet}
use Rattle.dpx_grammar.specs.Machine.{active, fill, step, run, go_on, grown, Reads}
use Rattle.dpx_grammar.specs.Parts.{Part, group, block, filler, attributes, secondary, begins, valid, stuffing, begun}
use Rattle.dpx_grammar.proofs.Exact.{ReadCut, reads_cut}
use Rattle.dpx_grammar.proofs.Fronts.{Holds, holds_front, holds_block}
use Rattle.dpx_grammar.proofs.Unique.{IsRun, cut_runs, blocks, all_take}

-- what holds behind a step held before it
abbrev Held : ℕ → List Part → Place → Option (Option Part × Place) → Type 0
Held lanes whole s None = ⊤
Held lanes whole s (Some (o, now)) = Holds lanes (grown whole o ++ begun_of now) → Holds lanes (whole ++ begun_of s)

-- one part more, and nothing begun behind it
part_held : (lanes : ℕ) (whole : List Part) (x : Part) → Holds lanes ((whole ++ x ∷ []) ++ [])
    → Holds lanes (whole ++ [])
part_held lanes whole x h =
    subst (λ w. Holds lanes w) (sym (append-nil whole))
    (holds_front lanes whole x (subst (λ w. Holds lanes w) (append-nil (whole ++ x ∷ [])) h))

begin_held : (lanes : ℕ) (whole : List Part) (x : Part) → Holds lanes (whole ++ x ∷ []) → Holds lanes (whole ++ [])
begin_held lanes whole x h = subst (λ w. Holds lanes w) (sym (append-nil whole)) (holds_front lanes whole x h)

same_held : (lanes : ℕ) (whole : List Part) (x : Part) → Holds lanes ((whole ++ x ∷ []) ++ [])
    → Holds lanes (whole ++ x ∷ [])
same_held lanes whole x h = subst (λ w. Holds lanes w) (append-nil (whole ++ x ∷ [])) h

step_held : (enhanced : Bool) (lanes b a : ℕ) (whole : List Part) (s : Place) (t : Token)
    → Held lanes whole s (step enhanced b a s t)
step_held true lanes b a whole start (code a_sr) = begin_held lanes whole (group true)
step_held false lanes b a whole start (code a_sr) = part_held lanes whole (group true)
step_held enhanced lanes b a whole (head reset (suc zero)) (code a_bf) = λ h. h
step_held enhanced lanes b a whole (head reset (suc (suc zero))) (code a_bf) = λ h. h
step_held enhanced lanes b a whole (head true (suc (suc (suc zero)))) (code a_sr) = same_held lanes whole (group true)
step_held enhanced lanes b a whole (head false (suc (suc (suc zero)))) (code a_bs) = same_held lanes whole (group false)
step_held enhanced lanes b a whole (ids [] (suc zero)) (row bytes) = part_held lanes whole (block (bytes ∷ []))
step_held enhanced lanes b a whole (ids (r ∷ rows) (suc zero)) (row bytes) =
    λ h. holds_block lanes whole (r ∷ rows) bytes (same_held lanes whole (block (r ∷ (rows ++ bytes ∷ []))) h)
step_held enhanced lanes b a whole (ids [] (suc (suc n))) (row bytes) = begin_held lanes whole (block (bytes ∷ []))
step_held enhanced lanes b a whole (ids (r ∷ rows) (suc (suc n))) (row bytes) = holds_block lanes whole (r ∷ rows) bytes
step_held enhanced lanes b a whole blank (row bytes) = part_held lanes whole (filler bytes)
step_held true lanes b a whole blank (code a_sr) = begin_held lanes whole (group true)
step_held false lanes b a whole blank (code a_sr) = part_held lanes whole (group true)
step_held true lanes b a whole blank (code a_bs) = begin_held lanes whole (group false)
step_held false lanes b a whole blank (code a_bs) = part_held lanes whole (group false)
step_held enhanced lanes b a whole blank (code a_be) = part_held lanes whole begins
step_held enhanced lanes b a whole blank (code an_ss) = λ h. h
step_held enhanced lanes b a whole opened (code an_ss) = λ h. h
step_held enhanced lanes b a whole opened (row bytes) = λ h. h
step_held enhanced lanes b a whole (numbers rows (suc n)) (row bytes) = λ h. h
step_held enhanced lanes b a whole (numbers rows zero) (code an_se) = part_held lanes whole (attributes rows)
step_held enhanced lanes b a whole (packet rows) (row bytes) = λ h. h
step_held enhanced lanes b a whole (packet rows) (code an_se) = part_held lanes whole (secondary rows)
step_held enhanced lanes b a whole active (row bytes) = part_held lanes whole (valid bytes)
step_held enhanced lanes b a whole active (code an_fe) = part_held lanes whole (stuffing None)
step_held enhanced lanes b a whole active (code an_fs) = λ h. h
step_held true lanes b a whole active (code a_sr) = begin_held lanes whole (group true)
step_held false lanes b a whole active (code a_sr) = part_held lanes whole (group true)
step_held true lanes b a whole active (code a_bs) = begin_held lanes whole (group false)
step_held false lanes b a whole active (code a_bs) = part_held lanes whole (group false)
step_held enhanced lanes b a whole (fill rows) (row bytes) = λ h. h
step_held enhanced lanes b a whole (fill rows) (code an_fe) = part_held lanes whole (stuffing (Some rows))
step_held enhanced lanes b a whole s t = tt

pub no_some : {X : Type 0} (x : X) → None ≡ Some x → ⊥
no_some x e = cc

pub some_is : (x y : List Part × Place) → Some x ≡ Some y → x ≡ y
some_is x y e = cc

more_held : (enhanced : Bool) (lanes b a : ℕ) (whole : List Part) (s : Place) (o : Option (Option Part × Place))
    (ts : List Token) (w : List Part) (now : Place)
    → Held lanes whole s o
    → ((whole : List Part) (s : Place) → run enhanced b a whole s ts ≡ Some (w, now) → Holds lanes (w ++ begun_of now)
    → Holds lanes (whole ++ begun_of s))
    → go_on whole o (λ v p. run enhanced b a v p ts) ≡ Some (w, now) → Holds lanes (w ++ begun_of now)
    → Holds lanes (whole ++ begun_of s)
more_held enhanced lanes b a whole s None ts w now held more e h = absurd (no_some (w, now) e)
more_held enhanced lanes b a whole s (Some (o, next)) ts w now held more e h = held (more (grown whole o) next e h)

run_held : (enhanced : Bool) (lanes b a : ℕ) (ts : List Token) (w : List Part) (now : Place) (whole : List Part)
    (s : Place)
    → run enhanced b a whole s ts ≡ Some (w, now) → Holds lanes (w ++ begun_of now) → Holds lanes (whole ++ begun_of s)
run_held enhanced lanes b a [] w now whole s e h =
    let p = some_is (whole, s) (w, now) e in
    subst (λ (q : List Part × Place). Holds lanes (q.0 ++ begun_of q.1)) (sym p) h
run_held enhanced lanes b a (t ∷ ts) w now whole s e h =
    more_held enhanced lanes b a whole s (step enhanced b a s t) ts w now (step_held enhanced lanes b a whole s t)
    (λ v p. run_held enhanced lanes b a ts w now v p) e h

-- ---- a run of a list is a run of its front, and then of the rest

pub record IsSplit (enhanced : Bool) (b a : ℕ) (whole : List Part) (s : Place) (xs ys : List Token) (w : List Part)
    (now : Place) : Type 0 where
  pub middle : List Part
  pub place : Place
  pub first : run enhanced b a whole s xs ≡ Some (middle, place)
  pub rest : run enhanced b a middle place ys ≡ Some (w, now)

split_more : (enhanced : Bool) (b a : ℕ) (whole : List Part) (s : Place) (t : Token) (o : Option (Option Part × Place))
    (xs ys : List Token) (w : List Part) (now : Place)
    → step enhanced b a s t ≡ o
    → ((whole : List Part) (s : Place) → run enhanced b a whole s (xs ++ ys) ≡ Some (w, now)
    → IsSplit enhanced b a whole s xs ys w now)
    → go_on whole o (λ v p. run enhanced b a v p (xs ++ ys)) ≡ Some (w, now)
    → IsSplit enhanced b a whole s (t ∷ xs) ys w now
split_more enhanced b a whole s t None xs ys w now is more e = absurd (no_some (w, now) e)
split_more enhanced b a whole s t (Some (o, next)) xs ys w now is more e =
    let r : IsSplit enhanced b a (grown whole o) next xs ys w now = more (grown whole o) next e in
    record {
      middle = r.middle;
      place = r.place;
      first = ap (λ z. go_on whole z (λ v p. run enhanced b a v p xs)) is ∙ r.first;
      rest = r.rest;
    }

pub run_split : (enhanced : Bool) (b a : ℕ) (xs ys : List Token) (w : List Part) (now : Place) (whole : List Part)
    (s : Place)
    → run enhanced b a whole s (xs ++ ys) ≡ Some (w, now) → IsSplit enhanced b a whole s xs ys w now
run_split enhanced b a [] ys w now whole s e = record { middle = whole; place = s; first = refl; rest = e }
run_split enhanced b a (t ∷ xs) ys w now whole s e =
    split_more enhanced b a whole s t (step enhanced b a s t) xs ys w now refl
    (λ v p. run_split enhanced b a xs ys w now v p) e

pub fronts_are_accepted : FrontsAreAccepted
fronts_are_accepted enhanced lanes sets more (frames, tail, r) =
    let n : ℕ = lanes_count lanes in
    let k = blocks lanes in
    let all : IsRun enhanced (lanes_count lanes) k.0 (sets ++ more) r.whole r.next r.front =
    cut_runs enhanced (lanes_count lanes) k.0 (sets ++ more) r.whole r.next r.front k.1 r.cut in
    let xs : List Token = take (length sets) all.taken in
    let ys : List Token = drop (length sets) all.taken in
    let split : IsSplit enhanced (suc k.0) (36 / lanes_count lanes) [] start xs ys r.whole all.place =
    run_split enhanced (suc k.0) (36 / lanes_count lanes) xs ys r.whole all.place [] start
    (ap (run enhanced (suc k.0) (36 / lanes_count lanes) [] start) (take-append-drop (length sets) all.taken)
    ∙ all.reached) in
    let reads : Reads enhanced (lanes_count lanes) sets split.middle split.place = record {
      tokens = xs;
      sets_are = sym (take-map (token_set (lanes_count lanes)) (length sets) all.taken)
          ∙ ap (take (length sets)) all.taken_sets ∙ take_at sets more (length sets) refl;
      uniform = all_take (IsToken (lanes_count lanes)) (length sets) all.taken all.good;
      reached = ap (λ b. run enhanced b (36 / lanes_count lanes) [] start xs) k.1 ∙ split.first;
    } in
    let cut : ReadCut enhanced (lanes_count lanes) sets split.middle split.place =
    reads_cut enhanced lanes sets split.middle split.place reads in
    let told : Holds (lanes_count lanes) (r.whole ++ begun_of all.place) =
    subst (λ ps. Holds (lanes_count lanes) (r.whole ++ ps)) (sym all.tells)
    (record { ids = r.one_id; frames = frames; are = r.are_frames }) in
    let held : Holds (lanes_count lanes) (split.middle ++ begun_of split.place) =
    run_held enhanced (lanes_count lanes) (suc k.0)
    (36 / lanes_count lanes) ys r.whole all.place split.middle split.place split.rest told in
    let here : Holds (lanes_count lanes) (split.middle ++ begun cut.next cut.front) =
    subst (λ ps. Holds (lanes_count lanes) (split.middle ++ ps)) (sym cut.tells) held in (
      here.frames,
      unfinished enhanced (lanes_count lanes) (split.middle ++ begun cut.next cut.front) (length cut.front),
      record {
        whole = split.middle;
        next = cut.next;
        front = cut.front;
        cut = cut.cut;
        one_id = here.ids;
        are_frames = here.are;
        tail_is = refl;
      },
    )
