-- What is received of sets stays, as more sets come.
use Rattle.std.proofs.Common.{◌≡◌, ℕ, zero, suc, ◌/◌, Bool, true, false, List, [], ◌∷◌, ◌++◌, length, take, drop, map}
use Rattle.std.proofs.Common.{Option, Some, None, refl, sym, ap, subst, ◌∙◌, append-nil}
use Rattle.std.specs.Prelude.{⊤}
use Rattle.std.specs.List.{AllByRecursion}
use Rattle.std.proofs.lemmas.List.{take-map, take_at, take-append-drop}
use Rattle.dpx_base.specs.Lanes.{lanes_count}
use Rattle.dpx_base.specs.declared.lanes.Lanes.{Lanes}
use Rattle.dpx_base.specs.declared.sym.Sym.{Sym}
use Rattle.dpx_grammar.specs.Accepted.{Frame, AreFrames, Receives, frame_parts, lines_of, valid_rows, is_ended}
use Rattle.dpx_grammar.specs.Machine.{begun_of, a_bs, a_sr, a_be, an_ss, an_se, an_fs, an_fe, a_bf, Token, row, code}
use Rattle.dpx_grammar.specs.Machine.{IsToken, token_set, Place, start, head, ids, blank, opened, numbers, packet}
use Rattle.dpx_grammar.specs.Machine.{active}
use Rattle.dpx_grammar.specs.Machine.{fill, step, run, go_on, grown}
use Rattle.dpx_grammar.specs.Parts.{Part, group, block, filler, attributes, secondary, begins, valid, stuffing}
use Rattle.dpx_grammar.proofs.Prefixes.{no_some, some_is, IsSplit, run_split}
use Rattle.dpx_grammar.proofs.Unique.{IsRun, cut_runs, blocks, some_lanes, all_take, tokens_one}
use Rattle.dpx_reception.proofs.FramesGo.{PartsGo, parts_same, parts_on, part_goes, AreFront, frames_go}

abbrev Goes : List Part → List Part → Type 0
Goes u v = PartsGo (frame_parts u) (frame_parts v)

abbrev Steps : List Part → Place → Option (Option Part × Place) → Type 0
Steps whole s None = ⊤
Steps whole s (Some (o, now)) = Goes (whole ++ begun_of s) (grown whole o ++ begun_of now)

stays : (u : List Part) → Goes u u
stays u = parts_same (frame_parts u)

part_more : (whole : List Part) (x : Part) → Goes (whole ++ []) ((whole ++ x ∷ []) ++ [])
part_more whole x =
    subst (λ u. Goes u ((whole ++ x ∷ []) ++ [])) (sym (append-nil whole))
    (subst (λ v. Goes whole v) (sym (append-nil (whole ++ x ∷ []))) (part_goes whole x))

begin_more : (whole : List Part) (x : Part) → Goes (whole ++ []) (whole ++ x ∷ [])
begin_more whole x = subst (λ u. Goes u (whole ++ x ∷ [])) (sym (append-nil whole)) (part_goes whole x)

same_more : (whole : List Part) (x : Part) → Goes (whole ++ x ∷ []) ((whole ++ x ∷ []) ++ [])
same_more whole x = subst (λ v. Goes (whole ++ x ∷ []) v) (sym (append-nil (whole ++ x ∷ []))) (stays (whole ++ x ∷ []))

-- ---- the rows of a block tell nothing of frames

rows_block : (w : List Part) (a b : List (List ℕ))
    → (valid_rows (w ++ block a ∷ []) ≡ valid_rows (w ++ block b ∷ []))
    × (is_ended (w ++ block a ∷ []) ≡ is_ended (w ++ block b ∷ []))
rows_block [] a b = (refl, refl)
rows_block (valid bytes ∷ w) a b = let e = rows_block w a b in (ap (λ rows. bytes ∷ rows) e.0, e.1)
rows_block (stuffing rows ∷ w) a b = rows_block w a b
rows_block (group reset ∷ w) a b = (refl, refl)
rows_block (block rows ∷ w) a b = (refl, refl)
rows_block (filler bytes ∷ w) a b = (refl, refl)
rows_block (attributes rows ∷ w) a b = (refl, refl)
rows_block (secondary rows ∷ w) a b = (refl, refl)
rows_block (begins ∷ w) a b = (refl, refl)

lines_block : (w : List Part) (a b : List (List ℕ)) → lines_of (w ++ block a ∷ []) ≡ lines_of (w ++ block b ∷ [])
lines_block [] a b = refl
lines_block (begins ∷ w) a b = let e = rows_block w a b in rw (e.0, e.1, lines_block w a b) refl
lines_block (attributes rows ∷ w) a b = refl
lines_block (group reset ∷ w) a b = lines_block w a b
lines_block (block rows ∷ w) a b = lines_block w a b
lines_block (filler bytes ∷ w) a b = lines_block w a b
lines_block (secondary rows ∷ w) a b = lines_block w a b
lines_block (valid bytes ∷ w) a b = lines_block w a b
lines_block (stuffing rows ∷ w) a b = lines_block w a b

told_block : (w : List Part) (a b : List (List ℕ)) → frame_parts (w ++ block a ∷ []) ≡ frame_parts (w ++ block b ∷ [])
told_block [] a b = refl
told_block (attributes rows ∷ w) a b =
    ap (λ l. record { rows = rows; lines = l } ∷ frame_parts (w ++ block a ∷ [])) (lines_block w a b)
    ∙ ap (λ t. record { rows = rows; lines = lines_of (w ++ block b ∷ []) } ∷ t) (told_block w a b)
told_block (begins ∷ w) a b = told_block w a b
told_block (group reset ∷ w) a b = told_block w a b
told_block (block rows ∷ w) a b = told_block w a b
told_block (filler bytes ∷ w) a b = told_block w a b
told_block (secondary rows ∷ w) a b = told_block w a b
told_block (valid bytes ∷ w) a b = told_block w a b
told_block (stuffing rows ∷ w) a b = told_block w a b

block_more : (whole : List Part) (a b : List (List ℕ)) → Goes (whole ++ block a ∷ []) (whole ++ block b ∷ [])
block_more whole a b =
    subst (λ ts. PartsGo (frame_parts (whole ++ block a ∷ [])) ts) (told_block whole a b)
    (stays (whole ++ block a ∷ []))

last_block : (whole : List Part) (a b : List (List ℕ)) → Goes (whole ++ block a ∷ []) ((whole ++ block b ∷ []) ++ [])
last_block whole a b =
    subst (λ v. Goes (whole ++ block a ∷ []) v) (sym (append-nil (whole ++ block b ∷ []))) (block_more whole a b)

-- ---- step by step

step_goes : (enhanced : Bool) (b a : ℕ) (whole : List Part) (s : Place) (t : Token)
    → Steps whole s (step enhanced b a s t)
step_goes true b a whole start (code a_sr) = begin_more whole (group true)
step_goes false b a whole start (code a_sr) = part_more whole (group true)
step_goes enhanced b a whole (head reset (suc zero)) (code a_bf) = stays (whole ++ group reset ∷ [])
step_goes enhanced b a whole (head reset (suc (suc zero))) (code a_bf) = stays (whole ++ group reset ∷ [])
step_goes enhanced b a whole (head true (suc (suc (suc zero)))) (code a_sr) = same_more whole (group true)
step_goes enhanced b a whole (head false (suc (suc (suc zero)))) (code a_bs) = same_more whole (group false)
step_goes enhanced b a whole (ids [] (suc zero)) (row bytes) = part_more whole (block (bytes ∷ []))
step_goes enhanced b a whole (ids (r ∷ rows) (suc zero)) (row bytes) =
    last_block whole (r ∷ rows) (r ∷ (rows ++ bytes ∷ []))
step_goes enhanced b a whole (ids [] (suc (suc n))) (row bytes) = begin_more whole (block (bytes ∷ []))
step_goes enhanced b a whole (ids (r ∷ rows) (suc (suc n))) (row bytes) =
    block_more whole (r ∷ rows) (r ∷ (rows ++ bytes ∷ []))
step_goes enhanced b a whole blank (row bytes) = part_more whole (filler bytes)
step_goes true b a whole blank (code a_sr) = begin_more whole (group true)
step_goes false b a whole blank (code a_sr) = part_more whole (group true)
step_goes true b a whole blank (code a_bs) = begin_more whole (group false)
step_goes false b a whole blank (code a_bs) = part_more whole (group false)
step_goes enhanced b a whole blank (code a_be) = part_more whole begins
step_goes enhanced b a whole blank (code an_ss) = stays (whole ++ [])
step_goes enhanced b a whole opened (code an_ss) = stays (whole ++ [])
step_goes enhanced b a whole opened (row bytes) = stays (whole ++ [])
step_goes enhanced b a whole (numbers rows (suc n)) (row bytes) = stays (whole ++ [])
step_goes enhanced b a whole (numbers rows zero) (code an_se) = part_more whole (attributes rows)
step_goes enhanced b a whole (packet rows) (row bytes) = stays (whole ++ [])
step_goes enhanced b a whole (packet rows) (code an_se) = part_more whole (secondary rows)
step_goes enhanced b a whole active (row bytes) = part_more whole (valid bytes)
step_goes enhanced b a whole active (code an_fe) = part_more whole (stuffing None)
step_goes enhanced b a whole active (code an_fs) = stays (whole ++ [])
step_goes true b a whole active (code a_sr) = begin_more whole (group true)
step_goes false b a whole active (code a_sr) = part_more whole (group true)
step_goes true b a whole active (code a_bs) = begin_more whole (group false)
step_goes false b a whole active (code a_bs) = part_more whole (group false)
step_goes enhanced b a whole (fill rows) (row bytes) = stays (whole ++ [])
step_goes enhanced b a whole (fill rows) (code an_fe) = part_more whole (stuffing (Some rows))
step_goes enhanced b a whole s t = tt

more_goes : (enhanced : Bool) (b a : ℕ) (whole : List Part) (s : Place) (o : Option (Option Part × Place))
    (ts : List Token) (w : List Part) (now : Place) → Steps whole s o
    → ((whole : List Part) (s : Place) → run enhanced b a whole s ts ≡ Some (w, now)
    → Goes (whole ++ begun_of s) (w ++ begun_of now))
    → go_on whole o (λ v p. run enhanced b a v p ts) ≡ Some (w, now) → Goes (whole ++ begun_of s) (w ++ begun_of now)
more_goes enhanced b a whole s None ts w now goes more e = absurd (no_some (w, now) e)
more_goes enhanced b a whole s (Some (o, next)) ts w now goes more e =
    parts_on (frame_parts (whole ++ begun_of s)) (frame_parts (grown whole o ++ begun_of next))
    (frame_parts (w ++ begun_of now)) goes (more (grown whole o) next e)

run_goes : (enhanced : Bool) (b a : ℕ) (ts : List Token) (w : List Part) (now : Place) (whole : List Part) (s : Place)
    → run enhanced b a whole s ts ≡ Some (w, now) → Goes (whole ++ begun_of s) (w ++ begun_of now)
run_goes enhanced b a [] w now whole s e =
    let p = some_is (whole, s) (w, now) e in
    subst (λ (q : List Part × Place). Goes (whole ++ begun_of s) (q.0 ++ begun_of q.1)) p (stays (whole ++ begun_of s))
run_goes enhanced b a (t ∷ ts) w now whole s e =
    more_goes enhanced b a whole s (step enhanced b a s t) ts w now (step_goes enhanced b a whole s t)
    (λ v p i. run_goes enhanced b a ts w now v p i) e

tokens_same : (lanes n : ℕ) → lanes ≡ suc n → (ts us : List Token) → AllByRecursion (IsToken lanes) ts
    → AllByRecursion (IsToken lanes) us → map (token_set lanes) ts ≡ map (token_set lanes) us → ts ≡ us
tokens_same lanes n e ts us g h i =
    tokens_one n ts us (subst (λ (k : ℕ). AllByRecursion (IsToken k) ts) e g)
    (subst (λ (k : ℕ). AllByRecursion (IsToken k) us) e h)
    (subst (λ (k : ℕ). map (token_set k) ts ≡ map (token_set k) us) e i)

pub frames_stay : (enhanced : Bool) (lanes : Lanes) (sets more : List (List Sym)) (frames others : List Frame)
    (tail other : ℕ) → Receives enhanced (lanes_count lanes) sets frames tail
    → Receives enhanced (lanes_count lanes) (sets ++ more) others other → AreFront frames others
frames_stay enhanced lanes sets more frames others tail other g r =
    let k = blocks lanes in
    let own : IsRun enhanced (lanes_count lanes) k.0 sets g.whole g.next g.front =
    cut_runs enhanced (lanes_count lanes) k.0 sets g.whole g.next g.front k.1 g.cut in
    let all : IsRun enhanced (lanes_count lanes) k.0 (sets ++ more) r.whole r.next r.front =
    cut_runs enhanced (lanes_count lanes) k.0 (sets ++ more) r.whole r.next r.front k.1 r.cut in
    let xs : List Token = take (length sets) all.taken in
    let ys : List Token = drop (length sets) all.taken in
    let split : IsSplit enhanced (suc k.0) (36 / lanes_count lanes) [] start xs ys r.whole all.place =
    run_split enhanced (suc k.0) (36 / lanes_count lanes) xs ys r.whole all.place [] start
    (ap (run enhanced (suc k.0) (36 / lanes_count lanes) [] start) (take-append-drop (length sets) all.taken)
    ∙ all.reached) in
    let xs_sets : map (token_set (lanes_count lanes)) xs ≡ sets =
    sym (take-map (token_set (lanes_count lanes)) (length sets) all.taken)
    ∙ ap (take (length sets)) all.taken_sets ∙ take_at sets more (length sets) refl in
    let same : own.taken ≡ xs =
    tokens_same (lanes_count lanes) (some_lanes lanes).0 (some_lanes lanes).1 own.taken xs own.good
    (all_take (IsToken (lanes_count lanes)) (length sets) all.taken all.good) (own.taken_sets ∙ sym xs_sets) in
    let there = some_is (split.middle, split.place) (g.whole, own.place)
    (sym split.first
    ∙ (ap (run enhanced (suc k.0) (36 / lanes_count lanes) [] start) (sym same) ∙ own.reached)) in
    let goes : Goes (g.whole ++ begun_of own.place) (r.whole ++ begun_of all.place) =
    subst (λ (q : List Part × Place). Goes (q.0 ++ begun_of q.1) (r.whole ++ begun_of all.place)) there
    (run_goes enhanced (suc k.0) (36 / lanes_count lanes) ys r.whole all.place split.middle split.place split.rest) in
    frames_go (lanes_count lanes) (frame_parts (g.whole ++ begun_of own.place))
    (frame_parts (r.whole ++ begun_of all.place)) frames others goes
    (subst (λ ps. AreFrames (lanes_count lanes) (frame_parts (g.whole ++ ps)) frames) (sym own.tells) g.are_frames)
    (subst (λ ps. AreFrames (lanes_count lanes) (frame_parts (r.whole ++ ps)) others) (sym all.tells) r.are_frames)
