-- What is received of a list of sets is one.
use Rattle.std.proofs.Common.{ℕ, zero, suc, ◌+◌, ◌/◌, ◌<◌, ◌≤◌, ◌≡◌, ◌≢◌, ◌∙◌, Bool, true, false, List, [], ◌∷◌, ◌++◌}
use Rattle.std.proofs.Common.{map, length, take, Option, Some, None, Ok, refl, sym, ap, subst, arith, length-append}
use Rattle.std.specs.Prelude.{Result, ◌==◌, if◌then◌else◌}
use Rattle.std.specs.List.{AllByRecursion, flat_map}
use Rattle.std.proofs.lemmas.List.{length-map, map-append, take-map, take_at}
use Rattle.dpx_base.specs.declared.lanes.Lanes.{Lanes}
use Rattle.dpx_base.specs.declared.lanes.Lanes.TheVariants.{One, Two, Four}
use Rattle.dpx_base.specs.declared.pixel.Pixel.{Pixel}
use Rattle.dpx_base.specs.declared.sym.Sym.{Sym}
use Rattle.dpx_base.specs.Lanes.{lanes_count}
use Rattle.dpx_msa.specs.declared.attributes.Attributes.{Attributes}
use Rattle.dpx_msa.specs.declared.msa_bad.MsaBad.{MsaBad}
use Rattle.dpx_grammar.specs.Accepted.{FrameParts, Frame, IsFrame, AreFrames, frame_parts, unfinished, pixels_of}
use Rattle.dpx_grammar.specs.Laws.{IsOneReception}
use Rattle.dpx_grammar.specs.Parts.{Part, group, block, filler, attributes, secondary, begins, valid, stuffing, sets_of}
use Rattle.dpx_grammar.specs.Parts.{data_set, control_set, begun, AreRows, IsCut}
use Rattle.dpx_grammar.specs.Machine.{begun_of, Code, a_bs, a_sr, a_be, an_ss, an_se, an_fs, an_fe, a_bf, byte_of}
use Rattle.dpx_grammar.specs.Machine.{Token, row, code, token_set, IsToken, Place, start, run}
use Rattle.dpx_grammar.proofs.Lists.{all_append}
use Rattle.dpx_grammar.proofs.Runs.{tokens, Mode, opening, headed, blanking, showing, after, Follows, Chain, end}
use Rattle.dpx_grammar.proofs.Runs.{place_of, chain_run}
use Rattle.dpx_grammar.proofs.Cuts.{told_in, begun_is, Stops, part_stops, is_chain, chain_cut}

-- ---- parts as tokens

rows_sets : (lanes : ℕ) (rows : List (List ℕ)) → map (token_set lanes) (map row rows) ≡ map data_set rows
rows_sets lanes [] = refl
rows_sets lanes (r ∷ rows) = ap (λ xs. data_set r ∷ xs) (rows_sets lanes rows)

ended_sets : (lanes : ℕ) (rows : List (List ℕ)) (c : Code)
    → map (token_set lanes) (map row rows ++ code c ∷ []) ≡ map data_set rows ++ control_set lanes (byte_of c) ∷ []
ended_sets lanes rows c =
    map-append (token_set lanes) (map row rows) (code c ∷ [])
    ∙ ap (λ xs. xs ++ control_set lanes (byte_of c) ∷ []) (rows_sets lanes rows)

pub part_sets : (enhanced : Bool) (lanes : ℕ) (x : Part)
    → map (token_set lanes) (tokens enhanced x) ≡ sets_of enhanced lanes x
part_sets true lanes (group true) = refl
part_sets false lanes (group true) = refl
part_sets true lanes (group false) = refl
part_sets false lanes (group false) = refl
part_sets enhanced lanes (block rows) = rows_sets lanes rows
part_sets enhanced lanes (filler bytes) = refl
part_sets enhanced lanes (attributes rows) =
    ap (λ xs. token_set lanes (code an_ss) ∷ token_set lanes (code an_ss) ∷ xs) (ended_sets lanes rows an_se)
part_sets enhanced lanes (secondary rows) = ap (λ xs. token_set lanes (code an_ss) ∷ xs) (ended_sets lanes rows an_se)
part_sets enhanced lanes begins = refl
part_sets enhanced lanes (valid bytes) = refl
part_sets enhanced lanes (stuffing None) = refl
part_sets enhanced lanes (stuffing (Some rows)) =
    ap (λ xs. token_set lanes (code an_fs) ∷ xs) (ended_sets lanes rows an_fe)

pub parts_sets : (enhanced : Bool) (lanes : ℕ) (xs : List Part)
    → map (token_set lanes) (flat_map (tokens enhanced) xs) ≡ flat_map (sets_of enhanced lanes) xs
parts_sets enhanced lanes [] = refl
parts_sets enhanced lanes (x ∷ xs) =
    map-append (token_set lanes) (tokens enhanced x) (flat_map (tokens enhanced) xs)
    ∙ ap (λ ys. ys ++ map (token_set lanes) (flat_map (tokens enhanced) xs)) (part_sets enhanced lanes x)
    ∙ ap (λ ys. sets_of enhanced lanes x ++ ys) (parts_sets enhanced lanes xs)

-- ---- a set is one token

code_of : ℕ → Option Code
code_of n =
    if n == 0xbc then Some a_bs else if n == 0x1c then Some a_sr else if n == 0xfb then Some a_be else if n ==
    0x5c then Some an_ss
    else if n == 0xfd then Some an_se else if n == 0xfe then Some an_fs else if n == 0xf7 then Some an_fe else if n ==
    0x7c then Some a_bf else None

code_back : (c : Code) → code_of (byte_of c) ≡ Some c
unfolding code_of
code_back a_bs = refl
code_back a_sr = refl
code_back a_be = refl
code_back an_ss = refl
code_back an_se = refl
code_back an_fs = refl
code_back an_fe = refl
code_back a_bf = refl

bytes_back : (bytes : List ℕ) → map (λ (s : Sym). s.byte) (data_set bytes) ≡ bytes
bytes_back [] = refl
bytes_back (b ∷ bytes) = ap (λ xs. b ∷ xs) (bytes_back bytes)

first_control : List Sym → Bool
first_control [] = false
first_control (s ∷ ss) = s.control

first_byte : List Sym → ℕ
first_byte [] = 0
first_byte (s ∷ ss) = s.byte

different : false ≡ true → ⊥
different e = cc

apart : (n : ℕ) (bytes : List ℕ) (c : Code) → length bytes ≡ suc n → data_set bytes ≡ control_set (suc n) (byte_of c)
    → ⊥
unfolding first_control
apart n [] c h e = omega arith
apart n (b ∷ bytes) c h e = different (ap first_control e)

same_code : (n : ℕ) (c d : Code) → control_set (suc n) (byte_of c) ≡ control_set (suc n) (byte_of d) → c ≡ d
unfolding first_byte
same_code n c d e =
    let b : byte_of c ≡ byte_of d = ap first_byte e in
    let o : Some c ≡ Some d = sym (code_back c) ∙ ap code_of b ∙ code_back d in
    cc

pub token_one : (n : ℕ) (t u : Token) → IsToken (suc n) t → IsToken (suc n) u
    → token_set (suc n) t ≡ token_set (suc n) u → t ≡ u
token_one n (row xs) (row ys) g h e = ap row (sym (bytes_back xs) ∙ ap (map (λ (s : Sym). s.byte)) e ∙ bytes_back ys)
token_one n (row xs) (code d) g h e = absurd (apart n xs d g e)
token_one n (code c) (row ys) g h e = absurd (apart n ys c h (sym e))
token_one n (code c) (code d) g h e = ap code (same_code n c d e)

cons_one : {X : Type 0} (x y : X) (xs ys : List X) → x ∷ xs ≡ y ∷ ys → (x ≡ y) × (xs ≡ ys)
cons_one x y xs ys e = (cc, cc)

pub tokens_one : (n : ℕ) (ts us : List Token) → AllByRecursion (IsToken (suc n)) ts
    → AllByRecursion (IsToken (suc n)) us
    → map (token_set (suc n)) ts ≡ map (token_set (suc n)) us → ts ≡ us
tokens_one n [] [] g h e = refl
tokens_one n [] (u ∷ us) g h e = absurd (empty _ _ e)
  where
    empty : (x : List Sym) (xs : List (List Sym)) → [] ≡ x ∷ xs → ⊥
    empty x xs e = cc
tokens_one n (t ∷ ts) [] g h e = absurd (empty _ _ (sym e))
  where
    empty : (x : List Sym) (xs : List (List Sym)) → [] ≡ x ∷ xs → ⊥
    empty x xs e = cc
tokens_one n (t ∷ ts) (u ∷ us) g h e =
    let c = cons_one (token_set (suc n) t) (token_set (suc n) u) (map (token_set (suc n)) ts)
    (map (token_set (suc n)) us) e in
    ap (λ x. x ∷ ts) (token_one n t u g.0 h.0 c.0) ∙ ap (λ xs. u ∷ xs) (tokens_one n ts us g.1 h.1 c.1)

-- ---- the tokens of parts are good

rows_good : (lanes : ℕ) (rows : List (List ℕ)) → AreRows lanes rows → AllByRecursion (IsToken lanes) (map row rows)
rows_good lanes [] h = tt
rows_good lanes (r ∷ rows) h = (h.0, rows_good lanes rows h.1)

ended_good : (lanes : ℕ) (rows : List (List ℕ)) (c : Code) → AreRows lanes rows
    → AllByRecursion (IsToken lanes) (map row rows ++ code c ∷ [])
ended_good lanes rows c h = all_append (IsToken lanes) (map row rows) (code c ∷ []) (rows_good lanes rows h) (tt, tt)

part_good : (enhanced : Bool) (lanes : ℕ) (m : Mode) (x : Part) → Follows lanes m x
    → AllByRecursion (IsToken lanes) (tokens enhanced x)
part_good true lanes opening (group true) f = (tt, (tt, (tt, (tt, tt))))
part_good false lanes opening (group true) f = (tt, tt)
part_good true lanes opening (group false) f = (tt, (tt, (tt, (tt, tt))))
part_good false lanes opening (group false) f = (tt, tt)
part_good true lanes blanking (group true) f = (tt, (tt, (tt, (tt, tt))))
part_good false lanes blanking (group true) f = (tt, tt)
part_good true lanes blanking (group false) f = (tt, (tt, (tt, (tt, tt))))
part_good false lanes blanking (group false) f = (tt, tt)
part_good true lanes showing (group true) f = (tt, (tt, (tt, (tt, tt))))
part_good false lanes showing (group true) f = (tt, tt)
part_good true lanes showing (group false) f = (tt, (tt, (tt, (tt, tt))))
part_good false lanes showing (group false) f = (tt, tt)
part_good enhanced lanes headed (block rows) f = rows_good lanes rows f.0
part_good enhanced lanes blanking (filler bytes) f = (f, tt)
part_good enhanced lanes blanking (attributes rows) f = (tt, (tt, ended_good lanes rows an_se f.0))
part_good enhanced lanes blanking (secondary rows) f = (tt, ended_good lanes rows an_se f.0)
part_good enhanced lanes blanking begins f = (tt, tt)
part_good enhanced lanes showing (valid bytes) f = (f, tt)
part_good enhanced lanes showing (stuffing None) f = (tt, tt)
part_good enhanced lanes showing (stuffing (Some rows)) f = (tt, ended_good lanes rows an_fe f)
part_good enhanced lanes m x f = absurd f

chain_good : (enhanced : Bool) (lanes : ℕ) (m : Mode) (xs : List Part) → Chain lanes m xs
    → AllByRecursion (IsToken lanes) (flat_map (tokens enhanced) xs)
chain_good enhanced lanes m [] c = tt
chain_good enhanced lanes m (x ∷ xs) c =
    all_append (IsToken lanes) (tokens enhanced x) (flat_map (tokens enhanced) xs) (part_good enhanced lanes m x c.0)
    (chain_good enhanced lanes (after x) xs c.1)

pub all_take : {X : Type 0} (P : X → Type 0) (n : ℕ) (xs : List X) → AllByRecursion P xs → AllByRecursion P (take n xs)
all_take P zero xs h = tt
all_take P (suc n) [] h = tt
all_take P (suc n) (x ∷ xs) h = (h.0, all_take P n xs h.1)

-- ---- a cut is a run of the machine

pub record IsRun (enhanced : Bool) (lanes k : ℕ) (sets : List (List Sym)) (whole : List Part) (next : Part)
    (front : List (List Sym)) : Type 0 where
  pub taken : List Token
  pub taken_sets : map (token_set lanes) taken ≡ sets
  pub good : AllByRecursion (IsToken lanes) taken
  pub place : Place
  pub reached : run enhanced (suc k) (36 / lanes) [] start taken ≡ Some (whole, place)
  pub tells : begun_of place ≡ begun next front

some_left : {X : Type 0} (xs : List X) → xs ≢ [] → 1 ≤ length xs
some_left [] h = absurd (h refl)
some_left (x ∷ xs) h = omega arith

pub cut_runs : (enhanced : Bool) (lanes k : ℕ) (sets : List (List Sym)) (whole : List Part) (next : Part)
    (front : List (List Sym)) → 12 / lanes ≡ suc k
    → IsCut enhanced lanes sets whole next front → IsRun enhanced lanes k sets whole next front
cut_runs enhanced lanes k sets whole next front e cut =
    let n : ℕ = length front in
    let chain : Chain lanes opening (whole ++ next ∷ cut.more) =
    is_chain lanes (whole ++ next ∷ cut.more) cut.are_periods in
    let parts = chain_cut lanes opening whole (next ∷ cut.more) chain in
    let follows : Follows lanes (end opening whole) next = parts.1.0 in
    let size : length (tokens enhanced next) ≡ length front + length cut.back =
    sym (length-map (tokens enhanced next) (token_set lanes)) ∙ ap length (part_sets enhanced lanes next)
    ∙ ap length cut.of_next ∙ length-append front cut.back in
    let short : length front < length (tokens enhanced next) = omega (arith, some_left cut.back cut.unfinished) in
    let stops : Stops enhanced (suc k) (36 / lanes) whole (place_of (suc k) (end opening whole))
    (take (length front) (tokens enhanced next)) (told_in next (length front)) =
    part_stops enhanced lanes k (length front) (end opening whole) next whole e follows short in
    let fronts : map (token_set lanes) (take (length front) (tokens enhanced next)) ≡ front =
    sym (take-map (token_set lanes) (length front) (tokens enhanced next))
    ∙ ap (take (length front)) (part_sets enhanced lanes next ∙ cut.of_next)
    ∙ take_at front cut.back (length front) refl in
    record {
      taken = flat_map (tokens enhanced) whole ++ take (length front) (tokens enhanced next);
      taken_sets =
          map-append (token_set lanes) (flat_map (tokens enhanced) whole) (take (length front) (tokens enhanced next))
          ∙ ap (λ xs. xs ++ map (token_set lanes) (take (length front) (tokens enhanced next)))
          (parts_sets enhanced lanes whole)
          ∙ ap (λ xs. flat_map (sets_of enhanced lanes) whole ++ xs) fronts
          ∙ sym cut.joined;
      good =
          all_append (IsToken lanes) (flat_map (tokens enhanced) whole) (take (length front) (tokens enhanced next))
          (chain_good enhanced lanes opening whole parts.0)
          (all_take (IsToken lanes) (length front) (tokens enhanced next)
          (part_good enhanced lanes (end opening whole) next follows));
      place = stops.place;
      reached = chain_run enhanced lanes k opening whole [] (take (length front) (tokens enhanced next)) e parts.0
          ∙ stops.reached;
      tells = stops.tells ∙ sym (begun_is next front);
    }

-- ---- two cuts are one

pub blocks : (l : Lanes) → (k : ℕ) × (12 / lanes_count l ≡ suc k)
blocks One = (11, refl)
blocks Two = (5, refl)
blocks Four = (2, refl)

pub some_lanes : (l : Lanes) → (n : ℕ) × (lanes_count l ≡ suc n)
some_lanes One = (0, refl)
some_lanes Two = (1, refl)
some_lanes Four = (3, refl)

some_one : (x y : List Part × Place) → Some x ≡ Some y → x ≡ y
some_one x y e = cc

pub pair_one : (w v : List Part) (s t : Place) → ◌≡◌ {A = Option (List Part × Place)} (Some (w, s)) (Some (v, t))
    → (w ≡ v) × (s ≡ t)
pair_one w v s t e = let p = some_one (w, s) (v, t) e in (ap (λ x. x.0) p, ap (λ x. x.1) p)

runs_same : (enhanced : Bool) (n k : ℕ) (sets : List (List Sym)) (whole others : List Part) (next other : Part)
    (front back : List (List Sym))
    → IsRun enhanced (suc n) k sets whole next front → IsRun enhanced (suc n) k sets others other back
    → (whole ≡ others) × (begun next front ≡ begun other back)
runs_same enhanced n k sets whole others next other front back r s =
    let ts : r.taken ≡ s.taken = tokens_one n r.taken s.taken r.good s.good (r.taken_sets ∙ sym s.taken_sets) in
    let p = pair_one whole others r.place s.place
    (sym r.reached ∙ ap (run enhanced (suc k) (36 / suc n) [] start) ts ∙ s.reached) in
    (p.0, sym r.tells ∙ ap begun_of p.1 ∙ s.tells)

cuts_same : (enhanced : Bool) (lanes : Lanes) (sets : List (List Sym)) (whole others : List Part) (next other : Part)
    (front back : List (List Sym))
    → IsCut enhanced (lanes_count lanes) sets whole next front
    → IsCut enhanced (lanes_count lanes) sets others other back
    → (whole ++ begun next front ≡ others ++ begun other back) × (length front ≡ length back)
cuts_same enhanced lanes sets whole others next other front back c d =
    let b = blocks lanes in
    let l = some_lanes lanes in
    let r : IsRun enhanced (lanes_count lanes) b.0 sets whole next front =
    cut_runs enhanced (lanes_count lanes) b.0 sets whole next front b.1 c in
    let s : IsRun enhanced (lanes_count lanes) b.0 sets others other back =
    cut_runs enhanced (lanes_count lanes) b.0 sets others other back b.1 d in
    let same : (whole ≡ others) × (begun next front ≡ begun other back) =
    runs_same enhanced l.0 b.0 sets whole others next other front back
    (subst (λ m. IsRun enhanced m b.0 sets whole next front) l.1 r)
    (subst (λ m. IsRun enhanced m b.0 sets others other back) l.1 s) in
    let size : length (flat_map (sets_of enhanced (lanes_count lanes)) whole) + length front
    ≡ length (flat_map (sets_of enhanced (lanes_count lanes)) others) + length back =
    sym (length-append (flat_map (sets_of enhanced (lanes_count lanes)) whole) front)
    ∙ ap length (sym c.joined ∙ d.joined)
    ∙ length-append (flat_map (sets_of enhanced (lanes_count lanes)) others) back in
    let wholes : length (flat_map (sets_of enhanced (lanes_count lanes)) whole)
    ≡ length (flat_map (sets_of enhanced (lanes_count lanes)) others) =
    ap (λ w. length (flat_map (sets_of enhanced (lanes_count lanes)) w)) same.0 in
    (ap (λ w. w ++ begun next front) same.0 ∙ ap (λ t. others ++ t) same.1, omega arith)

-- ---- frames

ok_one : (a b : Attributes) (r : Result Attributes MsaBad) → r ≡ Ok a → r ≡ Ok b → a ≡ b
ok_one a b r h k = cc

same_frame : (a b : Attributes) (x y : List (List Pixel)) → a ≡ b → x ≡ y
    → ◌≡◌ {A = Frame} (record { attributes = a; lines = x }) (record { attributes = b; lines = y })
same_frame a b x y h k = cc

frame_one : (lanes : ℕ) (t : FrameParts) (f g : Frame) → IsFrame lanes t f → IsFrame lanes t g → f ≡ g
frame_one lanes t f g h k =
    let a : f.attributes ≡ g.attributes = ok_one f.attributes g.attributes _ h.read k.read in
    same_frame f.attributes g.attributes f.lines g.lines a
    (h.lines ∙ ap (λ b. pixels_of lanes b t.lines) a ∙ sym k.lines)

frames_one : (lanes : ℕ) (ts : List FrameParts) (fs gs : List Frame) → AreFrames lanes ts fs → AreFrames lanes ts gs
    → fs ≡ gs
frames_one lanes [] [] [] h k = refl
frames_one lanes [] [] (g ∷ gs) h k = absurd k
frames_one lanes [] (f ∷ fs) gs h k = absurd h
frames_one lanes (t ∷ []) (f ∷ []) (g ∷ []) h k = ap (λ x. x ∷ []) (frame_one lanes t f g h.0 k.0)
frames_one lanes (t ∷ u ∷ ts) (f ∷ fs) (g ∷ gs) h k =
    ap (λ x. x ∷ fs) (frame_one lanes t f g h.0 k.0) ∙ ap (λ xs. g ∷ xs) (frames_one lanes (u ∷ ts) fs gs h.2 k.2)
frames_one lanes (t ∷ []) (f ∷ []) [] h k = absurd k
frames_one lanes (t ∷ []) (f ∷ []) (g ∷ x ∷ gs) h k = absurd k
frames_one lanes (t ∷ []) [] gs h k = absurd h
frames_one lanes (t ∷ []) (f ∷ x ∷ fs) gs h k = absurd h
frames_one lanes (t ∷ u ∷ ts) [] gs h k = absurd h
frames_one lanes (t ∷ u ∷ ts) (f ∷ fs) [] h k = absurd k

pub is_one : IsOneReception
is_one enhanced lanes sets frames others tail other r s =
    let same = cuts_same enhanced lanes sets r.whole s.whole r.next s.next r.front s.front r.cut s.cut in (
      frames_one (lanes_count lanes) (frame_parts (s.whole ++ begun s.next s.front)) frames others
          (subst (λ parts. AreFrames (lanes_count lanes) (frame_parts parts) frames) same.0 r.are_frames) s.are_frames,
      r.tail_is ∙ ap (λ parts. unfinished enhanced (lanes_count lanes) parts (length r.front)) same.0
          ∙ ap (λ n. unfinished enhanced (lanes_count lanes) (s.whole ++ begun s.next s.front) n) same.1
          ∙ sym s.tail_is,
    )
