-- Rows as bytes, word by word; and bytes as rows, clock by clock.
use Rattle.std.proofs.Common.{◌≡◌, ◌≤◌, ◌<◌, ℕ, zero, suc, ◌+◌, ◌-◌, ◌*◌, ◌/◌, List, [], ◌∷◌, ◌++◌, length, take}
use Rattle.std.proofs.Common.{drop, map}
use Rattle.std.proofs.Common.{get_or, replicate, refl, sym, ap, ◌∙◌, arith, append_assoc, length-append, length-take}
use Rattle.std.specs.List.{range_with_len, flat_map}
use Rattle.std.proofs.Math.Nat.{le-div_iff_mul-le, le_of_mul-le-mul_left}
use Rattle.std.proofs.Math.Seq.{take-append_seam, drop-append-add}
use Rattle.std.proofs.lemmas.Grind.{flat_map-append}
use Rattle.std.proofs.lemmas.Nat.{mod-mul-add, div-mul-add}
use Rattle.std.proofs.lemmas.List.{append-nil, drop-drop, drop_all, length-drop, get_or-take, get_or-drop}
use Rattle.std.proofs.lemmas.List.FromFn.{map-range_with_len_more, length-map-range_with_len}
use Rattle.dpx_base.specs.Attributes.{two_bytes}
use Rattle.dpx_base.specs.Capture.{word_at, word_bytes, word_in, words_in}
use Rattle.dpx_base.specs.Lanes.{lanes_count}
use Rattle.dpx_base.specs.Words.{words_of}
use Rattle.dpx_base.specs.declared.lanes.Lanes.{Lanes}
use Rattle.dpx_base.specs.declared.lanes.Lanes.TheVariants.{One, Two, Four}
use Rattle.dpx_lane.specs.Rows.{RowsFacts, lane_by_lane, lane_word, clock_words}

pub some_lane : (lanes : Lanes) → 0 < lanes_count lanes
some_lane One = omega arith
some_lane Two = omega arith
some_lane Four = omega arith

-- the bytes of the first words
unfoldable pub bytes_to : (lanes : ℕ) → (words : List (List ℕ)) → (n : ℕ) → List ℕ
bytes_to lanes words n = flat_map two_bytes (map (word_at lanes words) (range_with_len 0 n))

-- they stand in the place of as many bytes of these
abbrev pub HasFirst : (lanes : ℕ) → (words : List (List ℕ)) → (all : List ℕ) → (n : ℕ) → (to : List ℕ) → Type 0
HasFirst lanes words all n to = to ≡ bytes_to lanes words n ++ drop (2 * n) all

pub has_none : (lanes : ℕ) (words : List (List ℕ)) (all : List ℕ) (n : ℕ) → n ≡ 0 → HasFirst lanes words all n all
unfolding bytes_to
has_none lanes words all n e = rw e refl

bytes_more : (lanes : ℕ) (words : List (List ℕ)) (n : ℕ)
    → bytes_to lanes words (n + 1) ≡ bytes_to lanes words n ++ two_bytes (word_at lanes words n)
unfolding bytes_to
bytes_more lanes words n =
    let before = map (word_at lanes words) (range_with_len 0 n) in
    ap (flat_map two_bytes) (map-range_with_len_more (word_at lanes words) 0 n n (omega arith))
    ∙ flat_map-append two_bytes before (word_at lanes words n ∷ [])

two_each : (ws : List ℕ) → length (flat_map two_bytes ws) ≡ 2 * length ws
two_each [] = refl
two_each (w ∷ ws) = omega (arith, length-append (two_bytes w) (flat_map two_bytes ws), two_each ws)

bytes_length : (lanes : ℕ) (words : List (List ℕ)) (n : ℕ) → length (bytes_to lanes words n) ≡ 2 * n
unfolding bytes_to
bytes_length lanes words n =
    two_each (map (word_at lanes words) (range_with_len 0 n))
    ∙ ap (λ k. 2 * k) (length-map-range_with_len (word_at lanes words) 0 n)

-- a word put behind those that stand there
pub put_next : (lanes : ℕ) (words : List (List ℕ)) (all : List ℕ) (k next word : ℕ) (old new : List ℕ)
    → next ≡ k + 1 → HasFirst lanes words all k old → word ≡ word_at lanes words k
    → new ≡ take (2 * k) old ++ (two_bytes word ++ drop (2 * k + 2) old) → HasFirst lanes words all next new
put_next lanes words all k next word old new n before is put =
    let front = bytes_to lanes words k in
    let size : length front ≡ 2 * k = bytes_length lanes words k in
    let t : take (2 * k) old ≡ front = rw (before, ← size) (take-append_seam front (drop (length front) all)) in
    let d : drop (2 * k + 2) old ≡ drop 2 (drop (2 * k) all) =
    rw (before, ← size) (drop-append-add front (drop (length front) all) 2) in
    let e : drop 2 (drop (2 * k) all) ≡ drop (2 * (k + 1)) all =
    drop-drop 2 (2 * k) all ∙ ap (λ n. drop n all) {x = 2 * k + 2} {y = 2 * (k + 1)} (omega arith) in
    let b : bytes_to lanes words (k + 1) ≡ front ++ two_bytes word =
    bytes_more lanes words k ∙ ap (λ w. front ++ two_bytes w) (sym is) in
    rw (n, b, put, t, d, e) (sym (append_assoc front (two_bytes word) (drop (2 * (k + 1)) all)))

pub all_put : (lanes clocks : ℕ) (words : List (List ℕ)) (all : List ℕ) (n : ℕ) (to : List ℕ) → n ≡ lanes * clocks
    → HasFirst lanes words all n to → length all ≡ 2 * (lanes * clocks) → to ≡ word_bytes lanes clocks words
unfolding bytes_to word_bytes
all_put lanes clocks words all n to e is long =
    let none : drop (2 * n) all ≡ [] = drop_all (2 * n) all (omega (arith, long, e)) in
    is
    ∙ (ap (λ xs. bytes_to lanes words n ++ xs) none
    ∙ (append-nil (bytes_to lanes words n) ∙ ap (λ k. bytes_to lanes words k) e))

pub word_from : (lanes : ℕ) (words : List (List ℕ)) (clock lane word : ℕ) → lane < lanes
    → word ≡ get_or (words_of words lane) clock 0 → word ≡ word_at lanes words (clock * lanes + lane)
word_from lanes words clock lane word l h = rw (mod-mul-add clock lanes lane l, div-mul-add clock lanes lane l) h

-- The way back.

abbrev pub rows_read : Lanes → (bytes : List ℕ) → (clocks : ℕ) → RowsFacts
rows_read lanes bytes clocks =
    record { lanes = lanes; rows = words_in (lanes_count lanes) clocks bytes; clocks = clocks }

pub rows_none : (lanes : Lanes) (bytes : List ℕ)
    → rows_read lanes bytes 0 ≡ record { lanes = lanes; rows = replicate (lanes_count lanes) []; clocks = 0 }
unfolding words_in
rows_none One bytes = refl
rows_none Two bytes = refl
rows_none Four bytes = refl

by_lane : (f : ℕ → List ℕ) (g : ℕ → ℕ) (js : List ℕ)
    → lane_by_lane (λ row word. row ++ word ∷ []) (map f js) (map g js) ≡ map (λ j. f j ++ g j ∷ []) js
by_lane f g [] = refl
by_lane f g (j ∷ js) = ap (λ l. (f j ++ g j ∷ []) ∷ l) (by_lane f g js)

same_map : {X : Type 0} (f g : ℕ → X) (s n : ℕ) → ((i : ℕ) → i < n → f (s + i) ≡ g (s + i))
    → map f (range_with_len s n) ≡ map g (range_with_len s n)
same_map f g s zero h = refl
same_map f g s (suc n) h =
    let e : f s ≡ g s = ap f {x = s} {y = s + 0} (omega arith)
    ∙ (h 0 (omega arith) ∙ ap g {x = s + 0} {y = s} (omega arith)) in
    let rest = same_map f g (s + 1) n (λ i less.
    ap f {x = s + 1 + i} {y = s + (i + 1)} (omega arith)
    ∙ (h (i + 1) (omega arith) ∙ ap g {x = s + (i + 1)} {y = s + 1 + i} (omega arith))) in
    ap (λ l. f s ∷ l) rest ∙ ap (λ x. x ∷ map g (range_with_len (s + 1) n)) e

-- a byte of a clock's bytes
piece_byte : (n done k : ℕ) (bytes : List ℕ) → k < 2 * n
    → get_or (take (2 * n) (drop (2 * n * done) bytes)) k 0 ≡ get_or bytes (2 * n * done + k) 0
piece_byte n done k bytes l =
    get_or-take (2 * n) (drop (2 * n * done) bytes) k 0 l ∙ get_or-drop (2 * n * done) bytes k 0

piece_word : (n j done : ℕ) (bytes : List ℕ) → j < n
    → lane_word (take (2 * n) (drop (2 * n * done) bytes)) j ≡ word_in n bytes j done
piece_word n j done bytes less =
    let at : (k : ℕ) → get_or bytes (2 * n * done + (2 * j + k)) 0 ≡ get_or bytes (2 * (n * done + j) + k) 0 =
    λ k. ap (λ i. get_or bytes i 0) {x = 2 * n * done + (2 * j + k)} {y = 2 * (n * done + j) + k} (omega arith) in
    let high = piece_byte n done (2 * j) bytes (omega (arith, less)) in
    let low = piece_byte n done (2 * j + 1) bytes (omega (arith, less)) in
    let first : get_or bytes (2 * n * done + 2 * j) 0 ≡ get_or bytes (2 * (n * done + j)) 0 =
    ap (λ i. get_or bytes i 0) {x = 2 * n * done + 2 * j} {y = 2 * (n * done + j)} (omega arith) in
    omega (arith, high, low, first, at 1)

-- a clock more
pub rows_more : (lanes : Lanes) (bytes piece : List ℕ) (done : ℕ) (before after : RowsFacts)
    → before ≡ rows_read lanes bytes done → piece ≡ take (2 * lanes_count lanes) (drop (2 * lanes_count lanes * done) bytes)
    → after ≡ record {
      lanes = before.lanes;
      rows = lane_by_lane (λ row word. row ++ word ∷ []) before.rows (clock_words before.lanes piece);
      clocks = before.clocks + 1;
    }
    → after ≡ rows_read lanes bytes (done + 1)
unfolding words_in
rows_more lanes bytes piece done before after b p a =
    let n = lanes_count lanes in
    let f : ℕ → List ℕ = λ j. map (word_in n bytes j) (range_with_len 0 done) in
    let g : ℕ → ℕ = lane_word piece in
    let h : ℕ → List ℕ = λ j. map (word_in n bytes j) (range_with_len 0 (done + 1)) in
    let one : (j : ℕ) → j < n → f j ++ g j ∷ [] ≡ h j = λ j less.
    ap (λ w. f j ++ w ∷ []) (ap (λ l. lane_word l j) p ∙ piece_word n j done bytes less)
    ∙ sym (map-range_with_len_more (word_in n bytes j) 0 done done (omega arith)) in
    let all : lane_by_lane (λ row word. row ++ word ∷ []) (map f (range_with_len 0 n)) (map g (range_with_len 0 n))
    ≡ map h (range_with_len 0 n) =
    by_lane f g (range_with_len 0 n)
    ∙ same_map (λ j. f j ++ g j ∷ []) h 0 n (λ i less. one (0 + i) (omega (arith, less))) in
    rw (a, b) (ap (λ rows. record { lanes = lanes; rows = rows; clocks = done + 1 }) all)

pub cleared : (lanes : Lanes) (bytes : List ℕ) (rows : RowsFacts)
    → rows ≡ record { lanes = lanes; rows = replicate (lanes_count lanes) []; clocks = 0 }
    → rows ≡ rows_read rows.lanes bytes 0
cleared lanes bytes rows e = rw e (sym (rows_none lanes bytes))

-- the piece of a clock lies within the bytes
pub within : (n m len done : ℕ) → 0 < n → m ≡ n → len ≤ 2 * n * 8192 → done < len / (2 * m)
    → (done < 8192) × (2 * m * (done + 1) ≤ len)
within n m len done pos e few less =
    let p : 0 < 2 * m = omega (arith, pos, e) in
    let low : (done + 1) * (2 * m) ≤ len = (le-div_iff_mul-le p).0 (omega (arith, less)) in
    let high : 2 * m * (done + 1) ≤ 2 * m * 8192 = omega (arith, low, few, ap (λ z. 2 * z * 8192) e) in
    (omega (arith, le_of_mul-le-mul_left {k = 2 * m} high p), omega (arith, low))

pub piece_is : (n m done : ℕ) (bytes : List ℕ) → m ≡ n
    → take (2 * m * (done + 1) - 2 * m * done) (drop (2 * m * done) bytes) ≡ take (2 * n) (drop (2 * n * done) bytes)
piece_is n m done bytes e =
    let f : ℕ → List ℕ = λ k. take k (drop (2 * m * done) bytes) in
    let g : ℕ → List ℕ = λ k. take (2 * k) (drop (2 * k * done) bytes) in
    ap f {x = 2 * m * (done + 1) - 2 * m * done} {y = 2 * m} (omega arith) ∙ ap g e

pub piece_long : (m done : ℕ) (bytes : List ℕ) → 2 * m * (done + 1) ≤ length bytes
    → length (take (2 * m * (done + 1) - 2 * m * done) (drop (2 * m * done) bytes)) ≡ 2 * m
piece_long m done bytes h =
    omega (
      arith,
      h,
      length-take (2 * m * (done + 1) - 2 * m * done) (drop (2 * m * done) bytes),
      length-drop (2 * m * done) bytes,
    )
