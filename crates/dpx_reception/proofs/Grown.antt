-- The words of bytes, as bytes are added.
use Rattle.std.proofs.Common.{◌≡◌, ℕ, zero, suc, ◌<◌, ◌≤◌, ◌+◌, ◌*◌, ◌/◌, List, [], ◌∷◌, ◌++◌, length}
use Rattle.std.proofs.Common.{take, drop, map, refl, sym, ap, subst, ◌∙◌, arith, length-append}
use Rattle.std.specs.List.{range_with_len}
use Rattle.std.proofs.lemmas.List.{ext_get_or, get_or_append_left, get_or-map, length-map, take-append-drop}
use Rattle.std.proofs.lemmas.List.FromFn.{get_or-map-range_with_len, length-map-range_with_len}
use Rattle.std.proofs.lemmas.List.FromFn.{take-map-range_with_len}
use Rattle.std.proofs.lemmas.Nat.{le-div}
use Rattle.std.proofs.Math.Nat.{mul-le-mul, mul-div-le}
use Rattle.dpx_base.specs.Capture.{word_in, words_in}
use Rattle.dpx_base.specs.Words.{words_of}
use Rattle.dpx_base.specs.Lanes.{lanes_count}
use Rattle.dpx_base.specs.declared.lanes.Lanes.{Lanes}
use Rattle.dpx_base.specs.declared.lanes.Lanes.TheVariants.{One, Two, Four}
use Rattle.dpx_base.specs.declared.sym.Sym.{Sym}
use Rattle.dpx_lane.specs.Team.{joined}
use Rattle.dpx_align.specs.Faults.{NoFault, Symbols, cut}
use Rattle.dpx_reception.specs.Bytes.{clocks_in, received_words}
use Rattle.dpx_reception.specs.Reception.{Gives}

-- a lane's words of the first clocks
abbrev pub row : (lanes : ℕ) → (bytes : List ℕ) → (clocks lane : ℕ) → List ℕ
row lanes bytes clocks lane = map (word_in lanes bytes lane) (range_with_len 0 clocks)

same_rows : (lanes clocks other : ℕ) (bytes others : List ℕ)
    → ((lane : ℕ) → lane < lanes → row lanes bytes clocks lane ≡ row lanes others other lane)
    → words_in lanes clocks bytes ≡ words_in lanes other others
unfolding words_in
same_rows lanes clocks other bytes others h =
    let f = row lanes bytes clocks in
    let g = row lanes others other in
    let n = length-map-range_with_len f 0 lanes in
    ext_get_or [] (map f (range_with_len 0 lanes)) (map g (range_with_len 0 lanes))
    (n ∙ sym (length-map-range_with_len g 0 lanes))
    (λ lane l.
    let i : lane < lanes = omega (arith, l, n) in
    get_or-map-range_with_len f 0 lanes lane lane [] i (omega arith)
    ∙ (h lane i ∙ sym (get_or-map-range_with_len g 0 lanes lane lane [] i (omega arith))))

pub lane_row : (lanes clocks : ℕ) (bytes : List ℕ) (lane : ℕ) → lane < lanes
    → words_of (words_in lanes clocks bytes) lane ≡ row lanes bytes clocks lane
unfolding words_in
lane_row lanes clocks bytes lane l =
    get_or-map-range_with_len (row lanes bytes clocks) 0 lanes lane lane [] l (omega arith)

pub rows_number : (lanes clocks : ℕ) (bytes : List ℕ) → length (words_in lanes clocks bytes) ≡ lanes
unfolding words_in
rows_number lanes clocks bytes = length-map-range_with_len (row lanes bytes clocks) 0 lanes

pub lane_long : (lanes clocks : ℕ) (bytes : List ℕ) (lane : ℕ) → lane < lanes
    → length (words_of (words_in lanes clocks bytes) lane) ≡ clocks
lane_long lanes clocks bytes lane l =
    ap length (lane_row lanes clocks bytes lane l)
    ∙ length-map-range_with_len (word_in lanes bytes lane) 0 clocks

-- the words of fewer clocks are the first ones
pub cut_words : (lanes n clocks : ℕ) (bytes : List ℕ) → n ≤ clocks
    → cut n (words_in lanes clocks bytes) ≡ words_in lanes n bytes
cut_words lanes n clocks bytes l =
    let all = words_in lanes clocks bytes in
    let size = length-map all (λ (r : List ℕ). take n r) in
    let number = rows_number lanes clocks bytes in
    ext_get_or [] (cut n all) (words_in lanes n bytes) (size ∙ (number ∙ sym (rows_number lanes n bytes)))
    (λ lane k.
    let i : lane < lanes = omega (arith, k, size, number) in
    get_or-map (λ (r : List ℕ). take n r) all lane [] [] (omega (arith, i, number))
    ∙ (ap (take n) (lane_row lanes clocks bytes lane i)
    ∙ (take-map-range_with_len (word_in lanes bytes lane) 0 clocks n l
    ∙ sym (lane_row lanes n bytes lane i))))

-- a word of a whole clock lies within the bytes
word_within : (lanes lane clock clocks len : ℕ) → lane < lanes → clock < clocks → 2 * lanes * clocks ≤ len
    → 2 * (lanes * clock + lane) + 1 < len
word_within lanes lane clock clocks len l k m =
    let more : lanes * suc clock ≤ lanes * clocks = mul-le-mul (omega arith) (omega (arith, k)) in
    omega (arith, more, l, m)

same_word : (lanes lane clock clocks : ℕ) (bytes more : List ℕ) → lane < lanes → clock < clocks
    → 2 * lanes * clocks ≤ length bytes → word_in lanes (bytes ++ more) lane clock ≡ word_in lanes bytes lane clock
same_word lanes lane clock clocks bytes more l k m =
    let place = 2 * (lanes * clock + lane) in
    let w = word_within lanes lane clock clocks (length bytes) l k m in
    omega (
      arith,
      get_or_append_left bytes more 0 place (omega (arith, w)),
      get_or_append_left bytes more 0 (place + 1) w,
    )

-- the words of the first clocks do not rest on the bytes behind them
pub same_words : (lanes clocks : ℕ) (bytes more : List ℕ) → 2 * lanes * clocks ≤ length bytes
    → words_in lanes clocks (bytes ++ more) ≡ words_in lanes clocks bytes
same_words lanes clocks bytes more m =
    same_rows lanes clocks clocks (bytes ++ more) bytes
    (λ lane l.
    let f = word_in lanes (bytes ++ more) lane in
    let g = word_in lanes bytes lane in
    let n = length-map-range_with_len f 0 clocks in
    ext_get_or 0 (row lanes (bytes ++ more) clocks lane) (row lanes bytes clocks lane)
    (n ∙ sym (length-map-range_with_len g 0 clocks))
    (λ clock k.
    let t : clock < clocks = omega (arith, k, n) in
    get_or-map-range_with_len f 0 clocks clock clock 0 t (omega arith)
    ∙ (same_word lanes lane clock clocks bytes more l t m
    ∙ sym (get_or-map-range_with_len g 0 clocks clock clock 0 t (omega arith)))))

clocks_fit : (lanes : ℕ) (bytes : List ℕ) → 2 * lanes * clocks_in lanes bytes ≤ length bytes
unfolding clocks_in
clocks_fit lanes bytes = mul-div-le (length bytes) (2 * lanes)

clocks_grow : (lanes : ℕ) (bytes more : List ℕ) → 0 < lanes
    → clocks_in lanes bytes ≤ clocks_in lanes (bytes ++ more)
unfolding clocks_in
clocks_grow lanes bytes more some =
    let n = length bytes / (2 * lanes) in
    le-div n (length (bytes ++ more)) (2 * lanes) (omega (arith, some))
    (omega (arith, mul-div-le (length bytes) (2 * lanes), length-append bytes more))

pub some_lanes : (lanes : Lanes) → 0 < lanes_count lanes
some_lanes One = omega arith
some_lanes Two = omega arith
some_lanes Four = omega arith

pub received_number : (lanes : ℕ) (bytes : List ℕ) → length (received_words lanes bytes) ≡ lanes
unfolding received_words
received_number lanes bytes = rows_number lanes (clocks_in lanes bytes) bytes

pub received_long : (lanes : ℕ) (bytes : List ℕ) (lane : ℕ) → lane < lanes
    → length (words_of (received_words lanes bytes) lane) ≡ clocks_in lanes bytes
unfolding received_words
received_long lanes bytes lane l = lane_long lanes (clocks_in lanes bytes) bytes lane l

-- the words of bytes are the first ones of those of longer bytes
pub grown : (lanes : ℕ) (bytes more : List ℕ) → 0 < lanes
    → cut (clocks_in lanes bytes) (received_words lanes (bytes ++ more)) ≡ received_words lanes bytes
unfolding received_words
grown lanes bytes more some =
    cut_words lanes (clocks_in lanes bytes) (clocks_in lanes (bytes ++ more)) (bytes ++ more)
    (clocks_grow lanes bytes more some)
    ∙ same_words lanes (clocks_in lanes bytes) bytes more (clocks_fit lanes bytes)

pub take_twice : (n c : ℕ) (xs : List ℕ) → n ≤ c → take n (take c xs) ≡ take n xs
take_twice zero c xs l = refl
take_twice (suc n) zero xs l = absurd (omega (arith, l))
take_twice (suc n) (suc c) [] l = refl
take_twice (suc n) (suc c) (x ∷ xs) l = ap (λ ys. x ∷ ys) (take_twice n c xs (omega (arith, l)))

pub cut_twice : (n c : ℕ) (words : List (List ℕ)) → n ≤ c → cut n (cut c words) ≡ cut n words
cut_twice n c [] l = refl
cut_twice n c (w ∷ words) l =
    ap (λ x. x ∷ cut n (cut c words)) (take_twice n c w l) ∙ ap (λ x. take n w ∷ x) (cut_twice n c words l)

-- the lanes' words are the first ones and the rest
pub cut_joined : (n : ℕ) (words : List (List ℕ)) → joined (cut n words) (map (λ row. drop n row) words) ≡ words
cut_joined n [] = refl
cut_joined n (w ∷ words) =
    ap (λ x. x ∷ joined (cut n words) (map (λ (r : List ℕ). drop n r) words)) (take-append-drop n w)
    ∙ ap (λ x. w ∷ x) (cut_joined n words)

-- what words give rests on their first clocks alone
pub gives_by : (words others : List (List ℕ)) (n m : ℕ) (have : (plain : List (List Sym)) → Type 0)
    → cut n words ≡ cut m others → Gives words n have → Gives others m have
gives_by words others n m have e g = record {
  no_fault = subst (λ (x : List (List ℕ)). NoFault x) e g.no_fault;
  plain = g.plain;
  symbols = subst (λ (x : List (List ℕ)). Symbols x g.plain) e g.symbols;
  sets = g.sets;
}
