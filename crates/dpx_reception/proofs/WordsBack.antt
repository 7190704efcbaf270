-- The words of bytes that are words.
use Rattle.std.proofs.Common.{◌≡◌, ℕ, zero, suc, ◌<◌, ◌≤◌, ◌+◌, ◌*◌, ◌/◌, ◌%◌, List, [], ◌∷◌, length, map, get_or}
use Rattle.std.proofs.Common.{refl, sym, ap, ◌∙◌, arith}
use Rattle.std.specs.List.{range_with_len, flat_map}
use Rattle.std.proofs.lemmas.List.{ext_get_or}
use Rattle.std.proofs.lemmas.List.FromFn.{get_or-map-range_with_len, length-map-range_with_len}
use Rattle.std.proofs.lemmas.Nat.{div-mul-add, mod-mul-add}
use Rattle.std.proofs.Math.Nat.{mul-le-mul}
use Rattle.dpx_base.specs.Attributes.{two_bytes}
use Rattle.dpx_base.specs.Capture.{word_at, word_bytes, word_in, words_in}
use Rattle.dpx_base.specs.Words.{words_of}

pair_first : (ws : List ℕ) (k : ℕ) → k < length ws → get_or (flat_map two_bytes ws) (2 * k) 0 ≡ get_or ws k 0 / 256
pair_first [] k l = absurd (omega (arith, l))
pair_first (w ∷ ws) zero l = refl
pair_first (w ∷ ws) (suc k) l =
    ap (λ i. get_or (flat_map two_bytes (w ∷ ws)) i 0) {x = 2 * suc k} {y = suc (suc (2 * k))} (omega arith)
    ∙ pair_first ws k (omega (arith, l))

pair_second : (ws : List ℕ) (k : ℕ) → k < length ws
    → get_or (flat_map two_bytes ws) (2 * k + 1) 0 ≡ get_or ws k 0 % 256
pair_second [] k l = absurd (omega (arith, l))
pair_second (w ∷ ws) zero l = refl
pair_second (w ∷ ws) (suc k) l =
    ap (λ i. get_or (flat_map two_bytes (w ∷ ws)) i 0) {x = 2 * suc k + 1} {y = suc (suc (2 * k + 1))} (omega arith)
    ∙ pair_second ws k (omega (arith, l))

pub length-pairs : (ws : List ℕ) → length (flat_map two_bytes ws) ≡ 2 * length ws
length-pairs [] = refl
length-pairs (w ∷ ws) = omega (arith, length-pairs ws)

pub length-word_bytes : (lanes clocks : ℕ) (words : List (List ℕ))
    → length (word_bytes lanes clocks words) ≡ 2 * (lanes * clocks)
unfolding word_bytes
length-word_bytes lanes clocks words =
    let all = map (word_at lanes words) (range_with_len 0 (lanes * clocks)) in
    length-pairs all ∙ ap (λ n. 2 * n) (length-map-range_with_len (word_at lanes words) 0 (lanes * clocks))

-- the place of a lane's word of a clock lies within
place_within : (lanes clocks lane clock : ℕ) → lane < lanes → clock < clocks → lanes * clock + lane < lanes * clocks
place_within lanes clocks lane clock l k =
    let m : lanes * suc clock ≤ lanes * clocks = mul-le-mul (omega arith) (omega (arith, k)) in
    omega (arith, m, l)

word_at_is : (lanes : ℕ) (words : List (List ℕ)) (lane clock : ℕ) → lane < lanes
    → word_at lanes words (lanes * clock + lane) ≡ get_or (words_of words lane) clock 0
word_at_is lanes words lane clock l =
    let e : lanes * clock + lane ≡ clock * lanes + lane = omega arith in
    ap (λ k. word_at lanes words k) e
    ∙ (ap (λ j. get_or (words_of words j) ((clock * lanes + lane) / lanes) 0) (mod-mul-add clock lanes lane l)
    ∙ ap (λ t. get_or (words_of words lane) t 0) (div-mul-add clock lanes lane l))

whole_of : (w : ℕ) → 256 * (w / 256) + w % 256 ≡ w
whole_of w = omega arith

word_back : (lanes clocks : ℕ) (words : List (List ℕ)) (lane clock : ℕ) → lane < lanes → clock < clocks
    → word_in lanes (word_bytes lanes clocks words) lane clock ≡ get_or (words_of words lane) clock 0
unfolding word_bytes
word_back lanes clocks words lane clock l k =
    let all = map (word_at lanes words) (range_with_len 0 (lanes * clocks)) in
    let place = lanes * clock + lane in
    let within = place_within lanes clocks lane clock l k in
    let size = length-map-range_with_len (word_at lanes words) 0 (lanes * clocks) in
    let i : place < length all = omega (arith, within, size) in
    let w = get_or all place 0 in
    let e : w ≡ get_or (words_of words lane) clock 0 =
    get_or-map-range_with_len (word_at lanes words) 0 (lanes * clocks) place place 0 within (omega arith)
    ∙ word_at_is lanes words lane clock l in
    omega (arith, pair_first all place i, pair_second all place i, whole_of w, e)

pub words_back : (lanes clocks : ℕ) (words : List (List ℕ)) → length words ≡ lanes
    → ((lane : ℕ) → lane < lanes → length (words_of words lane) ≡ clocks)
    → words_in lanes clocks (word_bytes lanes clocks words) ≡ words
unfolding words_in
words_back lanes clocks words size long =
    let bytes = word_bytes lanes clocks words in
    let row : ℕ → List ℕ = λ lane. map (word_in lanes bytes lane) (range_with_len 0 clocks) in
    let n = length-map-range_with_len row 0 lanes in
    ext_get_or [] (map row (range_with_len 0 lanes)) words (n ∙ sym size)
    (λ lane l.
    let i : lane < lanes = omega (arith, l, n) in
    let m = length-map-range_with_len (word_in lanes bytes lane) 0 clocks in
    get_or-map-range_with_len row 0 lanes lane lane [] i (omega arith)
    ∙ ext_get_or 0 (row lane) (words_of words lane) (m ∙ sym (long lane i))
    (λ clock k.
    let t : clock < clocks = omega (arith, k, m) in
    get_or-map-range_with_len (word_in lanes bytes lane) 0 clocks clock clock 0 t (omega arith)
    ∙ word_back lanes clocks words lane clock i t))
