-- Eight bits of the key at once, as the register makes them.
use Rattle.std.proofs.Common.{◌≡◌, ℕ, zero, suc, ◌<◌, ◌≤◌, ◌+◌, ◌*◌, ◌/◌, ◌%◌, ◌^◌, List, [], ◌∷◌, ◌++◌, length, get_or}
use Rattle.std.proofs.Common.{map, take, drop}
use Rattle.std.proofs.Common.{refl, sym, ap, ◌∙◌, arith, length-append}
use Rattle.std.specs.Int.Bits.{bit_xor}
use Rattle.std.specs.List.{range_with_len}
use Rattle.std.proofs.Math.Seq.{take-append_seam, drop-append_seam}
use Rattle.std.proofs.lemmas.List.{get_or-drop, drop-append-le, drop-drop, length-drop, length-take, get_or-take}
use Rattle.std.proofs.lemmas.List.{ext_get_or}
use Rattle.std.proofs.lemmas.List.FromFn.{get_or-map-range_with_len, length-map-range_with_len}
use Rattle.dpx_base.specs.Key.{key_bits, low_first}
use Rattle.dpx_lane.specs.Scrambling.{key_register}
use Rattle.dpx_lane.proofs.BitNumbers.{AreBits, Split, split, xor_lists, xor_bits, xor_at, xor_length, xor_numbers}
use Rattle.dpx_lane.proofs.BitNumbers.{bits_drop}
use Rattle.dpx_lane.proofs.KeyBits.{key_length, key_are_bits, key_ahead, bits_from}

pub seed : key_register 0 ≡ 0x17ff
unfolding key_register key_bits low_first
seed = refl

-- the parts of a list that is put together
parts : (k : ℕ) (xs ys : List ℕ) → length xs ≡ k → (take k (xs ++ ys) ≡ xs) × (drop k (xs ++ ys) ≡ ys)
parts k xs ys e = (
  ap (λ n. take n (xs ++ ys)) (sym e) ∙ take-append_seam xs ys,
  ap (λ n. drop n (xs ++ ys)) (sym e) ∙ drop-append_seam xs ys,
)

abbrev mixed : List ℕ → List ℕ
mixed w = xor_lists (xor_lists (xor_lists w (drop 3 w)) (drop 4 w)) (drop 5 w)

-- bit i of a list of bits is the sum of the four that its register mixes
mixed_at : (w : List ℕ) (i : ℕ) → AreBits w
    → get_or (mixed w) i 0 ≡ (get_or w i 0 + get_or w (i + 3) 0 + get_or w (i + 4) 0 + get_or w (i + 5) 0) % 2
mixed_at w i h =
    let h3 = bits_drop 3 w h in
    let h4 = bits_drop 4 w h in
    let h5 = bits_drop 5 w h in
    let x1 = xor_bits w (drop 3 w) h h3 in
    let x2 = xor_bits (xor_lists w (drop 3 w)) (drop 4 w) x1 h4 in
    let a = xor_at w (drop 3 w) i h h3 in
    let b = xor_at (xor_lists w (drop 3 w)) (drop 4 w) i x1 h4 in
    let c = xor_at (xor_lists (xor_lists w (drop 3 w)) (drop 4 w)) (drop 5 w) i x2 h5 in
    let later : (k : ℕ) → get_or (drop k w) i 0 ≡ get_or w (i + k) 0 =
    λ k. get_or-drop k w i 0 ∙ ap (λ n. get_or w n 0) {x = k + i} {y = i + k} (omega arith) in
    omega (arith, a, b, c, later 3, later 4, later 5)

mixed_length : (w : List ℕ) → length (mixed w) ≡ length w
mixed_length w =
    let x1 = xor_length w (drop 3 w) (omega (arith, length-drop 3 w)) in
    let x2 = xor_length (xor_lists w (drop 3 w)) (drop 4 w) (omega (arith, x1, length-drop 4 w)) in
    xor_length (xor_lists (xor_lists w (drop 3 w)) (drop 4 w)) (drop 5 w) (omega (arith, x1, x2, length-drop 5 w))
    ∙ (x2 ∙ x1)

-- what a register of these bits mixes
mixed_number : (w : List ℕ) → AreBits w → (r : ℕ) → r ≡ low_first w
    → bit_xor (bit_xor (bit_xor r (r / 8)) (r / 16)) (r / 32) ≡ low_first (mixed w)
mixed_number w h r e =
    let s3 = split 3 w h in
    let s4 = split 4 w h in
    let s5 = split 5 w h in
    let q3 : low_first w / 8 ≡ low_first (drop 3 w) = omega (arith, s3.sum, s3.below) in
    let q4 : low_first w / 16 ≡ low_first (drop 4 w) = omega (arith, s4.sum, s4.below) in
    let q5 : low_first w / 32 ≡ low_first (drop 5 w) = omega (arith, s5.sum, s5.below) in
    let h3 = bits_drop 3 w h in
    let h4 = bits_drop 4 w h in
    let h5 = bits_drop 5 w h in
    let x1 = xor_bits w (drop 3 w) h h3 in
    let x2 = xor_bits (xor_lists w (drop 3 w)) (drop 4 w) x1 h4 in
    let a = xor_numbers w (drop 3 w) h h3 in
    let b = xor_numbers (xor_lists w (drop 3 w)) (drop 4 w) x1 h4 in
    let c = xor_numbers (xor_lists (xor_lists w (drop 3 w)) (drop 4 w)) (drop 5 w) x2 h5 in
    rw (e, q3, q4, q5, a, b, c) refl

mixed_bits : (w : List ℕ) → AreBits w → AreBits (mixed w)
mixed_bits w h =
    let h3 = bits_drop 3 w h in
    let h4 = bits_drop 4 w h in
    let h5 = bits_drop 5 w h in
    let x1 = xor_bits w (drop 3 w) h h3 in
    xor_bits (xor_lists (xor_lists w (drop 3 w)) (drop 4 w)) (drop 5 w)
    (xor_bits (xor_lists w (drop 3 w)) (drop 4 w) x1 h4) h5

-- the sixteen bits of the key from bit n on
abbrev window : ℕ → List ℕ
window n = drop n (key_bits n)

window_bits : (n : ℕ) → AreBits (window n)
window_bits n = bits_drop n (key_bits n) (key_are_bits n)

window_length : (n : ℕ) → length (window n) ≡ 16
window_length n = omega (arith, length-drop n (key_bits n), key_length n)

abbrev new_bits : ℕ → List ℕ
new_bits n = map (bits_from n) (range_with_len 0 8)

-- the next eight bits are those that the register mixes
new_at : (n i : ℕ) → i < 8 → get_or (new_bits n) i 0 ≡ get_or (take 8 (mixed (window n))) i 0
new_at n i l =
    let w = window n in
    let key : (k : ℕ) → get_or w k 0 ≡ get_or (key_bits n) (n + k) 0 = λ k. get_or-drop n (key_bits n) k 0 in
    let at : (k : ℕ) → get_or (key_bits n) (n + (i + k)) 0 ≡ get_or (key_bits n) (n + i + k) 0 =
    λ k. ap (λ m. get_or (key_bits n) m 0) {x = n + (i + k)} {y = n + i + k} (omega arith) in
    let a = get_or-map-range_with_len (bits_from n) 0 8 i i 0 l (omega arith) in
    let b = mixed_at w i (window_bits n) in
    let c = get_or-take 8 (mixed w) i 0 l in
    a ∙ (omega (arith, b, key i, key (i + 3), key (i + 4), key (i + 5), at 3, at 4, at 5) ∙ sym c)

new_is : (n : ℕ) → new_bits n ≡ take 8 (mixed (window n))
new_is n =
    let w = window n in
    let long : length (mixed w) ≡ 16 = mixed_length w ∙ window_length n in
    let e : length (new_bits n) ≡ 8 = length-map-range_with_len (bits_from n) 0 8 in
    let f : length (take 8 (mixed w)) ≡ 8 = omega (arith, length-take 8 (mixed w), long) in
    ext_get_or 0 (new_bits n) (take 8 (mixed w)) (e ∙ sym f) (λ i l. new_at n i (omega (arith, e)))

-- the bits from eight places further on
window_ahead : (n : ℕ) → window (n + 8) ≡ drop 8 (window n) ++ new_bits n
window_ahead n =
    ap (drop (n + 8)) (key_ahead n 8 (omega arith))
    ∙ (drop-append-le (n + 8) (key_bits n) (new_bits n) (omega (arith, key_length n))
    ∙ ap (λ xs. xs ++ new_bits n) (sym (drop-drop 8 n (key_bits n))))

join_bits : (xs ys : List ℕ) → AreBits xs → AreBits ys → AreBits (xs ++ ys)
join_bits [] ys h k = k
join_bits (x ∷ xs) ys h k = (h.0, join_bits xs ys h.1 k)

take_bits : (k : ℕ) (xs : List ℕ) → AreBits xs → AreBits (take k xs)
take_bits zero xs h = tt
take_bits (suc k) [] h = tt
take_bits (suc k) (x ∷ xs) h = (h.0, take_bits k xs h.1)

pub register_ahead : (n r : ℕ) → r ≡ key_register n
    → r / 256 + bit_xor (bit_xor (bit_xor r (r / 8)) (r / 16)) (r / 32) % 256 * 256 ≡ key_register (n + 8)
unfolding key_register
register_ahead n r e =
    let w = window n in
    let h = window_bits n in
    let m = mixed w in
    let old = drop 8 w in
    let new = take 8 m in
    let x = mixed_number w h r e in
    let s = split 8 w h in
    let t = split 8 m (mixed_bits w h) in
    let low : low_first m % 256 ≡ low_first new = omega (arith, t.sum, t.below) in
    let high : low_first w / 256 ≡ low_first old = omega (arith, s.sum, s.below) in
    let size : length old ≡ 8 = omega (arith, length-drop 8 w, window_length n) in
    let p = parts 8 old new size in
    let u = split 8 (old ++ new) (join_bits old new (bits_drop 8 w h) (take_bits 8 m (mixed_bits w h))) in
    let f : low_first (old ++ new) ≡ low_first old + 2 ^ 8 * low_first new =
    u.sum ∙ (ap (λ xs. low_first xs + 2 ^ 8 * low_first (drop 8 (old ++ new))) p.0
    ∙ ap (λ xs. low_first old + 2 ^ 8 * low_first xs) p.1) in
    let g : low_first (window (n + 8)) ≡ low_first (old ++ new) =
    ap low_first (window_ahead n) ∙ ap (λ xs. low_first (old ++ xs)) (new_is n) in
    rw x (omega (arith, low, high, f, g, e))
