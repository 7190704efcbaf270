-- The key's bits.
use Rattle.std.proofs.Common.{◌≡◌, ℕ, zero, suc, ◌<◌, ◌≤◌, ◌+◌, ◌%◌, List, [], ◌∷◌, ◌++◌, length, get_or, map, take}
use Rattle.std.proofs.Common.{drop}
use Rattle.std.proofs.Common.{refl, sym, ap, ◌∙◌, arith, rules, append_assoc, append-nil, length-append, add-suc}
use Rattle.std.proofs.Common.{add-zero}
use Rattle.std.specs.List.{range_with_len}
use Rattle.std.proofs.lemmas.List.{get_or_append_left, get_or-drop, drop-append-le, length-drop}
use Rattle.std.proofs.lemmas.List.FromFn.{map-range_with_len_more}
use Rattle.dpx_base.specs.Key.{first_bits, bit_sum, key_bits}
use Rattle.dpx_lane.proofs.BitNumbers.{AreBits}

pub key_length : (n : ℕ) → length (key_bits n) ≡ n + 16
unfolding key_bits
key_length zero = refl
key_length (suc n) = omega (arith, key_length n, length-append (key_bits n) (bit_sum n (key_bits n) ∷ []))

bits_more : (xs : List ℕ) (b : ℕ) → AreBits xs → b < 2 → AreBits (xs ++ b ∷ [])
bits_more [] b h l = (l, tt)
bits_more (x ∷ xs) b h l = (h.0, bits_more xs b h.1 l)

pub key_are_bits : (n : ℕ) → AreBits (key_bits n)
unfolding key_bits
key_are_bits zero = search rules
key_are_bits (suc n) = bits_more (key_bits n) (bit_sum n (key_bits n)) (key_are_bits n) (omega arith)

-- bits that are there stay as bits are added
same_sum : (n : ℕ) (xs ys : List ℕ) → n + 5 < length xs → bit_sum n (xs ++ ys) ≡ bit_sum n xs
same_sum n xs ys l =
    let a = get_or_append_left xs ys 0 n (omega arith) in
    let b = get_or_append_left xs ys 0 (n + 3) (omega arith) in
    let c = get_or_append_left xs ys 0 (n + 4) (omega arith) in
    let d = get_or_append_left xs ys 0 (n + 5) (omega arith) in
    rw (a, b, c, d) refl

abbrev pub bits_from : (n : ℕ) → ℕ → ℕ
bits_from n i = bit_sum (n + i) (key_bits n)

-- up to eleven bits more, by the bits that are there
pub key_ahead : (n j : ℕ) → j ≤ 11 → key_bits (n + j) ≡ key_bits n ++ map (bits_from n) (range_with_len 0 j)
unfolding key_bits
key_ahead n zero l = rw add-zero (sym (append-nil (key_bits n)))
key_ahead n (suc j) l =
    let there = key_ahead n j (omega arith) in
    let new = map (bits_from n) (range_with_len 0 j) in
    let x = bit_sum (n + j) (key_bits n) in
    let s : bit_sum (n + j) (key_bits (n + j)) ≡ x =
    ap (bit_sum (n + j)) there ∙ same_sum (n + j) (key_bits n) new (omega (arith, key_length n)) in
    let one : List ℕ → List ℕ = λ xs. xs ++ bit_sum (n + j) (key_bits (n + j)) ∷ [] in
    let two : ℕ → List ℕ = λ b. (key_bits n ++ new) ++ b ∷ [] in
    let m : map (bits_from n) (range_with_len 0 (suc j)) ≡ new ++ x ∷ [] =
    ap (λ k. map (bits_from n) (range_with_len 0 k)) {x = suc j} {y = j + 1} (omega arith)
    ∙ map-range_with_len_more (bits_from n) 0 j j (omega arith) in
    rw add-suc
    (ap one there
    ∙ (ap two s
    ∙ (append_assoc (key_bits n) new (x ∷ []) ∙ ap (λ xs. key_bits n ++ xs) (sym m))))
