-- What `parse` makes of a word without a plus that is short enough.
use Rattle.std.proofs.Common.{◌≡◌, ℕ, ◌<◌, ◌≤◌, ◌^◌, ◌&&◌, Bool, true, false, nat_lt, List, [], ◌∷◌, length, slice_index, refl, sym, ap, subst, arith}
use Rattle.std.proofs.Common.{Some, None, Result, Ok, Err}
use Rattle.std.specs.Prelude.{◌≢◌, if◌then◌else◌}
use Rattle.std.specs.Result.{OkIff, result_ok}
use Rattle.std.specs.Char.{is_ascii_digit}
use Rattle.std.specs.Str.{all_ascii_digits}
use Rattle.std.specs.Str.Parse.{ParsesUnsigned, digits_value}
use Rattle.std.proofs.lemmas.Bool.{and_from, and_parts, lt-ltb, ltb-true, false_from_ne_true}
use Rattle.std.proofs.lemmas.Str.Parse.{numerals_by_value, parse_plain, tells_all_ascii_digits}
use Rattle.dpx_words.specs.Seed.{is_short_numeral, seed_named}

abbrev value : List ℕ → ℕ
value word = digits_value 10 word

abbrev is_seed : List ℕ → Bool
is_seed word = is_short_numeral word && nat_lt (value word) (2 ^ 32)

abbrev IsNumeral : List ℕ → Type 0
IsNumeral word = (all_ascii_digits word ≡ true) × (0 < length word) × (value word < 2 ^ 32)

seed_when : (word : List ℕ) (b : Bool) → is_seed word ≡ b → seed_named word ≡ (if b then Some (value word) else None)
unfolding seed_named
seed_when word b e = ap (λ b. if b then Some (value word) else None) e

is_one : (word : List ℕ) → length word < 11 → IsNumeral word → is_seed word ≡ true
is_one word short n =
    and_from _ _ (and_from _ _ (lt-ltb 0 (length word) n.1) (and_from _ _ (lt-ltb (length word) 11 short) n.0))
    (lt-ltb (value word) (2 ^ 32) n.2)

one_is : (word : List ℕ) → is_seed word ≡ true → IsNumeral word × (length word < 11)
one_is word e =
    let all = and_parts _ _ e in
    let numeral = and_parts _ _ all.0 in
    let rest = and_parts _ _ numeral.1 in (
      (rest.1, ltb-true 0 (length word) numeral.0, ltb-true (value word) (2 ^ 32) all.1),
      ltb-true (length word) 11 rest.0,
    )

pub none_longer : (word : List ℕ) → 10 < length word → None ≡ seed_named word
none_longer word long =
    sym (seed_when word false (false_from_ne_true _ (λ e. omega (arith, long, (one_is word e).1))))

parsed : {E : Type 0} (word : List ℕ) (r : Result ℕ E) → length word < 11 → OkIff r (IsNumeral word) (value word)
    → result_ok r ≡ seed_named word
parsed word (Ok x) short (n, e) = rw (seed_when word true (is_one word short n), e) refl
parsed word (Err e) short none =
    sym (seed_when word false (false_from_ne_true _ (λ is. absurd (none (one_is word is).0))))

pub short_is_parsed : {E : Type 0} (word : List ℕ) (r : Result ℕ E) → length word ≤ 10 → slice_index word 0 ≢ 43
    → ParsesUnsigned 32 10 word r → result_ok r ≡ seed_named word
short_is_parsed word r short plain parses =
    parsed word r (omega (arith, short))
    (parse_plain (numerals_by_value _ tells_all_ascii_digits) 32 word r parses plain)

signed_is_none : (word : List ℕ) → slice_index word 0 ≡ 43 → all_ascii_digits word ≡ true → ⊥
signed_is_none [] plus digits = absurd cc
signed_is_none (c ∷ cs) plus digits =
    let e : is_ascii_digit 43 ≡ true =
    subst (λ (n : ℕ). is_ascii_digit n ≡ true) plus (and_parts (is_ascii_digit c) (all_ascii_digits cs) digits).0 in
    absurd cc

pub none_signed : (word : List ℕ) → slice_index word 0 ≡ 43 → None ≡ seed_named word
none_signed word plus =
    sym (seed_when word false (false_from_ne_true _ (λ e. signed_is_none word plus (one_is word e).0.0)))
