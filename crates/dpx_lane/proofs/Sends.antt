-- A lane on the way out goes on.
use Rattle.std.proofs.Common.{◌≡◌, ℕ, ◌<◌, ◌≤◌, ◌+◌, ◌-◌, Bool, false, IsTrue, List, [], ◌∷◌, ◌++◌, length, map, get_or}
use Rattle.std.proofs.Common.{replicate}
use Rattle.std.proofs.Common.{refl, sym, ap, subst, ◌∙◌, arith, append_assoc, append-nil, length-append, ⊎_elim}
use Rattle.std.specs.Prelude.{slice_index}
use Rattle.std.proofs.lemmas.Bool.{cases_lt}
use Rattle.std.proofs.lemmas.List.{map_push, get_or_append_left, get_or-append-add}
use Rattle.dpx_base.specs.Code.{Codes, Coded}
use Rattle.dpx_base.specs.Key.{Keyed, since_reset, scrambled}
use Rattle.dpx_base.specs.declared.sym.Sym.{Sym}
use Rattle.dpx_code.proofs.Lists.{coded_more}
use Rattle.dpx_lane.specs.Codes.{symbol_of, is_code, AllCodes}
use Rattle.dpx_lane.specs.Scrambling.{HasTaken}
use Rattle.dpx_lane.specs.Sending.{HasCoded, HasSent}
use Rattle.dpx_lane.specs.declared.coder.Coder.{Coder}
use Rattle.dpx_lane.specs.declared.lane_tx.LaneTx.{LaneTx}
use Rattle.dpx_lane.proofs.Keyeds.{keyed_more}

-- one code more, with the word of its symbol under the key
pub coded_code : (old new : Coder) (code word : ℕ) (keyed : Sym) (codes words : List ℕ) → HasCoded old codes words
    → HasTaken new.scrambler (map symbol_of codes ++ symbol_of code ∷ [])
    → keyed ≡ scrambled (since_reset (map symbol_of codes)) (symbol_of code)
    → Codes keyed old.plus word new.plus
    → HasCoded new (codes ++ code ∷ []) (words ++ word ∷ [])
coded_code old new code word keyed codes words h taken key c =
    let symbols = map symbol_of codes in
    let more : map symbol_of (codes ++ code ∷ []) ≡ symbols ++ symbol_of code ∷ [] = map_push symbol_of codes code in
    let last = scrambled (since_reset symbols) (symbol_of code) in
    record {
      keyed = h.keyed ++ last ∷ [];
      key = subst (λ xs. Keyed xs (h.keyed ++ last ∷ [])) (sym more)
          (keyed_more symbols h.keyed (symbol_of code) h.key);
      code =
          coded_more false h.keyed words old.plus last word new.plus h.code
          (subst (λ s. Codes s old.plus word new.plus) key c);
      taken = subst (λ xs. HasTaken new.scrambler xs) (sym more) taken;
    }

-- codes one after another, and the parts of such
pub codes_join : (xs ys : List ℕ) → AllCodes xs → AllCodes ys → AllCodes (xs ++ ys)
codes_join xs ys h k i l = ⊎_elim
    (λ (a : i < length xs). subst (λ c. IsTrue (is_code c)) (sym (get_or_append_left xs ys 0 i a)) (h i a))
    (λ (a : length xs ≤ i).
    let j = i - length xs in
    let e : i ≡ length xs + j = omega (arith, a) in
    let there = ap (λ n. get_or (xs ++ ys) n 0) e ∙ get_or-append-add xs ys j 0 in
    subst (λ c. IsTrue (is_code c)) (sym there) (k j (omega (arith, a, l, length-append xs ys))))
    (cases_lt i (length xs))

pub codes_left : (xs ys all : List ℕ) → xs ++ ys ≡ all → AllCodes all → AllCodes xs
codes_left xs ys all e h i l =
    let there = sym (get_or_append_left xs ys 0 i l) ∙ ap (λ zs. get_or zs i 0) e in
    subst (λ c. IsTrue (is_code c)) (sym there) (h i (omega (arith, l, length-append xs ys, ap length e)))

pub codes_right : (xs ys all : List ℕ) → xs ++ ys ≡ all → AllCodes all → AllCodes ys
codes_right xs ys all e h i l =
    let there = sym (get_or-append-add xs ys i 0) ∙ ap (λ zs. get_or zs (length xs + i) 0) e in
    subst (λ c. IsTrue (is_code c)) (sym there) (h (length xs + i) (omega (arith, l, length-append xs ys, ap length e)))

-- a row more: what waited goes out first
pub sent_row : (old new : LaneTx) (row delayed out : List ℕ) → delayed ++ new.waiting.items ≡ old.waiting.items ++ row
    → length delayed ≡ length row
    → ((codes words : List ℕ) → HasCoded old.coder codes words → HasCoded new.coder (codes ++ delayed) (words ++ out))
    → (lag : ℕ) (codes words : List ℕ) → HasSent old lag codes words → HasSent new lag (codes ++ row) (words ++ out)
sent_row old new row delayed out shifted long coded lag codes words h =
    let fills : List ℕ = replicate lag 0 in
    record {
      sent = h.sent ++ delayed;
      parts =
          sym (append_assoc fills codes row)
          ∙ (ap (λ xs. xs ++ row) h.parts
          ∙ (append_assoc h.sent old.waiting.items row
          ∙ (ap (λ xs. h.sent ++ xs) (sym shifted)
          ∙ sym (append_assoc h.sent delayed new.waiting.items))));
      size = omega (arith, h.size, long, length-append h.sent delayed, length-append codes row);
      coded = coded h.sent words h.coded;
    }
