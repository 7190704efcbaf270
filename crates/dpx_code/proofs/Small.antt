-- No word is 1024 or more.
use Rattle.std.proofs.Common.{◌≡◌, ℕ, zero, suc, ◌<◌, Bool, true, false, nat_lt, not, ◌||◌, List, [], ◌∷◌, refl, subst}
use Rattle.std.proofs.Common.{arith, rules}
use Rattle.std.specs.Prelude.{slice_index_or}
use Rattle.std.proofs.lemmas.Bool.{ltb-true}
use Rattle.std.proofs.lemmas.Bool.Decides.{nat_tests}
use Rattle.dpx_base.specs.Code.{first_minus, first_plus, second_minus, second_plus, control_words}
use Rattle.dpx_base.specs.Code.{first_block, takes_a7, second_block, disparity_after, word_among, is_among, is_control}
use Rattle.dpx_base.specs.Code.{control_word, data_word, word_of, Codes, Coded}
use Rattle.dpx_base.specs.declared.sym.Sym.{Sym}
use Rattle.dpx_code.specs.Back.{all_below}
use Rattle.dpx_code.proofs.Columns.{all_below-at}

unfoldable fits_data : Bool → ℕ → Bool
fits_data plus byte = nat_lt (data_word byte plus) 1024

unfoldable fits_control : Bool → ℕ → Bool
fits_control plus byte = not (is_control byte) || nat_lt (control_word byte plus) 1024

all_data : (plus : Bool) → all_below 256 (fits_data plus) ≡ true
unfolding fits_data all_below data_word first_block first_minus first_plus second_block second_minus second_plus
    takes_a7 disparity_after lib.Count.ones
all_data true = refl
all_data false = refl

all_control : (plus : Bool) → all_below 256 (fits_control plus) ≡ true
unfolding fits_control all_below control_word is_control is_among word_among control_words
all_control true = refl
all_control false = refl

small_by : (control : Bool) (byte : ℕ) (plus : Bool) → byte < 256 → (not control || is_control byte) ≡ true
    → word_of control byte plus < 1024
unfolding word_of fits_data fits_control
small_by false byte plus l h =
    ltb-true (data_word byte plus) 1024 (all_below-at 256 byte (fits_data plus) (all_data plus) l)
small_by true byte plus l h =
    let t = all_below-at 256 byte (fits_control plus) (all_control plus) l in
    ltb-true (control_word byte plus) 1024 (grind (arith, nat_tests, t, h))

pub codes_small : (s : Sym) (plus next : Bool) (word : ℕ) → Codes s plus word next → word < 1024
codes_small s plus next word h =
    subst (λ (w : ℕ). w < 1024) h.1 (small_by s.control s.byte plus h.0.0 (search (rules, h.0.1)))

pub coded_small : (plus : Bool) (ss : List Sym) (ws : List ℕ) (end : Bool) (k : ℕ)
    → Coded plus ss ws end → slice_index_or ws k 0 < 1024
coded_small plus [] [] end k h = omega arith
coded_small plus [] (w ∷ ws) end k h = absurd h
coded_small plus (s ∷ ss) [] end k h = absurd h
coded_small plus (s ∷ ss) (w ∷ ws) end zero h = codes_small s plus h.0 w h.1
coded_small plus (s ∷ ss) (w ∷ ws) end (suc k) h = coded_small h.0 ss ws end k h.2
