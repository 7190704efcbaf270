-- Each word tells its symbol: a word stands in a column exactly where its candidate does.
use Rattle.std.proofs.Common.{◌≡◌, ℕ, zero, suc, ◌<◌, ◌-◌, Bool, true, false, cond, ◌&&◌, ◌||◌, ◌==◌, nat_lt, not, List}
use Rattle.std.proofs.Common.{◌∷◌, []}
use Rattle.std.proofs.Common.{refl, subst, arith, rules, below_more}
use Rattle.std.specs.Bool.{Decides}
use Rattle.std.proofs.lemmas.Bool.{and_parts, or_left, or_right, ltb-true, eqb-true, eq-eqb}
use Rattle.std.proofs.lemmas.Bool.Decides.{nat_tests}
use Rattle.dpx_base.specs.Code.{first_minus, first_plus, second_minus, second_plus, control_words}
use Rattle.dpx_base.specs.Code.{first_block, takes_a7, second_block, disparity_after, word_among, is_among, is_control}
use Rattle.dpx_base.specs.Code.{control_word, data_word, word_of, next_disparity, Codes, StandsIn}
use Rattle.dpx_base.specs.declared.sym.Sym.{Sym}
use Rattle.dpx_code.specs.Back.{x_of, y_of, control_among, control_of, data_of, is_candidate_control, candidate_byte}
use Rattle.dpx_code.specs.Back.{stands, all_below, tells_data, tells_control}
use Rattle.dpx_code.specs.Decode.{candidate_of}

all_data : (plus : Bool) → all_below 256 (tells_data plus) ≡ true
unfolding tells_data all_below data_word first_block first_minus first_plus second_block second_minus second_plus
    takes_a7 disparity_after data_of x_of y_of control_of control_among control_words is_candidate_control lib.Count.ones
all_data false = refl
all_data true = refl

all_control : (plus : Bool) → all_below 256 (tells_control plus) ≡ true
unfolding tells_control all_below control_word word_among control_words is_control is_among
    control_of control_among is_candidate_control
all_control false = refl
all_control true = refl

-- what holds of all numbers below n holds of each
pub all_below-at : (n k : ℕ) (f : ℕ → Bool) → all_below n f ≡ true → k < n → f k ≡ true
unfolding all_below
all_below-at zero k f h l = absurd (omega arith)
all_below-at (suc n) k f h l =
    let parts = and_parts (f n) (all_below n f) h in
    below_more (λ i. f i ≡ true) n (λ i less. all_below-at n i f parts.1 less) parts.0 k (omega arith)

candidate_word : (control : Bool) (byte : ℕ) (plus : Bool) → byte < 256 → (not control || is_control byte) ≡ true
    → (is_candidate_control (word_of control byte plus) ≡ control) × (candidate_byte (word_of control byte plus) ≡ byte)
unfolding tells_data tells_control word_of candidate_byte
candidate_word false byte plus l h =
    let t = all_below-at 256 byte (tells_data plus) (all_data plus) l in grind (arith, nat_tests, t)
candidate_word true byte plus l h =
    let t = all_below-at 256 byte (tells_control plus) (all_control plus) l in grind (arith, nat_tests, t)

same_symbol : (c d : Bool) (a b : ℕ) → c ≡ d → a ≡ b
    → ◌≡◌ {A = Sym} (record { control = c; byte = a }) (record { control = d; byte = b })
same_symbol c d a b h k = cc

-- the control bit and the byte of the symbol that has a word
word_tells : (s : Sym) (plus next : Bool) (word : ℕ) → Codes s plus word next
    → (is_candidate_control word ≡ s.control) × (candidate_byte word ≡ s.byte)
word_tells s plus next word h =
    let t = candidate_word s.control s.byte plus h.0.0 (search (rules, h.0.1)) in (
      subst (λ (w : ℕ). is_candidate_control w ≡ s.control) h.1 t.0,
      subst (λ (w : ℕ). candidate_byte w ≡ s.byte) h.1 t.1,
    )

-- a word that a symbol has is read as that symbol
pub reads_symbol : (s : Sym) (plus next : Bool) (word : ℕ) → Codes s plus word next → candidate_of word ≡ s
reads_symbol s plus next word h =
    let t = word_tells s plus next word h in
    same_symbol (is_candidate_control word) s.control (candidate_byte word) s.byte t.0 t.1

pub stands_there : (s : Sym) (plus next : Bool) (word : ℕ) → Codes s plus word next → stands plus word ≡ true
unfolding stands
stands_there s plus next word h =
    let t = word_tells s plus next word h in rw (t.0, t.1) (grind (arith, nat_tests, h.1, h.0.0))

-- a control byte that a word tells is one of the nine
among_back_by : (word byte code : ℕ) (rest : List (ℕ × ℕ)) (t : Bool)
    → (0 < control_among word rest → is_among (control_among word rest) rest ≡ true)
    → 0 < cond t byte (control_among word rest)
    → ((cond t byte (control_among word rest) == byte) || is_among (cond t byte (control_among word rest)) rest) ≡ true
among_back_by word byte code rest true h l = or_left (byte == byte) (is_among byte rest) (eq-eqb byte byte refl)
among_back_by word byte code rest false h l =
    or_right (control_among word rest == byte) (is_among (control_among word rest) rest) (h l)

among_back : (word : ℕ) (entries : List (ℕ × ℕ))
    → 0 < control_among word entries → is_among (control_among word entries) entries ≡ true
unfolding control_among is_among
among_back word [] l = absurd (omega arith)
among_back word (p ∷ ps) l =
    among_back_by word p.0 p.1 ps ((word == p.1) || (word == 1023 - p.1)) (among_back word ps) l

control_back : (word : ℕ) → 0 < control_of word → is_control (control_of word) ≡ true
unfolding control_of is_control
control_back word l = among_back word control_words l

symbol_by : (word byte : ℕ) (c : Bool) → is_candidate_control word ≡ c
    → (not c || is_control (cond c (control_of word) byte)) ≡ true
unfolding is_candidate_control
symbol_by word byte false e = refl
symbol_by word byte true e = control_back word (ltb-true 0 (control_of word) e)

candidate_symbol : (word : ℕ) → (not (is_candidate_control word) || is_control (candidate_byte word)) ≡ true
unfolding candidate_byte
candidate_symbol word = symbol_by word (data_of word) (is_candidate_control word) refl

stands_parts : (plus : Bool) (word : ℕ) → stands plus word ≡ true
    → (candidate_byte word < 256) × (word_of (is_candidate_control word) (candidate_byte word) plus ≡ word)
unfolding stands
stands_parts plus word h =
    let coded = word_of (is_candidate_control word) (candidate_byte word) plus in
    let t = and_parts (nat_lt (candidate_byte word) 256) (coded == word) h in
    (ltb-true (candidate_byte word) 256 t.0, eqb-true coded word t.1)

-- a word that stands in a column is that of its candidate
pub stands_codes : (plus : Bool) (word : ℕ) → stands plus word ≡ true
    → Codes (candidate_of word) plus word (next_disparity word plus)
stands_codes plus word h =
    let t = stands_parts plus word h in ((t.0, candidate_symbol word), t.1, refl)

pub stands_is : (plus : Bool) (word : ℕ) → Decides (stands plus word) (StandsIn plus word)
stands_is plus word = (
  λ h. record {
    symbol = candidate_of word;
    next = next_disparity word plus;
    codes = stands_codes plus word h;
  },
  λ s. stands_there s.symbol plus s.next word s.codes,
)

-- a word in both columns keeps either disparity
unfoldable keeps : ℕ → Bool
keeps word =
    not (stands false word && stands true word) || (not (next_disparity word false) && next_disparity word true)

all_keep : all_below 1024 keeps ≡ true
unfolding keeps all_below stands next_disparity first_minus first_plus second_minus second_plus control_words
    first_block takes_a7 second_block disparity_after word_among is_among is_control control_word data_word word_of
    x_of y_of control_among control_of data_of is_candidate_control candidate_byte lib.Count.ones
all_keep = refl

pub keeps_both : (word : ℕ) → word < 1024 → stands false word ≡ true → stands true word ≡ true
    → (next_disparity word false ≡ false) × (next_disparity word true ≡ true)
unfolding keeps
keeps_both word l h k =
    let t = all_below-at 1024 word keeps all_keep l in grind (arith, nat_tests, t, h, k)
