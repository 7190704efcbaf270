-- What a reading says of the columns, by whether the word stands at minus and at plus.
use Rattle.std.proofs.Common.{◌≡◌, ◌↔◌, ◌⊎◌, inl, inr, ℕ, Bool, true, false, refl, ap, subst}
use Rattle.std.specs.Prelude.{Result, Ok, Err, IsOk, IfOk, IfErr}
use Rattle.std.specs.Bool.{Decides}
use Rattle.std.proofs.lemmas.Bool.Decides.{not_from_Decides}
use Rattle.dpx_base.specs.Code.{Codes, StandsIn, next_disparity}
use Rattle.dpx_base.specs.declared.sym.Sym.{Sym}
use Rattle.dpx_code.specs.Back.{stands}
use Rattle.dpx_code.specs.Decode.{candidate_of, read_as, decoded, StandsAllowed, StandsElsewhere}
use Rattle.dpx_code.specs.Disparity.{rd_of, Allows}
use Rattle.dpx_code.specs.declared.decoding.CodeBad.{CodeBad}
use Rattle.dpx_code.specs.declared.decoding.CodeBad.TheVariants.{NotAWord, WrongColumn}
use Rattle.dpx_code.specs.declared.disparity.Rd.{Rd}
use Rattle.dpx_code.specs.declared.disparity.Rd.TheVariants.{Minus, Plus, Unknown}
use Rattle.dpx_code.proofs.Columns.{reads_symbol, stands_there, stands_is}

-- the two tests tell in which columns the word stands
abbrev Told : (word : ℕ) → (minus plus : Bool) → Type 0
Told word minus plus = Decides minus (StandsIn false word) × Decides plus (StandsIn true word)

-- a test that failed
lacks : (P : Type 0) → Decides false P → P → ⊥
lacks P d = not_from_Decides false d refl

in_neither : (word : ℕ) → Told word false false → (plus : Bool) → StandsIn plus word → ⊥
in_neither word t false = lacks (StandsIn false word) t.0
in_neither word t true = lacks (StandsIn true word) t.1

-- no column but that of one disparity
only_plus : (word : ℕ) (p : Bool) → Told word false p → (plus : Bool) → plus ≡ false → StandsIn plus word → ⊥
only_plus word p t plus e s = lacks (StandsIn false word) t.0 (subst (λ c. StandsIn c word) e s)

only_minus : (word : ℕ) (m : Bool) → Told word m false → (plus : Bool) → plus ≡ true → StandsIn plus word → ⊥
only_minus word m t plus e s = lacks (StandsIn true word) t.1 (subst (λ c. StandsIn c word) e s)

-- the word stands in a column of those that a disparity allows
at_minus : (rd : Rd) (word : ℕ) (p : Bool) → Allows rd false → Told word true p → StandsAllowed rd word
at_minus rd word p a t = record { plus = false; allowed = a; stands = t.0.0 refl }

at_plus : (rd : Rd) (word : ℕ) (m : Bool) → Allows rd true → Told word m true → StandsAllowed rd word
at_plus rd word m a t = record { plus = true; allowed = a; stands = t.1.0 refl }

pub ok_by : (rd : Rd) (word : ℕ) (m p : Bool) → Told word m p → IsOk (read_as word rd m p) ↔ StandsAllowed rd word
ok_by Minus word true p t = (λ h. at_minus Minus word p refl t, λ s. refl)
ok_by Minus word false true t = (λ h. absurd cc, λ s. absurd (only_plus word true t s.plus s.allowed s.stands))
ok_by Minus word false false t = (λ h. absurd cc, λ s. absurd (in_neither word t s.plus s.stands))
ok_by Plus word m true t = (λ h. at_plus Plus word m refl t, λ s. refl)
ok_by Plus word true false t = (λ h. absurd cc, λ s. absurd (only_minus word true t s.plus s.allowed s.stands))
ok_by Plus word false false t = (λ h. absurd cc, λ s. absurd (in_neither word t s.plus s.stands))
ok_by Unknown word true true t = (λ h. at_minus Unknown word true tt t, λ s. refl)
ok_by Unknown word true false t = (λ h. at_minus Unknown word false tt t, λ s. refl)
ok_by Unknown word false true t = (λ h. at_plus Unknown word false tt t, λ s. refl)
ok_by Unknown word false false t = (λ h. absurd cc, λ s. absurd (in_neither word t s.plus s.stands))

-- some column has the word
some_minus : (word : ℕ) (p : Bool) → Told word true p → ((plus : Bool) → StandsIn plus word → ⊥) → ⊥
some_minus word p t none = none false (t.0.0 refl)

some_plus : (word : ℕ) (m : Bool) → Told word m true → ((plus : Bool) → StandsIn plus word → ⊥) → ⊥
some_plus word m t none = none true (t.1.0 refl)

pub not_a_word_by : (rd : Rd) (word : ℕ) (m p : Bool) → Told word m p
    → (read_as word rd m p ≡ Err (NotAWord word)) ↔ ((plus : Bool) → StandsIn plus word → ⊥)
not_a_word_by Minus word true p t = (λ h. absurd cc, λ none. absurd (some_minus word p t none))
not_a_word_by Minus word false true t = (λ h. absurd cc, λ none. absurd (some_plus word false t none))
not_a_word_by Minus word false false t = (λ h. in_neither word t, λ none. refl)
not_a_word_by Plus word m true t = (λ h. absurd cc, λ none. absurd (some_plus word m t none))
not_a_word_by Plus word true false t = (λ h. absurd cc, λ none. absurd (some_minus word false t none))
not_a_word_by Plus word false false t = (λ h. in_neither word t, λ none. refl)
not_a_word_by Unknown word true true t = (λ h. absurd cc, λ none. absurd (some_minus word true t none))
not_a_word_by Unknown word true false t = (λ h. absurd cc, λ none. absurd (some_minus word false t none))
not_a_word_by Unknown word false true t = (λ h. absurd cc, λ none. absurd (some_plus word false t none))
not_a_word_by Unknown word false false t = (λ h. in_neither word t, λ none. refl)

-- the word stands where the disparity allows it, so it stands nowhere else alone
not_elsewhere : (rd : Rd) (word : ℕ) → StandsAllowed rd word → StandsElsewhere rd word → ⊥
not_elsewhere rd word s e = e.not_here s.plus s.allowed s.stands

pub wrong_column_by : (rd : Rd) (word : ℕ) (m p : Bool) → Told word m p
    → (read_as word rd m p ≡ Err (WrongColumn word rd)) ↔ StandsElsewhere rd word
wrong_column_by Minus word true p t = (
  λ h. absurd cc,
  λ e. absurd (not_elsewhere Minus word (at_minus Minus word p refl t) e),
)
wrong_column_by Minus word false true t =
    (λ h. record { plus = true; stands = t.1.0 refl; not_here = only_plus word true t }, λ e. refl)
wrong_column_by Minus word false false t = (λ h. absurd cc, λ e. absurd (in_neither word t e.plus e.stands))
wrong_column_by Plus word m true t = (
  λ h. absurd cc,
  λ e. absurd (not_elsewhere Plus word (at_plus Plus word m refl t) e),
)
wrong_column_by Plus word true false t =
    (λ h. record { plus = false; stands = t.0.0 refl; not_here = only_minus word true t }, λ e. refl)
wrong_column_by Plus word false false t = (λ h. absurd cc, λ e. absurd (in_neither word t e.plus e.stands))
wrong_column_by Unknown word true true t =
    (λ h. absurd cc, λ e. absurd (not_elsewhere Unknown word (at_minus Unknown word true tt t) e))
wrong_column_by Unknown word true false t =
    (λ h. absurd cc, λ e. absurd (not_elsewhere Unknown word (at_minus Unknown word false tt t) e))
wrong_column_by Unknown word false true t =
    (λ h. absurd cc, λ e. absurd (not_elsewhere Unknown word (at_plus Unknown word false tt t) e))
wrong_column_by Unknown word false false t = (λ h. absurd cc, λ e. absurd (in_neither word t e.plus e.stands))

-- a disparity that a word leaves is known
known : (plus : Bool) → rd_of plus ≡ Unknown → ⊥
known false h = cc
known true h = cc

-- the reading's next disparity is known, since not both columns are allowed and have the word
abbrev StaysUnknown : Rd → (word : ℕ) → Rd → Type 0
StaysUnknown rd word next = (next ≡ Unknown) ↔ ((rd ≡ Unknown) × StandsIn false word × StandsIn true word)

pub unknown_by : (rd : Rd) (word : ℕ) (m p : Bool) → Told word m p
    → IfOk (read_as word rd m p) (λ read. StaysUnknown rd word read.1)
unknown_by Minus word true p t = (λ h. absurd (known (next_disparity word false) h), λ h. absurd (let e = h.0 in cc))
unknown_by Minus word false true t = tt
unknown_by Minus word false false t = tt
unknown_by Plus word m true t = (λ h. absurd (known (next_disparity word true) h), λ h. absurd (let e = h.0 in cc))
unknown_by Plus word true false t = tt
unknown_by Plus word false false t = tt
unknown_by Unknown word true true t = (λ h. (refl, t.0.0 refl, t.1.0 refl), λ h. refl)
unknown_by Unknown word true false t =
    (λ h. absurd (known (next_disparity word false) h), λ h. absurd (lacks (StandsIn true word) t.1 h.2))
unknown_by Unknown word false true t =
    (λ h. absurd (known (next_disparity word true) h), λ h. absurd (lacks (StandsIn false word) t.0 h.1))
unknown_by Unknown word false false t = tt

-- a symbol in an allowed column, and what the reading is then
abbrev Read : (word : ℕ) → (symbol : Sym) → (next : Bool) → Result (Sym × Rd) CodeBad → Type 0
Read word symbol next result = IfOk result (λ read. (read.0 ≡ symbol) × ((read.1 ≡ rd_of next) ⊎ (read.1 ≡ Unknown)))

read_minus : (rd : Rd) (word : ℕ) (m p : Bool) (s : Sym) (next : Bool) → Allows rd false → m ≡ true
    → candidate_of word ≡ s → next_disparity word false ≡ next → Read word s next (read_as word rd m p)
read_minus Minus word true p s next a there e n = (e, inl (ap rd_of n))
read_minus Minus word false p s next a there e n = absurd cc
read_minus Plus word m p s next a there e n = absurd cc
read_minus Unknown word true true s next a there e n = (e, inr refl)
read_minus Unknown word true false s next a there e n = (e, inl (ap rd_of n))
read_minus Unknown word false p s next a there e n = absurd cc

read_plus : (rd : Rd) (word : ℕ) (m p : Bool) (s : Sym) (next : Bool) → Allows rd true → p ≡ true
    → candidate_of word ≡ s → next_disparity word true ≡ next → Read word s next (read_as word rd m p)
read_plus Minus word m p s next a there e n = absurd cc
read_plus Plus word m true s next a there e n = (e, inl (ap rd_of n))
read_plus Plus word m false s next a there e n = absurd cc
read_plus Unknown word true true s next a there e n = (e, inr refl)
read_plus Unknown word false true s next a there e n = (e, inl (ap rd_of n))
read_plus Unknown word m false s next a there e n = absurd cc

pub read_by : (rd : Rd) (word : ℕ) (s : Sym) (plus next : Bool) → Allows rd plus → Codes s plus word next
    → Read word s next (decoded word rd)
read_by rd word s false next a h =
    read_minus rd word (stands false word) (stands true word) s next a
    (stands_there s false next word h) (reads_symbol s false next word h) h.2
read_by rd word s true next a h =
    read_plus rd word (stands false word) (stands true word) s next a
    (stands_there s true next word h) (reads_symbol s true next word h) h.2

told : (word : ℕ) → Told word (stands false word) (stands true word)
told word = (stands_is false word, stands_is true word)

-- what a reading says, of a result that is one
pub reads_ok : (word : ℕ) (rd : Rd) (result : Result (Sym × Rd) CodeBad) → result ≡ decoded word rd
    → IsOk result ↔ StandsAllowed rd word
reads_ok word rd result e = rw e (ok_by rd word (stands false word) (stands true word) (told word))

pub reads_not_a_word : (word : ℕ) (rd : Rd) (result : Result (Sym × Rd) CodeBad) → result ≡ decoded word rd
    → (result ≡ Err (NotAWord word)) ↔ ((plus : Bool) → StandsIn plus word → ⊥)
reads_not_a_word word rd result e = rw e (not_a_word_by rd word (stands false word) (stands true word) (told word))

pub reads_wrong_column : (word : ℕ) (rd : Rd) (result : Result (Sym × Rd) CodeBad) → result ≡ decoded word rd
    → (result ≡ Err (WrongColumn word rd)) ↔ StandsElsewhere rd word
reads_wrong_column word rd result e =
    rw e (wrong_column_by rd word (stands false word) (stands true word) (told word))

pub reads_unknown : (word : ℕ) (rd : Rd) (result : Result (Sym × Rd) CodeBad) → result ≡ decoded word rd
    → IfOk result (λ read. StaysUnknown rd word read.1)
reads_unknown word rd result e = rw e (unknown_by rd word (stands false word) (stands true word) (told word))

first_of : (word : ℕ) (s : Sym) (next : Bool) (result : Result (Sym × Rd) CodeBad) → Read word s next result
    → IfOk result (λ read. read.0 ≡ s)
first_of word s next (Ok read) h = h.0
first_of word s next (Err bad) h = tt

second_of : (word : ℕ) (s : Sym) (next : Bool) (result : Result (Sym × Rd) CodeBad) → Read word s next result
    → IfOk result (λ read. (read.1 ≡ rd_of next) ⊎ (read.1 ≡ Unknown))
second_of word s next (Ok read) h = h.1
second_of word s next (Err bad) h = tt

pub reads_its_symbol : (word : ℕ) (rd : Rd) (result : Result (Sym × Rd) CodeBad) → result ≡ decoded word rd
    → (s : Sym) (plus next : Bool) → Allows rd plus → Codes s plus word next → IfOk result (λ read. read.0 ≡ s)
reads_its_symbol word rd result e s plus next a h =
    rw e (first_of word s next (decoded word rd) (read_by rd word s plus next a h))

pub reads_next : (word : ℕ) (rd : Rd) (result : Result (Sym × Rd) CodeBad) → result ≡ decoded word rd
    → (s : Sym) (plus next : Bool) → Allows rd plus → Codes s plus word next
    → IfOk result (λ read. (read.1 ≡ rd_of next) ⊎ (read.1 ≡ Unknown))
reads_next word rd result e s plus next a h =
    rw e (second_of word s next (decoded word rd) (read_by rd word s plus next a h))

-- a refusal names the word, and the disparity where that is to blame
abbrev Refused : (word : ℕ) → Rd → CodeBad → Type 0
Refused word rd bad = (bad ≡ NotAWord word) ⊎ (bad ≡ WrongColumn word rd)

refusal_by : (rd : Rd) (word : ℕ) (m p : Bool) → IfErr (read_as word rd m p) (Refused word rd)
refusal_by Minus word true p = tt
refusal_by Minus word false true = inr refl
refusal_by Minus word false false = inl refl
refusal_by Plus word m true = tt
refusal_by Plus word true false = inr refl
refusal_by Plus word false false = inl refl
refusal_by Unknown word true true = tt
refusal_by Unknown word true false = tt
refusal_by Unknown word false true = tt
refusal_by Unknown word false false = inl refl

pub reads_refusal : (word : ℕ) (rd : Rd) (result : Result (Sym × Rd) CodeBad) → result ≡ decoded word rd
    → IfErr result (λ bad. (bad ≡ NotAWord word) ⊎ (bad ≡ WrongColumn word rd))
reads_refusal word rd result e = rw e (refusal_by rd word (stands false word) (stands true word))
