-- What is known of a disparity behind one word more.
use Rattle.std.proofs.Common.{◌≡◌, ℕ, ◌<◌, inl, inr, Bool, true, false, if◌then◌else◌, List, [], ◌∷◌, ◌++◌}
use Rattle.std.proofs.Common.{refl, ap, MatchResult, Option, Some, None}
use Rattle.dpx_base.specs.Code.{next_disparity}
use Rattle.dpx_code.specs.Back.{stands}
use Rattle.dpx_code.specs.Decode.{decoded, read_as, candidate_of}
use Rattle.dpx_code.specs.Disparity.{rd_of}
use Rattle.dpx_code.specs.Track.{ends, EndsAs, Tracks, Stuck}
use Rattle.dpx_code.specs.declared.disparity.Rd.{Rd}
use Rattle.dpx_code.specs.declared.disparity.Rd.TheVariants.{Minus, Plus, Unknown}
use Rattle.dpx_code.proofs.Columns.{keeps_both}

abbrev pub go_on : ℕ → Option Bool → Option Bool
go_on word None = None
go_on word (Some plus) = if stands plus word then Some (next_disparity word plus) else None

pub ends_none : (words : List ℕ) → ends None words ≡ None
unfolding ends
ends_none words = refl

pub ends_nil : (from : Option Bool) → ends from [] ≡ from
unfolding ends
ends_nil None = refl
ends_nil (Some plus) = refl

pub ends_cons : (plus : Bool) (word : ℕ) (words : List ℕ)
    → ends (Some plus) (word ∷ words) ≡ ends (if stands plus word then Some (next_disparity word plus) else None) words
unfolding ends
ends_cons plus word words = refl

pub ends_more : (from : Option Bool) (words : List ℕ) (word : ℕ)
    → ends from (words ++ word ∷ []) ≡ go_on word (ends from words)
unfolding ends
ends_more None [] word = refl
ends_more None (v ∷ words) word = refl
ends_more (Some plus) [] word = ends_nil (go_on word (Some plus))
ends_more (Some plus) (v ∷ words) word = ends_more (go_on v (Some plus)) words word

known_left : (plus : Bool) → EndsAs (rd_of plus) (Some plus) None
known_left true = inl (refl, refl)
known_left false = inl (refl, refl)

known_right : (plus : Bool) → EndsAs (rd_of plus) None (Some plus)
known_right true = inr (refl, refl)
known_right false = inr (refl, refl)

-- what follows of a reading, for the two ends behind it
abbrev Follows : ℕ → Rd → (minus plus : Bool) → (from_minus from_plus : Option Bool) → Type 0
Follows word rd minus plus a b =
    MatchResult (read_as word rd minus plus)
    (λ read. (read.0 ≡ candidate_of word) × EndsAs read.1 a b)
    (λ bad. (a ≡ None) × (b ≡ None))

abbrev left_if : (word : ℕ) → (from test : Bool) → Option Bool
left_if word from test = if test then Some (next_disparity word from) else None

minus_left : (word : ℕ) (m p : Bool) → Follows word Minus m p (left_if word false m) None
minus_left word true p = (refl, known_left (next_disparity word false))
minus_left word false true = (refl, refl)
minus_left word false false = (refl, refl)

minus_right : (word : ℕ) (m p : Bool) → Follows word Minus m p None (left_if word false m)
minus_right word true p = (refl, known_right (next_disparity word false))
minus_right word false true = (refl, refl)
minus_right word false false = (refl, refl)

plus_left : (word : ℕ) (m p : Bool) → Follows word Plus m p (left_if word true p) None
plus_left word m true = (refl, known_left (next_disparity word true))
plus_left word true false = (refl, refl)
plus_left word false false = (refl, refl)

plus_right : (word : ℕ) (m p : Bool) → Follows word Plus m p None (left_if word true p)
plus_right word m true = (refl, known_right (next_disparity word true))
plus_right word true false = (refl, refl)
plus_right word false false = (refl, refl)

either : (word : ℕ) (m p : Bool)
    → (m ≡ true → p ≡ true → (next_disparity word false ≡ false) × (next_disparity word true ≡ true))
    → Follows word Unknown m p (left_if word false m) (left_if word true p)
either word true true k = let both = k refl refl in (refl, (ap Some both.0, ap Some both.1))
either word true false k = (refl, known_left (next_disparity word false))
either word false true k = (refl, known_right (next_disparity word true))
either word false false k = (refl, refl)

follows : (rd : Rd) (word : ℕ) (a b : Option Bool) → word < 1024 → EndsAs rd a b
    → Follows word rd (stands false word) (stands true word) (go_on word a) (go_on word b)
follows Minus word a b l (inl h) = rw (h.0, h.1) (minus_left word (stands false word) (stands true word))
follows Minus word a b l (inr h) = rw (h.0, h.1) (minus_right word (stands false word) (stands true word))
follows Plus word a b l (inl h) = rw (h.0, h.1) (plus_left word (stands false word) (stands true word))
follows Plus word a b l (inr h) = rw (h.0, h.1) (plus_right word (stands false word) (stands true word))
follows Unknown word a b l h = rw (h.0, h.1) (either word (stands false word) (stands true word) (keeps_both word l))

-- a word that is read leaves what is then known; one that is not read ends all lists
pub tracked : (rd : Rd) (words : List ℕ) (word : ℕ) → word < 1024 → Tracks rd words
    → MatchResult (decoded word rd)
    (λ read. (read.0 ≡ candidate_of word) × Tracks read.1 (words ++ word ∷ []))
    (λ bad. Stuck (words ++ word ∷ []))
tracked rd words word l h =
    rw (ends_more (Some false) words word, ends_more (Some true) words word)
    (follows rd word (ends (Some false) words) (ends (Some true) words) l h)
