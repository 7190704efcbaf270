-- The parts that an AUX history is made of: this project's own. A part relates what a call gives to the entries that
-- it adds to the history. `do` puts parts one behind the other; the first error is the result, and nothing follows it.
use Rattle.std.specs.Prelude.{◌≡◌, ◌≤◌, ℕ, length, Bool, true, false, List, [], ◌∷◌, ◌++◌, Result, Ok, Err, MatchResult}
use Rattle.std.specs.Prelude.{⊤}
use Rattle.dpx_base.specs.declared.aux_port.Answer.{Answer}
use Rattle.dpx_base.specs.declared.aux_port.Entry.{Entry}
use Rattle.dpx_base.specs.declared.aux_port.Entry.TheVariants.{Waited}
use Rattle.dpx_base.specs.Port.{PortState, Added, answers_in}

-- a call did this part with its port, whether or not the port tells the entries
pub record Converses {Plan R : Type 0} (part : R → List Entry → Type 0) (before now : PortState Plan) (given : R)
    : Type 0 where
  pub entries : List Entry
  pub added : Added entries before now
  pub done : part given entries

-- nothing is asked, and this is given
pub record Ends {R : Type 0} (value given : R) (history : List Entry) : Type 0 where
  pub same : given ≡ value
  pub nothing : history ≡ []

-- a wait of so many microseconds
pub record Waits {E : Type 0} (micros : ℕ) (given : Result ⊤ E) (history : List Entry) : Type 0 where
  pub done : given ≡ Ok tt
  pub waited : history ≡ Waited micros ∷ []

-- one part, and behind it the next, which may depend on what the first gave
pub record Then {A B E : Type 0} (first : Result A E → List Entry → Type 0)
    (next : A → Result B E → List Entry → Type 0) (given : Result B E) (history : List Entry) : Type 0 where
  pub middle : Result A E
  pub front : List Entry
  pub back : List Entry
  pub joined : history ≡ front ++ back
  pub begins : first middle front
  pub goes_on : MatchResult middle (λ value. next value given back) (λ error. (given ≡ Err error) × (back ≡ []))

-- no conversation at all
pub record Never {R : Type 0} (given : R) (history : List Entry) : Type 0 where
  pub never : ⊥

infixl 10 ◌>>=◌
abbrev pub ◌>>=◌ : {A B E : Type 0} → (Result A E → List Entry → Type 0) → (A → Result B E → List Entry → Type 0)
    → Result B E → List Entry → Type 0
first >>= next = Then first next

-- one part where the test holds, else another
pub record Choice {R : Type 0} (test : Bool) (yes no : R → List Entry → Type 0) (given : R) (history : List Entry)
    : Type 0 where
  pub if_true : test ≡ true → yes given history
  pub if_false : test ≡ false → no given history

-- Of two histories of the part whose answers begin alike, entries and results are the same: the answers decide.
abbrev pub IsDecided : {R : Type 0} → (R → List Entry → Type 0) → Type 0
IsDecided {R} part =
    (r s : R) (xs ys : List Entry) (later after : List Answer) → part r xs → part s ys
    → answers_in xs ++ later ≡ answers_in ys ++ after → (xs ≡ ys) × (r ≡ s)

-- a front of these answers is the answers of a history of the part, at most so many
pub record HasFront {R : Type 0} (most : ℕ) (part : R → List Entry → Type 0) (answers : List Answer) : Type 0 where
  pub given : R
  pub history : List Entry
  pub rest : List Answer
  pub done : part given history
  pub begins : answers ≡ answers_in history ++ rest
  pub few : length (answers_in history) ≤ most

-- So many answers suffice, whatever they are: some front of them is the answers of a history.
abbrev pub Suffices : {R : Type 0} → ℕ → (R → List Entry → Type 0) → Type 0
Suffices most part = (answers : List Answer) → most ≤ length answers → HasFront most part answers

-- whatever this part gives and whatever its history, the two are related so
abbrev pub AlwaysIs : {R : Type 0} → (R → List Entry → Type 0) → (R → List Entry → Type 0) → Type 0
AlwaysIs {R} part Is = (given : R) (history : List Entry) → part given history → Is given history

-- whatever this part gives, its history has this property
abbrev pub HistoriesAre : {R : Type 0} → (R → List Entry → Type 0) → (List Entry → Type 0) → Type 0
HistoriesAre {R} part Is = (given : R) (history : List Entry) → part given history → Is history

-- whatever the history of this part, what it gives has this property
abbrev pub ResultsAre : {R : Type 0} → (R → List Entry → Type 0) → (R → Type 0) → Type 0
ResultsAre {R} part Is = (given : R) (history : List Entry) → part given history → Is given
