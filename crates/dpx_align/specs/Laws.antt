-- What the definitions of faults, locks and sets obey, and that what is sent is received.
use Rattle.std.specs.Prelude.{◌≡◌, ℕ, ◌<◌, ◌≤◌, Bool, List, length, drop}
use Rattle.dpx_base.specs.Words.{SentWords, Sendable, words_of}
use Rattle.dpx_base.specs.declared.sym.Sym.{Sym}
use Rattle.dpx_lane.specs.Team.{joined}
use Rattle.dpx_align.specs.Aligner.{IsFirstFault}
use Rattle.dpx_align.specs.Faults.{FaultAt, Symbols, cut}
use Rattle.dpx_align.specs.Lock.{sr_group, SetOf, CompleteAt}
use Rattle.dpx_align.specs.declared.align_bad.AlignBad.{AlignBad}
use Rattle.dpx_align.specs.Search.{lengthened}
use Rattle.dpx_align.specs.Sent.{FirstGroup, Wide, Received}

-- Of the words of sets whose first SR begins a group: no word fault, the lock at that SR's clock on lane 0, and exactly
-- the sets from it on.
abbrev pub SentIsReceived : Type 0
SentIsReceived =
    (enhanced : Bool) (lanes : ℕ) (sets : List (List Sym)) (words : List (List ℕ)) (plain : List (List Sym))
    (g : FirstGroup enhanced lanes sets) → 0 < lanes → lanes ≤ 4 → Wide lanes sets → SentWords lanes sets words
    → Symbols words plain → Received enhanced words plain (length g.before) (drop (length g.before) sets)

abbrev pub SetsHaveWords : Type 0
SetsHaveWords =
    (lanes : ℕ) (sets : List (List Sym)) → Sendable sets → (words : List (List ℕ)) × SentWords lanes sets words

abbrev pub WordsHaveSymbols : Type 0
WordsHaveSymbols =
    (lanes : ℕ) (sets : List (List Sym)) (words : List (List ℕ)) → SentWords lanes sets words
    → (plain : List (List Sym)) × Symbols words plain

-- The first word fault and its reason are one.
abbrev pub FaultsAreOne : Type 0
FaultsAreOne =
    (words : List (List ℕ)) (one other : AlignBad) → IsFirstFault words one → IsFirstFault words other → one ≡ other

-- It stays, as clocks are added.
abbrev pub FaultStays : Type 0
FaultStays =
    (words rows : List (List ℕ)) (clocks : ℕ) (bad : AlignBad) → length rows ≡ length words
    → ((lane : ℕ) → lane < length words → length (words_of words lane) ≡ clocks) → IsFirstFault words bad
    → IsFirstFault (joined words rows) bad

-- Words have one list of symbols a lane.
abbrev pub SymbolsAreOne : Type 0
SymbolsAreOne =
    (words : List (List ℕ)) (one other : List (List Sym)) → Symbols words one → Symbols words other → one ≡ other

-- A number has one set.
abbrev pub SetsAreOne : Type 0
SetsAreOne =
    (enhanced : Bool) (plain : List (List Sym)) (s : ℕ) (one other : List Sym)
    → SetOf (sr_group enhanced) plain s one → SetOf (sr_group enhanced) plain s other → one ≡ other

-- A set stays, as clocks are added.
abbrev pub SetsStay : Type 0
SetsStay =
    (enhanced : Bool) (plain more : List (List Sym)) (s : ℕ) (set : List Sym) → SetOf (sr_group enhanced) plain s set
    → SetOf (sr_group enhanced) (lengthened plain more) s set

-- A set is complete at one clock.
abbrev pub CompletesOnce : Type 0
CompletesOnce =
    (enhanced : Bool) (plain : List (List Sym)) (s clock other : ℕ)
    → CompleteAt (sr_group enhanced) plain s clock → CompleteAt (sr_group enhanced) plain s other → clock ≡ other

-- A set of the clocks before a word fault is complete at a clock before the fault's.
abbrev pub SetsComeFirst : Type 0
SetsComeFirst =
    (enhanced : Bool) (words : List (List ℕ)) (clock lane : ℕ) (plain : List (List Sym)) (s : ℕ) (set : List Sym)
    → FaultAt words clock lane → Symbols (cut clock words) plain → SetOf (sr_group enhanced) plain s set
    → (own : ℕ) × CompleteAt (sr_group enhanced) plain s own × (own < clock)
