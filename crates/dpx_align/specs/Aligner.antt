-- What an aligner stands for, and answers.
use Rattle.std.specs.Prelude.{◌≡◌, ℕ, ◌<◌, ◌+◌, ◌-◌, Bool, List, length, take, slice_index_or}
use Rattle.std.specs.Prelude.{Option, Some, None, Result, Ok, Err}
use Rattle.dpx_base.specs.Lanes.{lanes_count}
use Rattle.dpx_base.specs.Words.{words_of}
use Rattle.dpx_base.specs.declared.lanes.Lanes.{Lanes}
use Rattle.dpx_base.specs.declared.place.Place.{Place}
use Rattle.dpx_base.specs.declared.sym.Sym.{Sym}
use Rattle.dpx_code.specs.declared.decoding.CodeBad.TheVariants as Code
use Rattle.dpx_code.specs.declared.disparity.Rd.{Rd}
use Rattle.dpx_lane.specs.Reading.{IsReason}
use Rattle.dpx_lane.specs.Team.{TeamRead}
use Rattle.dpx_lane.specs.declared.lane_fault.WordBad.TheVariants as Why
use Rattle.dpx_align.specs.Deskew.{HasTaken, IsRested as HasRoom}
use Rattle.dpx_align.specs.Faults.{FaultAt, NoFault, Symbols, cut}
use Rattle.dpx_align.specs.Lock.{sr_group, IsLock, SetOf}
use Rattle.dpx_align.specs.declared.align_bad.AlignBad.{AlignBad}
use Rattle.dpx_align.specs.declared.align_bad.AlignBad.TheVariants.{BadWord, NotAWord, WrongColumn}
use Rattle.dpx_align.specs.declared.aligner.Aligner.{Aligner}
use Rattle.dpx_align.specs.declared.step.NoLock.{NoLock}
use Rattle.dpx_align.specs.declared.step.Step.{Step}
use Rattle.dpx_align.specs.declared.step.Step.TheVariants.{Set, Hungry}

abbrev pub place_of : AlignBad → Place
place_of (BadWord place value) = place
place_of (NotAWord place word) = place
place_of (WrongColumn place word) = place

-- why a word is bad that stands behind these, which are not
abbrev pub HasReason : (before : List ℕ) → (word : ℕ) → AlignBad → Type 0
HasReason before word (BadWord place value) = IsReason before word (Why.Value value)
HasReason before word (NotAWord place named) = IsReason before word (Why.Code (Code.NotAWord named))
HasReason before word (WrongColumn place named) =
    (rd : Rd) × IsReason before word (Why.Code (Code.WrongColumn named rd))

-- the first word fault of the lanes' words, with its reason
pub record IsFirstFault (words : List (List ℕ)) (bad : AlignBad) : Type 0 where
  pub fault : FaultAt words (place_of bad).clock (place_of bad).lane
  pub reason :
      HasReason (take (place_of bad).clock (words_of words (place_of bad).lane))
      (slice_index_or (words_of words (place_of bad).lane) (place_of bad).clock 0) bad

-- the words have this first fault, or none
abbrev pub IsFaultOf : (words : List (List ℕ)) → Option AlignBad → Type 0
IsFaultOf words None = NoFault words
IsFaultOf words (Some bad) = IsFirstFault words bad

-- the symbols that count: those before that fault
abbrev pub CountedTo : (words : List (List ℕ)) → Option AlignBad → (plain : List (List Sym)) → Type 0
CountedTo words None plain = Symbols words plain
CountedTo words (Some bad) plain = Symbols (cut (place_of bad).clock words) plain

abbrev pub lanes_of : Aligner → Lanes
lanes_of a = a.team.lanes

abbrev pub is_enhanced : Aligner → Bool
is_enhanced a = a.deskew.enhanced

abbrev pub clocks_fed : Aligner → ℕ
clocks_fed a = a.clocks

abbrev pub sets_given : Aligner → ℕ
sets_given a = a.deskew.given

-- the next clocks may be fed
abbrev pub CanFeed : Aligner → Type 0
CanFeed a = HasRoom a.deskew

-- The aligner was fed these words of the lanes, and these are the symbols that count.
pub record WasFed (a : Aligner) (words : List (List ℕ)) (plain : List (List Sym)) : Type 0 where
  pub size : length words ≡ lanes_count a.team.lanes
  pub even : (lane : ℕ) → lane < length words → length (words_of words lane) ≡ a.clocks
  pub fault : IsFaultOf words a.bad
  pub counted : CountedTo words a.bad plain
  pub taken : HasTaken a.deskew plain
  pub reads : a.bad ≡ None → (left : List (List ℕ)) × TeamRead a.team.states words left

-- the set of this number is not complete in these symbols
abbrev pub NoSet : (enhanced : Bool) → (plain : List (List Sym)) → (number : ℕ) → Type 0
NoSet enhanced plain number = (set : List Sym) → SetOf (sr_group enhanced) plain number set → ⊥

-- The answer of a step. The symbols are those before the first word fault.
abbrev pub Answers : Aligner → (words : List (List ℕ)) → (plain : List (List Sym)) → Result Step AlignBad → Type 0
Answers a words plain (Ok (Set number set)) =
    (number ≡ sets_given a) × SetOf (sr_group (is_enhanced a)) plain number set
Answers a words plain (Ok Hungry) = NoFault words × NoSet (is_enhanced a) plain (sets_given a)
Answers a words plain (Err bad) = IsFirstFault words bad × NoSet (is_enhanced a) plain (sets_given a)

-- how many sets were given, with this answer
abbrev pub given_after : Aligner → Result Step AlignBad → ℕ
given_after a (Ok (Set number set)) = sets_given a + 1
given_after a (Ok Hungry) = sets_given a
given_after a (Err bad) = sets_given a

-- behind an answer other than a set, the next clocks may be fed
abbrev pub FeedsAfter : Aligner → Result Step AlignBad → Type 0
FeedsAfter a (Ok (Set number set)) = Unit {0}
FeedsAfter a (Ok Hungry) = CanFeed a
FeedsAfter a (Err bad) = CanFeed a

-- how many sets the clocks fed may still give
abbrev pub waiting : Aligner → ℕ
waiting a = clocks_fed a - sets_given a

-- a set leaves fewer to wait for, and no other answer changes that
abbrev pub Lessens : (old new : Aligner) → Result Step AlignBad → Type 0
Lessens old new (Ok (Set number set)) = waiting new < waiting old
Lessens old new (Ok Hungry) = waiting new ≡ waiting old
Lessens old new (Err bad) = waiting new ≡ waiting old

-- a set has a symbol for each lane
abbrev pub IsWide : Aligner → Result Step AlignBad → Type 0
IsWide a (Ok (Set number set)) = length set ≡ lanes_count (lanes_of a)
IsWide a (Ok Hungry) = Unit {0}
IsWide a (Err bad) = Unit {0}

-- the answer at the end
abbrev pub EndsAs : Aligner → (plain : List (List Sym)) → Result Unit NoLock → Type 0
EndsAs a plain (Ok done) = (clock : ℕ) × IsLock (sr_group (is_enhanced a)) plain clock
EndsAs a plain (Err end) = (clock : ℕ) → IsLock (sr_group (is_enhanced a)) plain clock → ⊥
