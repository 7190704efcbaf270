-- What a reader of words stands for, and how its reading ends.
use Rattle.std.specs.Prelude.{ℕ, ◌≡◌, List, [], ◌∷◌, ◌++◌, length, Bool, Some, None, Result, Ok, Err}
use Rattle.dpx_align.specs.Aligner.{WasFed, IsFirstFault, sets_given, is_enhanced}
use Rattle.dpx_align.specs.Aligner.{lanes_of as aligner_lanes}
use Rattle.dpx_align.specs.Faults.{Counted as CountedSymbols, NoFault, Symbols}
use Rattle.dpx_align.specs.declared.align_bad.AlignBad.{AlignBad}
use Rattle.dpx_align.specs.declared.aligner.Aligner.{Aligner}
use Rattle.dpx_base.specs.Lanes.{lanes_count}
use Rattle.dpx_base.specs.declared.lanes.Lanes.{Lanes}
use Rattle.dpx_base.specs.declared.sym.Sym.{Sym}
use Rattle.dpx_parse.specs.FirstFault.{HasNoFault}
use Rattle.dpx_parse.specs.Parser.{StandsFor, Refuses, IsTail, lanes_of, enhanced_of}
use Rattle.dpx_parse.specs.Received.{AreEvents}
use Rattle.dpx_parse.specs.declared.bad.ParseBad.{ParseBad}
use Rattle.dpx_parse.specs.declared.event.Event.{Event}
use Rattle.dpx_reception.specs.Reception.{AreSets, AreFirstSets, LockIs}
use Rattle.dpx_sink.specs.Line.{Holds}
use Rattle.dpx_sink.specs.Told.{Under, none, Tally, no_tally, after_all, records_told, text_told, tallied_all}
use Rattle.dpx_sink.specs.Told.{frames_in}
use Rattle.dpx_parse.specs.Stands.{number_of}
use Rattle.dpx_sink.specs.declared.finish_end.FinishEnd.{FinishEnd}
use Rattle.dpx_sink.specs.declared.finish_end.FinishEnd.TheVariants.{Truncated, NoLock}
use Rattle.dpx_sink.specs.declared.finish_end.Received.{Received}
use Rattle.dpx_sink.specs.declared.reader.Reader.{Reader}

-- the lanes and the framing
pub record Framing : Type 0 where
  pub enhanced : Bool
  pub lanes : Lanes

-- the sets are accepted, and give these records and this text
pub record Tell (f : Framing) (sets : List (List Sym)) (records text : List ℕ) (under : Under) (tally : Tally)
    : Type 0 where
  pub no_fault : HasNoFault f.enhanced (lanes_count f.lanes) sets
  pub events : List Event
  pub events_are : AreEvents f.enhanced (lanes_count f.lanes) [] sets events
  pub under_is : under ≡ after_all none events
  pub tally_is : tally ≡ tallied_all none no_tally events
  pub records_are : records ≡ records_told (lanes_count f.lanes) none events
  pub text_is : text ≡ text_told events

-- the aligner was fed these words, and gave these sets
pub record HasGiven (f : Framing) (a : Aligner) (words : List (List ℕ)) (sets : List (List Sym)) : Type 0 where
  pub plain : List (List Sym)
  pub fed : WasFed a words plain
  pub count : length sets ≡ sets_given a
  pub first : AreFirstSets f.enhanced plain sets

-- The reader took these words, read the sets that were given of them, and these records and this text are due of them.
pub record HasRead (f : Framing) (r : Reader) (words : List (List ℕ)) (records text : List ℕ) : Type 0 where
  pub sets : List (List Sym)
  pub given : HasGiven f r.aligner words sets
  pub parsed : StandsFor r.parser sets
  pub under : Under
  pub tally : Tally
  pub holds : Holds r.lines under tally
  pub tell : Tell f sets records text under tally

-- its parts have this framing and these lanes
pub record Agrees (f : Framing) (r : Reader) : Type 0 where
  pub aligner : aligner_lanes r.aligner ≡ f.lanes
  pub aligner_enhanced : is_enhanced r.aligner ≡ f.enhanced
  pub parser : lanes_of r.parser ≡ f.lanes
  pub parser_enhanced : enhanced_of r.parser ≡ f.enhanced
  pub lines : r.lines.lanes ≡ f.lanes

-- The aligner gave one set more, which the others have not read.
pub record IsNext (f : Framing) (r : Reader) (words : List (List ℕ)) (set : List Sym) (records text : List ℕ)
    : Type 0 where
  pub sets : List (List Sym)
  pub given : HasGiven f r.aligner words (sets ++ set ∷ [])
  pub parsed : StandsFor r.parser sets
  pub under : Under
  pub tally : Tally
  pub holds : Holds r.lines under tally
  pub tell : Tell f sets records text under tally

-- It read all sets that are complete in them, and no word is bad.
pub record HasReadWhole (f : Framing) (r : Reader) (words : List (List ℕ)) (records text : List ℕ) : Type 0 where
  pub sets : List (List Sym)
  pub given : HasGiven f r.aligner words sets
  pub parsed : StandsFor r.parser sets
  pub under : Under
  pub tally : Tally
  pub holds : Holds r.lines under tally
  pub tell : Tell f sets records text under tally
  pub no_fault : NoFault words
  pub are_sets : AreSets f.enhanced given.plain sets

-- a word is bad, and the sets before it give these records and this text
pub record HasBadWord (f : Framing) (words : List (List ℕ)) (bad : AlignBad) (records text : List ℕ) : Type 0 where
  pub sets : List (List Sym)
  pub plain : List (List Sym)
  pub fault : IsFirstFault words bad
  pub counted : CountedSymbols words plain
  pub are_sets : AreSets f.enhanced plain sets
  pub under : Under
  pub tally : Tally
  pub tell : Tell f sets records text under tally

-- a set that is complete is refused, and those before it give these records and this text
pub record HasBadSet (f : Framing) (words : List (List ℕ)) (bad : ParseBad) (records text : List ℕ) : Type 0 where
  pub sets : List (List Sym)
  pub set : List Sym
  pub plain : List (List Sym)
  pub counted : CountedSymbols words plain
  pub first : AreFirstSets f.enhanced plain (sets ++ set ∷ [])
  pub refuses : Refuses f.enhanced f.lanes sets set bad
  pub under : Under
  pub tally : Tally
  pub tell : Tell f sets records text under tally

-- some first sets give these records and this text
pub record HasSome (f : Framing) (words : List (List ℕ)) (records text : List ℕ) : Type 0 where
  pub sets : List (List Sym)
  pub plain : List (List Sym)
  pub counted : CountedSymbols words plain
  pub first : AreFirstSets f.enhanced plain sets
  pub under : Under
  pub tally : Tally
  pub tell : Tell f sets records text under tally

-- what was counted of all sets, as far as 64 bits go
pub record Counted (f : Framing) (words : List (List ℕ)) (plain : List (List Sym)) (received : Received)
    : Type 0 where
  pub sets : List (List Sym)
  pub are_sets : AreSets f.enhanced plain sets
  pub under : Under
  pub tally : Tally
  pub records : List ℕ
  pub text : List ℕ
  pub tell : Tell f sets records text under tally
  pub frames : received.frames ≡ number_of (frames_in under tally)
  pub lines : received.lines ≡ number_of tally.lines
  pub tail : IsTail f.enhanced f.lanes sets received.tail_clocks

-- The end of words without a fault: the lanes lock nowhere in so many clocks, or what was counted.
abbrev pub ReadEnds : Framing → (words : List (List ℕ)) → (clocks : ℕ) → Result Received FinishEnd → Type 0
ReadEnds f words clocks (Err (Truncated clock left)) = ⊥
ReadEnds f words clocks (Err (NoLock stood)) =
    (plain : List (List Sym)) × Symbols words plain × LockIs f.enhanced plain None × (stood ≡ clocks)
ReadEnds f words clocks (Ok received) =
    (plain : List (List Sym)) × (clock : ℕ) × Symbols words plain × LockIs f.enhanced plain (Some clock)
    × Counted f words plain received
