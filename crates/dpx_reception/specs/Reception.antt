-- What is received of the bytes of a capture behind its header, up to the first fault: this project's own.
use Rattle.std.specs.Prelude.{ℕ, ◌≡◌, Bool, List, [], ◌∷◌, ◌++◌, slice_get, Option, Some, None}
use Rattle.dpx_base.specs.declared.link.Link.{Link}
use Rattle.dpx_base.specs.declared.sym.Sym.{Sym}
use Rattle.dpx_base.specs.Lanes.{lanes_count}
use Rattle.dpx_align.specs.Aligner.{IsFirstFault, place_of}
use Rattle.dpx_align.specs.Faults.{NoFault, Symbols, cut}
use Rattle.dpx_align.specs.Lock.{sr_group, IsLock, SetOf}
use Rattle.dpx_align.specs.declared.align_bad.AlignBad.{AlignBad}
use Rattle.dpx_grammar.specs.Accepted.{Frame, Receives}
use Rattle.dpx_parse.specs.Parser.{Refuses}
use Rattle.dpx_parse.specs.declared.bad.ParseBad.{ParseBad}
use Rattle.dpx_reception.specs.Bytes.{clocks_in, received_words}

-- the sets that are complete in these symbols of the lanes, in their order
pub record AreSets (enhanced : Bool) (plain sets : List (List Sym)) : Type 0 where
  pub there : (s : ℕ) (set : List Sym) → slice_get sets s ≡ Some set → SetOf (sr_group enhanced) plain s set
  pub no_others : (s : ℕ) (set : List Sym) → SetOf (sr_group enhanced) plain s set → slice_get sets s ≡ Some set

-- these are the first sets that are complete in these symbols of the lanes
abbrev pub AreFirstSets : (enhanced : Bool) → (plain sets : List (List Sym)) → Type 0
AreFirstSets enhanced plain sets =
    (s : ℕ) (set : List Sym) → slice_get sets s ≡ Some set → SetOf (sr_group enhanced) plain s set

-- None of the words of the first clocks is bad, and those clocks' symbols have these sets.
pub record Gives (words : List (List ℕ)) (clocks : ℕ) (have : (plain : List (List Sym)) → Type 0) : Type 0 where
  pub no_fault : NoFault (cut clocks words)
  pub plain : List (List Sym)
  pub symbols : Symbols (cut clocks words) plain
  pub sets : have plain

-- a fault: a word that is bad, or a set that may not stand where it does
pub data Fault : Type 0 where
  no_fault : Fault
  word_fault : AlignBad → Fault
  set_fault : ParseBad → Fault

-- These sets were received before the first fault. Without one they are all sets of all clocks; before a word fault
-- those that are complete before its clock. A set fault comes first where its set is complete in clocks that have no
-- bad word.
abbrev pub ReceivedUpTo : Link → (words : List (List ℕ)) → (all : ℕ) → Fault → (sets : List (List Sym)) → Type 0
ReceivedUpTo link words all no_fault sets = Gives words all (λ plain. AreSets link.enhanced plain sets)
ReceivedUpTo link words all (word_fault bad) sets =
    IsFirstFault words bad × Gives words (place_of bad).clock (λ plain. AreSets link.enhanced plain sets)
ReceivedUpTo link words all (set_fault bad) sets =
    (clocks : ℕ) × (set : List Sym)
    × Gives words clocks (λ plain. AreFirstSets link.enhanced plain (sets ++ set ∷ []))
    × Refuses link.enhanced link.lanes sets set bad

-- The bytes have this first fault, or none; and these frames are received of the sets before it, and so many sets of an
-- unfinished line.
pub record Reception (link : Link) (bytes : List ℕ) (fault : Fault) (frames : List Frame) (tail : ℕ) : Type 0 where
  pub sets : List (List Sym)
  pub up_to : ReceivedUpTo link (received_words (lanes_count link.lanes) bytes) (clocks_in (lanes_count link.lanes) bytes)
      fault sets
  pub accepted : Receives link.enhanced (lanes_count link.lanes) sets frames tail

-- These frames are received of some first sets of the bytes, which come before any fault.
pub record PartlyReceived (link : Link) (bytes : List ℕ) (frames : List Frame) : Type 0 where
  pub clocks : ℕ
  pub sets : List (List Sym)
  pub given : Gives (received_words (lanes_count link.lanes) bytes) clocks
      (λ plain. AreFirstSets link.enhanced plain sets)
  pub tail : ℕ
  pub accepted : Receives link.enhanced (lanes_count link.lanes) sets frames tail

-- the lanes lock at this clock, or nowhere
abbrev pub LockIs : (enhanced : Bool) → List (List Sym) → Option ℕ → Type 0
LockIs enhanced plain None = (clock : ℕ) → IsLock (sr_group enhanced) plain clock → ⊥
LockIs enhanced plain (Some clock) = IsLock (sr_group enhanced) plain clock

-- bytes without a word fault lock at this clock, or nowhere
pub record Locks (link : Link) (bytes : List ℕ) (lock : Option ℕ) : Type 0 where
  pub no_fault : NoFault (received_words (lanes_count link.lanes) bytes)
  pub plain : List (List Sym)
  pub symbols : Symbols (received_words (lanes_count link.lanes) bytes) plain
  pub lock_is : LockIs link.enhanced plain lock
