-- A lane on the way in.
use Rattle.std.specs.Prelude.{◌≡◌, ℕ, ◌+◌, ◌≤◌, ◌<◌, ◌^◌, List, [], ◌∷◌, ◌++◌, length, map, Option, Some, None, Err}
use Rattle.dpx_base.specs.Key.{Keyed}
use Rattle.dpx_base.specs.Words.{LaneSymbols}
use Rattle.dpx_base.specs.declared.sym.Sym.{Sym}
use Rattle.dpx_code.specs.Decode.{candidate_of}
use Rattle.dpx_code.specs.Track.{Tracks}
use Rattle.dpx_code.specs.declared.disparity.Rd.{Rd}
use Rattle.dpx_lane.specs.Codes.{code_of, symbol_of}
use Rattle.dpx_lane.specs.Reading.{read_word, IsFault}
use Rattle.dpx_lane.specs.Scrambling.{HasTaken}
use Rattle.dpx_lane.specs.declared.decoder.Decoder.{Decoder}
use Rattle.dpx_lane.specs.declared.lane_fault.LaneFault.{LaneFault}
use Rattle.dpx_lane.specs.declared.lane_rx.LaneRx.{LaneRx}

-- the fault stands at the word behind the good ones, and has its reason
pub record FaultBehind (fault : LaneFault) (good rest : List ℕ) : Type 0 where
  pub word : ℕ
  pub more : List ℕ
  pub there : rest ≡ word ∷ more
  pub clock : fault.clock ≡ length good
  pub rd : Rd
  pub tracks : Tracks rd good
  pub reason : read_word word rd ≡ Err fault.why

abbrev pub Ends : Option LaneFault → (good rest : List ℕ) → Type 0
Ends None good rest = rest ≡ []
Ends (Some fault) good rest = FaultBehind fault good rest

-- The decoder took these words since it was made, and left these entries in their places: the codes of the good words'
-- symbols, and the words from the first bad one on.
pub record HasDecoded (decoder : Decoder) (words left : List ℕ) : Type 0 where
  pub good : List ℕ
  pub rest : List ℕ
  pub plain : List Sym
  pub words_are : words ≡ good ++ rest
  pub left_is : left ≡ map code_of plain ++ rest
  pub key : Keyed (map candidate_of good) plain
  pub back : map symbol_of (map code_of plain) ≡ plain
  pub tracks : Tracks decoder.rd good
  pub taken : HasTaken decoder.scrambler (map candidate_of good)
  pub clock : decoder.clock ≡ length good
  pub end : Ends decoder.fault good rest

-- the lane took these words since it was made, and left these entries in their places
abbrev pub HasRead : LaneRx → (words left : List ℕ) → Type 0
HasRead lane words left = HasDecoded lane.decoder words left

-- the clocks before the first bad word, as far as words were taken
abbrev pub good_clocks : LaneRx → ℕ
good_clocks lane = lane.decoder.clock

-- a row with which a lane's clocks stay in their range
abbrev pub TakesRow : LaneRx → List ℕ → Type 0
TakesRow lane row = good_clocks lane + length row < 2 ^ 62

-- a row's words go on behind those that the lane took, and its entries behind those that it left
pub record ReadsRow (old : LaneRx) (row : List ℕ) (new : LaneRx) (out : List ℕ) : Type 0 where
  pub goes_on : (words left : List ℕ) → HasRead old words left → HasRead new (words ++ row) (left ++ out)
  pub clocks : good_clocks new ≤ good_clocks old + length row

-- What was read of words: symbols with the key taken off, up to the first bad word, and their codes in a row. The
-- words from there on stay.
pub record IsReading (words left : List ℕ) (fault : Option LaneFault) : Type 0 where
  pub good : List ℕ
  pub rest : List ℕ
  pub plain : List Sym
  pub words_are : words ≡ good ++ rest
  pub left_is : left ≡ map code_of plain ++ rest
  pub back : map symbol_of (map code_of plain) ≡ plain
  pub symbols : LaneSymbols good plain
  pub is_fault : IsFault words fault
  pub whole : fault ≡ None → rest ≡ []
  pub cut : (found : LaneFault) → fault ≡ Some found → length good ≡ found.clock
