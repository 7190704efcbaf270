-- What a lane's words are read as.
use Rattle.std.specs.Prelude.{◌≡◌, ℕ, ◌<◌, ◌≤◌, Bool, List, take, nat_lt, if◌then◌else◌, slice_index_or}
use Rattle.std.specs.Prelude.{Option, Some, None, Result, Ok, Err}
use Rattle.dpx_base.specs.Code.{Coded, StandsIn}
use Rattle.dpx_base.specs.Words.{FirstBad, NoneBad}
use Rattle.dpx_base.specs.declared.sym.Sym.{Sym}
use Rattle.dpx_code.specs.Decode.{decoded, StandsElsewhere}
use Rattle.dpx_code.specs.Disparity.{rd_of}
use Rattle.dpx_code.specs.declared.decoding.CodeBad.{CodeBad}
use Rattle.dpx_code.specs.declared.decoding.CodeBad.TheVariants.{NotAWord, WrongColumn}
use Rattle.dpx_code.specs.declared.disparity.Rd.{Rd}
use Rattle.dpx_lane.specs.declared.lane_fault.LaneFault.{LaneFault}
use Rattle.dpx_lane.specs.declared.lane_fault.WordBad.{WordBad}
use Rattle.dpx_lane.specs.declared.lane_fault.WordBad.TheVariants.{Value, Code}

abbrev pub as_word_bad : Result (Sym × Rd) CodeBad → Result (Sym × Rd) WordBad
as_word_bad (Ok read) = Ok read
as_word_bad (Err bad) = Err (Code bad)

abbrev pub read_word : (word : ℕ) → Rd → Result (Sym × Rd) WordBad
read_word word rd = if nat_lt word 1024 then as_word_bad (decoded word rd) else Err (Value word)

-- Why a word is bad that stands behind these, which are not: it is too large, it stands in no column, or the words
-- before it leave one disparity alone and the word stands at the other.
abbrev pub IsReason : (before : List ℕ) → (word : ℕ) → WordBad → Type 0
IsReason before word (Value value) = (value ≡ word) × (1024 ≤ word)
IsReason before word (Code (NotAWord named)) =
    (named ≡ word) × (word < 1024) × ((plus : Bool) → StandsIn plus word → ⊥)
IsReason before word (Code (WrongColumn named rd)) =
    (named ≡ word) × (word < 1024) × StandsElsewhere rd word
    × ((from end : Bool) (symbols : List Sym) → Coded from symbols before end → rd ≡ rd_of end)

-- a lane's fault: its first bad word, with the reason; or that it has none
abbrev pub IsFault : List ℕ → Option LaneFault → Type 0
IsFault words None = NoneBad words
IsFault words (Some fault) =
    FirstBad words fault.clock × IsReason (take fault.clock words) (slice_index_or words fault.clock 0) fault.why
