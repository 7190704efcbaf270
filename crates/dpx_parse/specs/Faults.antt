-- What may be told after what: the reasons of the first set that breaks a rule. The parts before are newest first, the
-- last as far as it is told.
use Rattle.std.specs.Prelude.{ℕ, ◌≡◌, ◌+◌, ◌/◌, ◌%◌, ◌==◌, ◌&&◌, ⊤, Bool, true, false, nat_lt, if◌then◌else◌, List, []}
use Rattle.std.specs.Prelude.{◌∷◌, Option, Some, None, Result, Ok, Err}
use Rattle.std.specs.Result.{result_ok}
use Rattle.dpx_msa.specs.declared.attributes.Attributes.{Attributes}
use Rattle.dpx_msa.specs.declared.msa_bad.MsaBad.{MsaBad}
use Rattle.dpx_grammar.specs.Accepted.{copies, line_length}
use Rattle.dpx_grammar.specs.Gathered.{gathered}
use Rattle.dpx_msa.specs.Reading.{read_attributes}
use Rattle.dpx_grammar.specs.Parts.{Part, group, block, attributes, begins, valid}
use Rattle.dpx_parse.specs.declared.bad.ParseWhy.{ParseWhy}
use Rattle.dpx_parse.specs.declared.bad.ParseWhy.TheVariants.{Interlaced, VbIdDiffers, Msa, LineLong, LineShort}
use Rattle.dpx_parse.specs.declared.bad.ParseWhy.TheVariants.{FrameShort, FrameLong}

-- the attributes in force
abbrev pub in_force : ℕ → List Part → Option Attributes
in_force lanes [] = None
in_force lanes (attributes rows ∷ before) = result_ok (read_attributes (gathered lanes rows))
in_force lanes (_ ∷ before) = in_force lanes before

-- an active part has begun since the last group
abbrev pub is_live : List Part → Bool
is_live [] = false
is_live (group reset ∷ before) = false
is_live (begins ∷ before) = true
is_live (_ ∷ before) = is_live before

-- the valid sets since an active part began
abbrev pub valids : List Part → ℕ
valids [] = 0
valids (begins ∷ before) = 0
valids (valid row ∷ before) = valids before + 1
valids (_ ∷ before) = valids before

-- the whole active parts since the last attributes
abbrev pub lines : List Part → ℕ
lines [] = 0
lines (attributes rows ∷ before) = 0
lines (group reset ∷ before) = if is_live before then lines before + 1 else lines before
lines (_ ∷ before) = lines before

-- ---- the reasons, in their order

abbrev pub all_are : ℕ → List ℕ → Bool
all_are id [] = true
all_are id (other ∷ ids) = other == id && all_are id ids

abbrev pub first_in : List ℕ → Option ℕ
first_in [] = None
first_in (id ∷ ids) = Some id

-- of the copies of VB-ID in a block
abbrev pub id_fault : List ℕ → Option ParseWhy
id_fault [] = None
id_fault (id ∷ ids) = if id / 4 % 2 == 1 then Some Interlaced else if all_are id ids then None else Some VbIdDiffers

abbrev pub msa_fault : Result Attributes MsaBad → Option ParseWhy
msa_fault (Ok a) = None
msa_fault (Err bad) = Some (Msa bad)

abbrev pub end_fault : Option Attributes → ℕ → Result Attributes MsaBad → Option ParseWhy
end_fault None got read = msa_fault read
end_fault (Some a) got read = if nat_lt got a.height then Some (FrameShort got a.height) else msa_fault read

abbrev pub begin_fault : Option Attributes → ℕ → Option ParseWhy
begin_fault None got = None
begin_fault (Some a) got = if nat_lt got a.height then None else Some FrameLong

abbrev pub valid_fault : ℕ → Option Attributes → ℕ → Option ParseWhy
valid_fault lanes None got = None
valid_fault lanes (Some a) got = if nat_lt got (line_length lanes a) then None else Some LineLong

abbrev pub head_fault : ℕ → Option Attributes → Bool → ℕ → Option ParseWhy
head_fault lanes None live got = None
head_fault lanes (Some a) live got =
    if live && nat_lt got (line_length lanes a) then Some (LineShort got (line_length lanes a)) else None

-- why this part may not be told after those
abbrev pub fault : ℕ → List Part → Part → Option ParseWhy
fault lanes before (group reset) = head_fault lanes (in_force lanes before) (is_live before) (valids before)
fault lanes before (block rows) = id_fault (copies rows)
fault lanes before (attributes rows) = end_fault (in_force lanes before) (lines before) (read_attributes (gathered lanes rows))
fault lanes before begins = begin_fault (in_force lanes before) (lines before)
fault lanes before (valid row) = valid_fault lanes (in_force lanes before) (valids before)
fault lanes before _ = None

-- each part may be told where it is
abbrev pub AllStand : ℕ → List Part → Type 0
AllStand lanes [] = ⊤
AllStand lanes (part ∷ before) = (fault lanes before part ≡ None) × AllStand lanes before

-- why the newest part may not be told
abbrev pub newest : ℕ → List Part → Option ParseWhy
newest lanes [] = None
newest lanes (part ∷ before) = fault lanes before part
