-- The machine that reads sets one by one: this project's own.
use Rattle.std.specs.Prelude.{ℕ, zero, suc, ◌≡◌, ◌/◌, ⊤, Bool, true, false, List, [], ◌∷◌, ◌++◌, map, length, Option}
use Rattle.std.specs.Prelude.{Some, None}
use Rattle.std.specs.List.{AllByRecursion}
use Rattle.dpx_base.specs.declared.lanes.Lanes.{Lanes}
use Rattle.dpx_base.specs.Lanes.{lanes_count}
use Rattle.dpx_base.specs.declared.sym.Sym.{Sym}
use Rattle.dpx_base.specs.Symbols.{bs, sr, be, ss, se, fs, fe, bf}
use Rattle.dpx_grammar.specs.Parts.{Part, group, block, filler, attributes, secondary, begins, valid, stuffing}
use Rattle.dpx_grammar.specs.Parts.{data_set, control_set, IsCut}

-- a control symbol that a part may have
pub data Code : Type 0 where
  a_bs : Code
  a_sr : Code
  a_be : Code
  an_ss : Code
  an_se : Code
  an_fs : Code
  an_fe : Code
  a_bf : Code

abbrev pub byte_of : Code → ℕ
byte_of a_bs = bs
byte_of a_sr = sr
byte_of a_be = be
byte_of an_ss = ss
byte_of an_se = se
byte_of an_fs = fs
byte_of an_fe = fe
byte_of a_bf = bf

-- a uniform set: a row of data, or a control symbol
pub data Token : Type 0 where
  row : List ℕ → Token
  code : Code → Token

abbrev pub token_set : ℕ → Token → List Sym
token_set lanes (row bytes) = data_set bytes
token_set lanes (code c) = control_set lanes (byte_of c)

-- what has been read of the next part: so many sets of a group; rows, and how many are to come
pub data Place : Type 0 where
  start : Place
  head : Bool → ℕ → Place
  ids : List (List ℕ) → ℕ → Place
  blank : Place
  opened : Place
  numbers : List (List ℕ) → ℕ → Place
  packet : List (List ℕ) → Place
  active : Place
  fill : List (List ℕ) → Place

-- A group's first set begins it in enhanced framing, and is the whole group in default framing.
abbrev pub group_begun : (enhanced : Bool) (b : ℕ) → Bool → Option (Option Part × Place)
group_begun true b reset = Some (None, head reset 1)
group_begun false b reset = Some (Some (group reset), ids [] b)

-- The next set ends a part, or goes on with one; blocks have b rows, and attributes a.
abbrev pub step : (enhanced : Bool) (b a : ℕ) → Place → Token → Option (Option Part × Place)
step enhanced b a start (code a_sr) = group_begun enhanced b true
step enhanced b a (head reset (suc zero)) (code a_bf) = Some (None, head reset 2)
step enhanced b a (head reset (suc (suc zero))) (code a_bf) = Some (None, head reset 3)
step enhanced b a (head true (suc (suc (suc zero)))) (code a_sr) = Some (Some (group true), ids [] b)
step enhanced b a (head false (suc (suc (suc zero)))) (code a_bs) = Some (Some (group false), ids [] b)
step enhanced b a (ids rows (suc zero)) (row bytes) = Some (Some (block (rows ++ bytes ∷ [])), blank)
step enhanced b a (ids rows (suc (suc n))) (row bytes) = Some (None, ids (rows ++ bytes ∷ []) (suc n))
step enhanced b a blank (row bytes) = Some (Some (filler bytes), blank)
step enhanced b a blank (code a_sr) = group_begun enhanced b true
step enhanced b a blank (code a_bs) = group_begun enhanced b false
step enhanced b a blank (code a_be) = Some (Some begins, active)
step enhanced b a blank (code an_ss) = Some (None, opened)
step enhanced b a opened (code an_ss) = Some (None, numbers [] a)
step enhanced b a opened (row bytes) = Some (None, packet (bytes ∷ []))
step enhanced b a (numbers rows (suc n)) (row bytes) = Some (None, numbers (rows ++ bytes ∷ []) n)
step enhanced b a (numbers rows zero) (code an_se) = Some (Some (attributes rows), blank)
step enhanced b a (packet rows) (row bytes) = Some (None, packet (rows ++ bytes ∷ []))
step enhanced b a (packet rows) (code an_se) = Some (Some (secondary rows), blank)
step enhanced b a active (row bytes) = Some (Some (valid bytes), active)
step enhanced b a active (code an_fe) = Some (Some (stuffing None), active)
step enhanced b a active (code an_fs) = Some (None, fill [])
step enhanced b a active (code a_sr) = group_begun enhanced b true
step enhanced b a active (code a_bs) = group_begun enhanced b false
step enhanced b a (fill rows) (row bytes) = Some (None, fill (rows ++ bytes ∷ []))
step enhanced b a (fill rows) (code an_fe) = Some (Some (stuffing (Some rows)), active)
step enhanced b a _ _ = None

-- what a place tells of the next part: a group from its first set on, a block as far as it has come
abbrev pub begun_of : Place → List Part
begun_of (head reset n) = group reset ∷ []
begun_of (ids [] n) = []
begun_of (ids (r ∷ rows) n) = block (r ∷ rows) ∷ []
begun_of _ = []

abbrev pub grown : List Part → Option Part → List Part
grown whole None = whole
grown whole (Some part) = whole ++ part ∷ []

abbrev pub go_on : {R : Type 0} → List Part → Option (Option Part × Place) → (List Part → Place → Option R) → Option R
go_on whole None next = None
go_on whole (Some s) next = next (grown whole s.0) s.1

-- the whole parts, and what has been read of the next one, where the machine reads the sets
abbrev pub run : (enhanced : Bool) (b a : ℕ) → List Part → Place → List Token → Option (List Part × Place)
run enhanced b a whole s [] = Some (whole, s)
run enhanced b a whole s (t ∷ ts) = go_on whole (step enhanced b a s t) (λ w p. run enhanced b a w p ts)

-- a set that the machine may read
abbrev pub IsToken : ℕ → Token → Type 0
IsToken lanes (row bytes) = length bytes ≡ lanes
IsToken lanes (code c) = ⊤

-- the machine reads these sets, and comes to these whole parts
pub record Reads (enhanced : Bool) (lanes : ℕ) (sets : List (List Sym)) (whole : List Part)
    (place : Place) : Type 0 where
  pub tokens : List Token
  pub sets_are : map (token_set lanes) tokens ≡ sets
  pub uniform : AllByRecursion (IsToken lanes) tokens
  pub reached : run enhanced (12 / lanes) (36 / lanes) [] start tokens ≡ Some (whole, place)

-- The machine reads exactly the prefixes of lists of periods, part by part.
abbrev pub ReadsExactly : Type 0
ReadsExactly =
    (enhanced : Bool) (lanes : Lanes) (sets : List (List Sym)) (whole : List Part)
    → (((place : Place) × Reads enhanced (lanes_count lanes) sets whole place)
    → (next : Part) × (front : List (List Sym)) × IsCut enhanced (lanes_count lanes) sets whole next front)
    × ((next : Part) (front : List (List Sym)) → IsCut enhanced (lanes_count lanes) sets whole next front
    → (place : Place) × Reads enhanced (lanes_count lanes) sets whole place)
