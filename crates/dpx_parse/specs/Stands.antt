-- What the machine stands for.
use Rattle.std.specs.Prelude.{ℕ, zero, suc, ◌≡◌, ◌≤◌, ◌+◌, ◌/◌, ◌-◌, ◌^◌, min, ⊤, Bool, true, false, if◌then◌else◌}
use Rattle.std.specs.Prelude.{List, [], ◌∷◌, length, take, reverse, Some, None}
use Rattle.dpx_base.specs.declared.sym.Sym.{Sym}
use Rattle.dpx_base.specs.Lanes.{lanes_count}
use Rattle.dpx_msa.specs.declared.attributes.Attributes.{Attributes}
use Rattle.dpx_grammar.specs.Accepted.{copies, line_length}
use Rattle.dpx_grammar.specs.Machine.{Place, start, head, ids, blank, opened, numbers, packet, active, fill}
use Rattle.dpx_grammar.specs.Machine.{Reads}
use Rattle.dpx_grammar.specs.Parts.{Part, group, block, begins, valid, stuffing, AreRows, sets_of}
use Rattle.dpx_parse.specs.Bytes.{flat}
use Rattle.dpx_parse.specs.Faults.{in_force, is_live, valids, lines, AllStand, first_in}
use Rattle.dpx_parse.specs.declared.counts.Counts.{Counts}
use Rattle.dpx_parse.specs.declared.machine.Core.{Core}
use Rattle.dpx_parse.specs.declared.state.State.{State}
use Rattle.dpx_parse.specs.declared.state.State.TheVariants.{Start, Second, Third, Fourth, Ids, Blank, Opened, Numbers}
use Rattle.dpx_parse.specs.declared.state.State.TheVariants.{Packet, Active, Fill}

-- a place without its rows
abbrev pub state_of : Place → State
state_of start = Start
state_of (head reset (suc zero)) = Second reset
state_of (head reset (suc (suc zero))) = Third reset
state_of (head reset _) = Fourth reset
state_of (ids rows n) = Ids n
state_of blank = Blank
state_of opened = Opened
state_of (numbers rows n) = Numbers n
state_of (packet rows) = Packet
state_of active = Active
state_of (fill rows) = Fill

-- the parts that are told, newest first, where those are whole
abbrev pub told : List Part → Place → List Part
told whole (head reset n) = group reset ∷ whole
told whole (ids [] n) = whole
told whole (ids (row ∷ rows) n) = block (row ∷ rows) ∷ whole
told whole _ = whole

abbrev pub is_live_at : Place → Bool
is_live_at active = true
is_live_at (fill rows) = true
is_live_at _ = false

-- what is kept of the part that is not whole
abbrev pub AtPlace : ℕ → Counts → Place → Type 0
AtPlace lanes c (head reset n) = (1 ≤ n) × (n ≤ 3) × (c.first ≡ None)
AtPlace lanes c (ids rows n) = AreRows lanes rows × (length rows + n ≡ 12 / lanes) × (1 ≤ n)
    × (c.first ≡ first_in (copies rows))
AtPlace lanes c (numbers rows n) =
    AreRows lanes rows × (length rows + n ≡ 36 / lanes) × (c.taken ≡ length (flat rows))
    × (take c.taken c.bytes ≡ flat rows)
AtPlace lanes c _ = ⊤

-- what is kept of the parts that are told
pub record Knows (lanes : ℕ) (c : Counts) (parts : List Part) (place : Place) : Type 0 where
  pub attributes : c.attributes ≡ in_force lanes parts
  pub live : c.live ≡ is_live parts
  pub live_at : is_live parts ≡ is_live_at place
  pub lines : (a : Attributes) → in_force lanes parts ≡ Some a
      → (c.lines ≡ lines parts) × (lines parts + (if is_live parts then 1 else 0) ≤ a.height) × (a.height ≤ 8192)
      × (line_length lanes a ≤ 65536)
  pub valids : (a : Attributes) → in_force lanes parts ≡ Some a → is_live parts ≡ true
      → (c.valids ≡ valids parts) × (valids parts ≤ line_length lanes a)
  pub room : length c.bytes ≡ 36
  pub at : AtPlace lanes c place

-- the sets of an active part so far, where the newest part is one of it
abbrev pub since : Bool → ℕ → List Part → ℕ
since enhanced lanes [] = 0
since enhanced lanes (group reset ∷ before) = 0
since enhanced lanes (begins ∷ before) = 1
since enhanced lanes (valid row ∷ before) = since enhanced lanes before + 1
since enhanced lanes (stuffing rows ∷ before) =
    since enhanced lanes before + length (sets_of enhanced lanes (stuffing rows))
since enhanced lanes (_ ∷ before) = since enhanced lanes before

abbrev pub fronts : Place → ℕ
fronts (fill rows) = length rows + 1
fronts _ = 0

abbrev pub tail_at : Bool → ℕ → List Part → Place → ℕ
tail_at enhanced lanes whole place = if is_live_at place then since enhanced lanes whole + fronts place else 0

abbrev pub number_of : ℕ → ℕ
number_of n = min n (2 ^ 64 - 1)

pub record Stands (c : Core) (sets : List (List Sym)) : Type 0 where
  pub whole : List Part
  pub place : Place
  pub reads : Reads c.enhanced (lanes_count c.lanes) sets whole place
  pub state : c.state ≡ state_of place
  pub stand : AllStand (lanes_count c.lanes) (told (reverse whole) place)
  pub knows : Knows (lanes_count c.lanes) c.counts (told (reverse whole) place) place
  pub unended : c.unended ≡ number_of (tail_at c.enhanced (lanes_count c.lanes) (reverse whole) place)
