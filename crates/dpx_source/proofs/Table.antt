-- The table of slots and the lines of pixels.
use Rattle.std.proofs.Common.{◌≡◌, ℕ, ◌<◌, ◌+◌, ◌-◌, ◌%◌, refl, sym, ap, arith, ◌∙◌, true, false, Bool}
use Rattle.std.proofs.Common.{nat_le, inl, inr, [], ◌∷◌, Option, Some, None}
use Rattle.std.specs.Prelude.{if◌then◌else◌, ◌&&◌, unwrap_or}
use Rattle.std.proofs.lemmas.Bool.Decides.{nat_tests}
use Rattle.std.proofs.lemmas.Bool.{cases_lt, leb-true, lt-leb, cond-false}
use Rattle.dpx_base.specs.declared.slot.Slot.{Slot}
use Rattle.dpx_base.specs.declared.slot.Slot.TheVariants.{Fill, Group, VbId, Msa, Be, Valid, Stuff, Ended}
use Rattle.dpx_base.specs.Plan.{PlanFacts, IsPlan, clocks, lines}
use Rattle.dpx_base.specs.Slots.{is_among, begins_frame, attributes_length, slot_at, of_lines, first_some, start_row}
use Rattle.dpx_base.specs.Slots.{symbol_row, stuffing_row, group_row, block_row, attributes_row}
use Rattle.dpx_timing.proofs.Table.{among_none, slot_behind}
use Rattle.dpx_timing.proofs.Valid.{IsSymbol, symbol_slot, symbol_bytes}
use Rattle.dpx_timing.proofs.ValidSlots.{HasSymbol, valid_has_symbol}
use Rattle.dpx_timing.proofs.Givens.{IsGiven, given_of}
use Rattle.dpx_source.specs.LineSums.{active_line}
use Rattle.dpx_source.proofs.ActiveLines.{active_row, active_small, HasNumber, line_number}
use Rattle.dpx_source.proofs.Ready.{IsDue, IsTable, HasPlace}

abbrev kind : Slot → ℕ
kind Fill = 0
kind (Group index reset) = 0
kind (VbId index blank) = 0
kind (Msa index) = 2
kind Be = 0
kind Valid = 1
kind (Stuff stuffing) = 0
kind Ended = 3

abbrev msa_index : Slot → ℕ
msa_index Fill = 0
msa_index (Group index reset) = 0
msa_index (VbId index blank) = 0
msa_index (Msa index) = index
msa_index Be = 0
msa_index Valid = 0
msa_index (Stuff stuffing) = 0
msa_index Ended = 0

pub not_ended : Valid ≡ Ended → ⊥
not_ended e = omega (arith, ap kind e)

-- a line of pixels is an active one of the plan's
due_symbol : (p : PlanFacts) (t i j : ℕ) → IsPlan p → IsDue p t i j → IsSymbol p t (active_line p i) j
due_symbol p t i j plan due = record {
  active = rw (active_row p i plan) (grind (arith, nat_tests));
  within = active_small p i plan due.line_in;
  symbol = due.symbol_in;
  clock = due.at;
}

-- an active line of the plan's is a line of pixels
symbol_due : (p : PlanFacts) (t : ℕ) → IsPlan p → HasSymbol p t → HasPlace p t
symbol_due p t plan h =
    let line : HasNumber p h.line =
    line_number p h.line plan h.is.within
    (leb-true (p.mode.vtotal - p.mode.height) (h.line % p.mode.vtotal) h.is.active) in
    record {
      line = line.number;
      symbol = h.number;
      due = record { line_in = line.within; symbol_in = h.is.symbol; at = rw line.is h.is.clock };
    }

-- what the table gives within its clocks
pub record IsTold (p : PlanFacts) (slot : Slot) : Type 0 where
  pub going : slot ≡ Ended → ⊥
  pub index : (index : ℕ) → slot ≡ Msa index → index < attributes_length p

plain : (p : PlanFacts) (told slot : Slot) → told ≡ slot → kind told < 2 → IsTold p slot
plain p told slot e small = record {
  going = λ h. omega (arith, small, ap kind (e ∙ h));
  index = λ index h. absurd (omega (arith, small, ap kind (e ∙ h)));
}

gives : (b : Bool) (told slot : Slot) → (if b then Some told else None) ≡ Some slot → told ≡ slot
gives true told slot h = cc
gives false told slot h = absurd cc

start_told : (p : PlanFacts) (t line : ℕ) (slot : Slot) → start_row p t line ≡ Some slot → IsTold p slot
unfolding start_row
start_told p t line slot h = plain p Be slot (gives _ Be slot h) (omega arith)

symbol_told : (p : PlanFacts) (t line : ℕ) (slot : Slot) → symbol_row p t line ≡ Some slot → IsTold p slot
unfolding symbol_row
symbol_told p t line slot h = plain p Valid slot (gives _ Valid slot h) (omega arith)

stuffing_told : (p : PlanFacts) (t line : ℕ) (slot : Slot) → stuffing_row p t line ≡ Some slot → IsTold p slot
unfolding stuffing_row
stuffing_told p t line slot h = plain p _ slot (gives _ _ slot h) (omega arith)

group_told : (p : PlanFacts) (t line : ℕ) (slot : Slot) → group_row p t line ≡ Some slot → IsTold p slot
unfolding group_row
group_told p t line slot h = plain p _ slot (gives _ _ slot h) (omega arith)

block_told : (p : PlanFacts) (t line : ℕ) (slot : Slot) → block_row p t line ≡ Some slot → IsTold p slot
unfolding block_row
block_told p t line slot h = plain p _ slot (gives _ _ slot h) (omega arith)

nothing : (told slot : Slot) → (if false then Some told else None) ≡ Some slot → ⊥
nothing told slot h = absurd cc

attribute_told : (p : PlanFacts) (first t : ℕ) (begins : Bool) (slot : Slot)
    → (if begins && is_among first (attributes_length p) t then Some (Msa (t - first)) else None) ≡ Some slot
    → IsTold p slot
attribute_told p first t false slot h = absurd cc
attribute_told p first t true slot h = elim (cases_lt t first) [
  | inl early ↦ absurd (none (among_none first (attributes_length p) t (inl early)))
  | inr begun ↦ elim (cases_lt t (first + attributes_length p)) [
    | inl inside ↦
        let e : Msa (t - first) ≡ slot = gives _ _ slot h in
        record {
          going = λ k. omega (arith, ap kind (e ∙ k));
          index = λ index k. omega (arith, ap msa_index (e ∙ k), begun, inside);
        }
    | inr late ↦ absurd (none (among_none first (attributes_length p) t (inr late)))
  ]
]
  where
    none : is_among first (attributes_length p) t ≡ false → ⊥
    none off = nothing (Msa (t - first)) slot (rw off at h)

attributes_told : (p : PlanFacts) (t line : ℕ) (slot : Slot) → attributes_row p t line ≡ Some slot → IsTold p slot
unfolding attributes_row
attributes_told p t line slot h = attribute_told p _ t (begins_frame p line) slot h

lines_told : (p : PlanFacts) (row : ℕ → Option Slot)
    → ((line : ℕ) (slot : Slot) → row line ≡ Some slot → IsTold p slot)
    → (slot : Slot) → of_lines p row ≡ Some slot → IsTold p slot
lines_told p row told slot h =
    let given : IsGiven row 0 (lines p) slot = given_of row 0 (lines p) slot h in
    told given.number slot given.gives

abbrev AllTold : PlanFacts → Option Slot → Type 0
AllTold p row = (slot : Slot) → row ≡ Some slot → IsTold p slot

first_told : (p : PlanFacts) (a b c d e f : Option Slot) → AllTold p a → AllTold p b → AllTold p c → AllTold p d
    → AllTold p e → AllTold p f → IsTold p (unwrap_or (first_some (a ∷ b ∷ c ∷ d ∷ e ∷ f ∷ [])) Fill)
first_told p (Some x) b c d e f ta tb tc td te tf = ta x refl
first_told p None (Some x) c d e f ta tb tc td te tf = tb x refl
first_told p None None (Some x) d e f ta tb tc td te tf = tc x refl
first_told p None None None (Some x) e f ta tb tc td te tf = td x refl
first_told p None None None None (Some x) f ta tb tc td te tf = te x refl
first_told p None None None None None (Some x) ta tb tc td te tf = tf x refl
first_told p None None None None None None ta tb tc td te tf = plain p Fill Fill refl (omega arith)

-- within the clocks the table never ends, and the attributes' index is one of theirs
pub slot_told : (p : PlanFacts) (t : ℕ) → t < clocks p → IsTold p (slot_at p t)
unfolding slot_at
slot_told p t before =
    rw (cond-false (nat_le (clocks p) t) Ended _ (lt-leb (clocks p) t before))
    (first_told p _ _ _ _ _ _ (lines_told p (start_row p t) (start_told p t))
    (lines_told p (symbol_row p t) (symbol_told p t)) (lines_told p (stuffing_row p t) (stuffing_told p t))
    (lines_told p (group_row p t) (group_told p t)) (lines_told p (block_row p t) (block_told p t))
    (lines_told p (attributes_row p t) (attributes_told p t)))

-- what every plan's table says of symbols
pub is_table : (p : PlanFacts) → IsPlan p → IsTable p
is_table p plan = record {
  valid = λ t h. symbol_due p t plan (valid_has_symbol p t (before t h) h);
  other = λ t i j more due. symbol_slot p t (active_line p i) j plan (due_symbol p t i j plan due) more;
  bytes = λ t i j pixels due. symbol_bytes p pixels t (active_line p i) j plan (due_symbol p t i j plan due);
}
  where
    before : (t : ℕ) → slot_at p t ≡ Valid → t < clocks p
    before t h = elim (cases_lt t (clocks p)) [
      | inl more ↦ more
      | inr past ↦ absurd (not_ended (sym h ∙ slot_behind p t past))
    ]
