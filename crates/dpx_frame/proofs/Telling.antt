-- Counters tell the slot of their clock.
use Rattle.std.proofs.Common.{ℕ, ◌+◌, ◌-◌, ◌*◌, ◌/◌, ◌%◌, ◌<◌, ◌≤◌, ◌≡◌, ◌≢◌, arith, ap, sym, refl, inl, inr, ◌∙◌, []}
use Rattle.std.proofs.Common.{◌∷◌, true, false, Some, None}
use Rattle.std.specs.Prelude.{◌&&◌, nat_le, nat_lt, not, unwrap_or, ◌==◌}
use Rattle.std.proofs.lemmas.Bool.{cases_lt, cases_eq, cases_Bool, lt-ltb, le-ltb, le-leb, lt-leb, eq-eqb, ne_eqb}
use Rattle.std.proofs.lemmas.Bool.{and_right}
use Rattle.std.proofs.lemmas.Bool.Decides.{nat_tests}
use Rattle.std.proofs.lemmas.Nat.{div-add-mod', mod-mul-add}
use Rattle.std.proofs.Math.Nat.{mod-lt}
use Rattle.dpx_base.specs.declared.slot.Slot.TheVariants.{Fill, Group, VbId, Msa, Be, Valid, Stuff}
use Rattle.dpx_base.specs.Plan.{PlanFacts, IsPlan, timing, clocks, group_length, block_length}
use Rattle.dpx_base.specs.Slots.{is_active, begins_frame, header_start, attributes_length, first_some, slot_at}
use Rattle.dpx_base.specs.Slots.{stuffing_of, unit_symbols, symbol_at, start_row, stuffing_row, attributes_row}
use Rattle.dpx_base.specs.Timing.{Timing, IsPossible, start, line_end, carried}
use Rattle.dpx_timing.proofs.Places.{symbol_outside, symbol_here, symbol_missing}
use Rattle.dpx_timing.proofs.Sizes.{plan_possible}
use Rattle.dpx_timing.proofs.Table.{line_slot, IsInLine, slot_of_line, slot_before, start_row_off, symbol_row_off}
use Rattle.dpx_timing.proofs.Table.{stuffing_row_off, group_row_off, block_row_off, attributes_row_off, IsOutside}
use Rattle.dpx_timing.proofs.Table.{among_none}
use Rattle.dpx_timing.proofs.TableRows.{start_row_on, symbol_row_on, stuffing_row_on, group_row_on, block_row_on}
use Rattle.dpx_timing.proofs.TableRows.{attributes_row_on, IsBlank, blank_line, line_starts, line_symbol, line_stuffing}
use Rattle.dpx_timing.proofs.TableRows.{line_group, line_block, line_rest}
use Rattle.dpx_frame.specs.declared.counters.Counters.{Counters}
use Rattle.dpx_frame.specs.Counters.{StandsAt}
use Rattle.dpx_frame.specs.CounterSlots.{is_active_row, slot, slot_in_line, slot_in_header, slot_in_frame}
use Rattle.dpx_frame.proofs.LineSteps.{at_line, row_stays, row_ends}

-- what a unit has
unit_carries : (r : Timing) (unit i : ℕ) → i < unit_symbols r unit → carried r unit + i < carried r (unit + 1)
unfolding unit_symbols
unit_carries r unit i h = omega arith

unit_done : (r : Timing) (unit i : ℕ) → unit_symbols r unit ≤ i → carried r (unit + 1) ≤ carried r unit + i
unfolding unit_symbols
unit_done r unit i h = omega arith

-- the next line is active where the next row is one of the frame
next_active : (v blank line : ℕ) → 1 ≤ blank → 1 ≤ v
    → (nat_le blank (line % v) && nat_lt (line % v + 1) v) ≡ (nat_le blank (line % v) && nat_le blank ((line + 1) % v))
next_active v blank line some lines = elim (cases_lt (line % v + 1) v) [
  | inl stays ↦ rw (row_stays v line stays) (grind (arith, nat_tests))
  | inr ends ↦
      let e : line % v + 1 ≡ v = omega (arith, ends, mod-lt line lines) in
      rw (row_ends v line lines e) (grind (arith, nat_tests))
]

slot_group : (p : PlanFacts) (c : Counters) (index : ℕ) → index < group_length p.link
    → slot_in_header p c index ≡ Group index (c.line % 512 == 0)
unfolding slot_in_header
slot_group p c index h = rw (lt-ltb index (group_length p.link) h) refl

slot_block : (p : PlanFacts) (c : Counters) (index : ℕ) → group_length p.link ≤ index
    → slot_in_header p c index ≡ VbId (index - group_length p.link)
    (not (is_active_row p c.row && nat_lt (c.row + 1) p.mode.vtotal))
unfolding slot_in_header
slot_block p c index h = rw (le-ltb index (group_length p.link) h) refl

-- the line's period has the clock
in_line : (p : PlanFacts) (t : ℕ) (c : Counters) → IsPlan p → StandsAt p t c → t < clocks p → c.before ≡ 0
    → IsInLine p t c.line (c.line - c.row)
in_line p t c plan at sent none = record {
  line_from = omega (arith, at.clock_is);
  line_to = omega (arith, at.clock_is, at.until_is, at.until_some);
  within = at_line p t c plan at sent;
  begins = rw e (mod-mul-add (c.line / p.mode.vtotal) p.mode.vtotal 0 some);
  frame_from = omega arith;
  frame_to = omega (arith, at.row_is, mod-lt c.line some);
}
  where
    some : 0 < p.mode.vtotal
    some = omega (arith, plan.mode.vtotal)

    e : c.line - c.row ≡ c.line / p.mode.vtotal * p.mode.vtotal + 0
    e = omega (arith, at.row_is, div-add-mod' c.line p.mode.vtotal)

-- no BE, symbols or stuffing behind the line's end
behind_line : (p : PlanFacts) (t line : ℕ) → IsPlan p → start (timing p) line + line_end (timing p) ≤ t
    → IsBlank p t line
behind_line p t line plan h = record {
  start_none = start_row_off p t line (λ e. omega arith);
  symbol_none = symbol_row_off p t line (symbol_outside (timing p) line t (plan_possible p plan) plan.fits (inr h));
  stuffing_none = stuffing_row_off p t line (inr h);
}

slot_be : (p : PlanFacts) (c : Counters) → c.since ≡ 0 → slot_in_line p c ≡ Be
unfolding slot_in_line
slot_be p c h = rw (eq-eqb c.since 0 h) refl

slot_valid : (p : PlanFacts) (c : Counters) → c.since ≢ 0 → c.units.place < c.units.symbols → slot_in_line p c ≡ Valid
unfolding slot_in_line
slot_valid p c h k = rw (ne_eqb c.since 0 h, lt-ltb c.units.place c.units.symbols k) refl

slot_stuff : (p : PlanFacts) (c : Counters) → c.since ≢ 0 → c.units.symbols ≤ c.units.place
    → slot_in_line p c ≡ Stuff (stuffing_of p.unit c.units.symbols c.units.place)
unfolding slot_in_line
slot_stuff p c h k = rw (ne_eqb c.since 0 h, le-ltb c.units.place c.units.symbols k) refl

-- from an active line's BE to its last symbol
in_line_slot : (p : PlanFacts) (t : ℕ) (c : Counters) → IsPlan p → StandsAt p t c → c.before ≡ 0
    → is_active p c.line ≡ true
    → c.since ≤ line_end (timing p) → slot_in_line p c ≡ line_slot p t c.line (c.line - c.row)
in_line_slot p t c plan at none active short = elim (cases_eq c.since 0) [
  | inl begins ↦
      slot_be p c begins ∙ sym (line_starts p t c.line first Be
      (start_row_on p t c.line active (omega (arith, at.clock_is))))
  | inr later ↦ elim (cases_lt c.units.place c.units.symbols) [
    | inl inside ↦
        slot_valid p c later inside
        ∙ sym (line_symbol p t c.line first Valid (no_start later)
        (symbol_row_on p t c.line (carried r unit + place) active (symbol later inside)))
    | inr past ↦
        slot_stuff p c later past
        ∙ sym (line_stuffing p t c.line first _ (no_start later) (symbol_row_off p t c.line (no_symbol later past))
        (stuffing later past))
  ]
]
  where
    r : Timing
    r = timing p

    possible : IsPossible (timing p)
    possible = plan_possible p plan

    first : ℕ
    first = c.line - c.row

    unit : ℕ
    unit = (c.since - 1) / p.unit

    place : ℕ
    place = (c.since - 1) % p.unit

    clock : c.since ≢ 0 → t ≡ start r c.line + unit * r.unit + place
    clock later = omega (arith, at.clock_is, none, later, div-add-mod' (c.since - 1) p.unit)

    no_start : c.since ≢ 0 → start_row p t c.line ≡ None
    no_start later = start_row_off p t c.line (λ e. later (omega (arith, at.clock_is, none, e)))

    symbol : c.since ≢ 0 → c.units.place < c.units.symbols → symbol_at r c.line t ≡ Some (carried r unit + place)
    symbol later inside =
        rw (clock later)
        (symbol_here r c.line unit place possible plan.fits
        (unit_carries r unit place (rw (at.units_is.place_is, at.units_is.symbols_is) at inside)))

    no_symbol : c.since ≢ 0 → c.units.symbols ≤ c.units.place → symbol_at r c.line t ≡ None
    no_symbol later past =
        rw (clock later)
        (symbol_missing r c.line unit place possible plan.fits (mod-lt (c.since - 1) possible.unit_from)
        (unit_done r unit place (rw (at.units_is.place_is, at.units_is.symbols_is) at past)))

    stuffing : c.since ≢ 0 → c.units.symbols ≤ c.units.place
        → stuffing_row p t c.line ≡ Some (Stuff (stuffing_of p.unit c.units.symbols c.units.place))
    stuffing later past =
        let gone : t - start r c.line ≡ c.since - 1 = omega (arith, at.clock_is, none, later) in
        rw (at.units_is.place_is, at.units_is.symbols_is)
        (stuffing_row_on p t c.line unit place active (omega (arith, at.clock_is, none, later))
        (omega (arith, at.clock_is, none, later, short))
        (rw gone refl) (rw gone refl) (rw (at.units_is.place_is, at.units_is.symbols_is) at past))

-- in a header's group and block
in_header_slot : (p : PlanFacts) (t index : ℕ) (c : Counters) → IsPlan p → StandsAt p t c → c.before ≡ 0
    → c.since ≡ line_end (timing p) + index + 1 → index < group_length p.link + block_length p.link
    → slot_in_header p c index ≡ line_slot p t c.line (c.line - c.row)
in_header_slot p t index c plan at none place short = elim (cases_lt index (group_length p.link)) [
  | inl group ↦ slot_group p c index group ∙ sym
      (line_group p t c.line first _ blank (group_row_on p t c.line index clock group))
  | inr block ↦
      slot_block p c index block
      ∙ ap (λ b. VbId (index - group_length p.link) (not b)) between
      ∙ sym (line_block p t c.line first _ blank (group_row_off p t c.line (inr (omega (arith, clock, block))))
      (block_row_on p t c.line (index - group_length p.link) (omega (arith, clock, block))
      (omega (arith, short, block))))
]
  where
    first : ℕ
    first = c.line - c.row

    clock : t ≡ header_start p c.line + index
    clock = omega (arith, at.clock_is, none, place)

    blank : IsBlank p t c.line
    blank = behind_line p t c.line plan (omega (arith, clock))

    between : (is_active_row p c.row && nat_lt (c.row + 1) p.mode.vtotal)
        ≡ (is_active p c.line && is_active p (c.line + 1))
    between =
        rw at.row_is
        (next_active p.mode.vtotal (p.mode.vtotal - p.mode.height) c.line (omega (arith, plan.mode.vtotal))
        (omega (arith, plan.mode.vtotal)))

slot_attributes : (p : PlanFacts) (c : Counters) (first : ℕ)
    → first ≡ line_end (timing p) + group_length p.link + block_length p.link + 1
    → first ≤ c.in_frame → c.in_frame < first + attributes_length p → slot_in_frame p c ≡ Msa (c.in_frame - first)
unfolding slot_in_frame
slot_attributes p c first e low high = rw (
  ← e,
  le-leb first c.in_frame low,
  lt-ltb c.in_frame (first + attributes_length p) high,
) refl

slot_nothing : (p : PlanFacts) (c : Counters) (first : ℕ)
    → first ≡ line_end (timing p) + group_length p.link + block_length p.link + 1
    → IsOutside first (attributes_length p) c.in_frame → slot_in_frame p c ≡ Fill
unfolding slot_in_frame
slot_nothing p c first e outside = rw (← e, among_none first (attributes_length p) c.in_frame outside) refl

-- behind a frame's first block
in_frame_slot : (p : PlanFacts) (t : ℕ) (c : Counters) → IsPlan p → StandsAt p t c → c.before ≡ 0
    → begins_frame p (c.line - c.row) ≡ true
    → slot_in_frame p c ≡ unwrap_or (first_some (attributes_row p t (c.line - c.row) ∷ [])) Fill
in_frame_slot p t c plan at none begins = elim (cases_lt c.in_frame first) [
  | inl early ↦ slot_nothing p c first refl (inl early) ∙ sym (nothing (inl (omega (arith, clock, early))))
  | inr begun ↦ elim (cases_lt c.in_frame (first + attributes_length p)) [
    | inl inside ↦
        slot_attributes p c first refl begun inside
        ∙ sym (something (attributes_row_on p t line (c.in_frame - first) begins (omega (arith, clock, begun))
        (omega (arith, begun, inside))))
    | inr late ↦ slot_nothing p c first refl (inr late) ∙ sym (nothing (inr (omega (arith, clock, late))))
  ]
]
  where
    first : ℕ
    first = line_end (timing p) + group_length p.link + block_length p.link + 1

    line : ℕ
    line = c.line - c.row

    clock : t + 1 ≡ start (timing p) line + c.in_frame
    clock = omega (arith, at.clock_is, none, at.in_frame_is)

    something : {index : ℕ} → attributes_row p t line ≡ Some (Msa index)
        → unwrap_or (first_some (attributes_row p t line ∷ [])) Fill ≡ Msa index
    something h = rw h refl

    nothing : IsOutside (header_start p line + group_length p.link + block_length p.link) (attributes_length p) t
        → unwrap_or (first_some (attributes_row p t line ∷ [])) Fill ≡ Fill
    nothing h = rw (attributes_row_off p t line h) refl

-- which part tells the slot
slot_at_first : (p : PlanFacts) (c : Counters) → 0 < c.before → slot p c ≡ Fill
unfolding slot
slot_at_first p c h = rw (lt-ltb 0 c.before h) refl

slot_line : (p : PlanFacts) (c : Counters) → c.before ≡ 0 → is_active_row p c.row ≡ true → c.since ≤ line_end (timing p)
    → slot p c ≡ slot_in_line p c
unfolding slot
slot_line p c none active short = rw (none, active, le-leb c.since (line_end (timing p)) short) refl

slot_header : (p : PlanFacts) (c : Counters) (index : ℕ) → c.before ≡ 0 → c.since ≡ line_end (timing p) + index + 1
    → index < group_length p.link + block_length p.link → slot p c ≡ slot_in_header p c index
unfolding slot
slot_header p c index none place short =
    let e : c.since - line_end (timing p) - 1 ≡ index = omega arith in
    rw (
      none,
      and_right (is_active_row p c.row) (nat_le c.since (line_end (timing p)))
          (lt-leb c.since (line_end (timing p)) (omega arith)),
      lt-ltb (line_end (timing p)) c.since (omega arith),
      le-leb (c.since - line_end (timing p)) (group_length p.link + block_length p.link) (omega arith),
      e,
    ) refl

slot_frame : (p : PlanFacts) (c : Counters) → c.before ≡ 0
    → line_end (timing p) + group_length p.link + block_length p.link < c.since
    → slot p c ≡ slot_in_frame p c
unfolding slot
slot_frame p c none late =
    rw (
      none,
      and_right (is_active_row p c.row) (nat_le c.since (line_end (timing p)))
          (lt-leb c.since (line_end (timing p)) (omega arith)),
      lt-ltb (line_end (timing p)) c.since (omega arith),
      lt-leb (c.since - line_end (timing p)) (group_length p.link + block_length p.link) (omega arith),
    ) refl

slot_blank : (p : PlanFacts) (c : Counters) → c.before ≡ 0 → is_active_row p c.row ≡ false
    → c.since ≤ line_end (timing p)
    → slot p c ≡ slot_in_frame p c
unfolding slot
slot_blank p c none blank short = rw (none, blank, le-ltb (line_end (timing p)) c.since short) refl

-- counters of a line tell what its rows give
in_line_is : (p : PlanFacts) (t : ℕ) (c : Counters) → IsPlan p → StandsAt p t c → t < clocks p → c.before ≡ 0
    → slot p c ≡ line_slot p t c.line (c.line - c.row)
in_line_is p t c plan at sent none = elim (cases_lt (line_end (timing p)) c.since) [
  | inl behind ↦ elim (cases_lt (line_end (timing p) + group_length p.link + block_length p.link) c.since) [
    | inl late ↦
        slot_frame p c none late ∙ in_frame_slot p t c plan at none begins
        ∙ sym (line_rest p t c.line first (behind_line p t c.line plan (omega (arith, at.clock_is, none, behind)))
        (group_row_off p t c.line (inr (omega (arith, at.clock_is, none, late))))
        (block_row_off p t c.line (inr (omega (arith, at.clock_is, none, late)))))
    | inr header ↦
        slot_header p c (c.since - line_end (timing p) - 1) none (omega (arith, behind)) (omega (arith, behind, header))
        ∙ in_header_slot p t (c.since - line_end (timing p) - 1) c plan at none (omega (arith, behind))
        (omega (arith, behind, header))
  ]
  | inr short ↦ elim (cases_Bool (is_active p c.line)) [
    | inl active ↦ slot_line p c none (row_active ∙ active) short ∙ in_line_slot p t c plan at none active short
    | inr blank ↦
        slot_blank p c none (row_active ∙ blank) short ∙ in_frame_slot p t c plan at none begins
        ∙ sym (line_rest p t c.line first (blank_line p t c.line blank)
        (group_row_off p t c.line (inl (omega (arith, at.clock_is, none, short))))
        (block_row_off p t c.line (inl (omega (arith, at.clock_is, none, short)))))
  ]
]
  where
    first : ℕ
    first = c.line - c.row

    row_active : is_active_row p c.row ≡ is_active p c.line
    row_active = rw at.row_is refl

    begins : begins_frame p (c.line - c.row) ≡ true
    begins = eq-eqb ((c.line - c.row) % p.mode.vtotal) 0 (in_line p t c plan at sent none).begins

pub slot_is : (p : PlanFacts) (t : ℕ) (c : Counters) → IsPlan p → StandsAt p t c → t < clocks p → slot p c ≡ slot_at p t
slot_is p t c plan at sent = elim (cases_lt 0 c.before) [
  | inl some ↦
      let e : c.line ≡ 0 = omega (arith, at.before_first some) in
      slot_at_first p c some
      ∙ sym (slot_before p t plan (omega (
        arith,
        at.clock_is,
        at.before_first some,
        some,
        ap (λ z. start (timing p) z) e,
      )) sent)
  | inr not_some ↦
      let none : c.before ≡ 0 = omega (arith, not_some) in
      in_line_is p t c plan at sent none ∙ sym
      (slot_of_line p t c.line (c.line - c.row) plan (in_line p t c plan at sent none) sent)
]
