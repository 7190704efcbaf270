-- The table of a source's sets, row by row.
use Rattle.std.specs.Prelude.{ℕ, ◌≡◌, ◌<◌, ◌≤◌, ◌+◌, ◌-◌, ◌*◌, ◌/◌, ◌%◌, ◌==◌, ◌&&◌, Bool, true, not, if◌then◌else◌}
use Rattle.std.specs.Prelude.{List, [], ◌∷◌, ◌++◌, map, replicate, slice_index, slice_index_or}
use Rattle.std.specs.List.{range_with_len}
use Rattle.dpx_base.specs.declared.pixel.Pixel.{Pixel}
use Rattle.dpx_base.specs.declared.sym.Sym.{Sym}
use Rattle.dpx_base.specs.Attributes.{attributes_bytes, column_symbol, block_byte}
use Rattle.dpx_base.specs.Lanes.{lanes_count}
use Rattle.dpx_base.specs.Plan.{PlanFacts, timing, lines, group_length}
use Rattle.dpx_base.specs.Sets.{line_bytes}
use Rattle.dpx_base.specs.Slots.{is_active, begins_frame}
use Rattle.dpx_base.specs.Symbols.{be, ss, se, fs, fe}
use Rattle.dpx_base.specs.Timing.{symbols, carried, place, start, last_unit, line_end}
use Rattle.dpx_grammar.specs.Parts.{data_set, control_set, group_code, group_sets}

abbrev pub plan_lanes : PlanFacts → ℕ
plan_lanes p = lanes_count p.link.lanes

-- every 512th header resets the scramblers
unfoldable pub resets : (line : ℕ) → Bool
resets line = line % 512 == 0

-- row i of the block behind line's group
unfoldable pub id_row : PlanFacts → (line i : ℕ) → List ℕ
id_row p line i = replicate (plan_lanes p) (block_byte p.mode (not (is_active p line && is_active p (line + 1))) i)

unfoldable pub attribute_rows : PlanFacts → List (List ℕ)
attribute_rows p =
    map (λ index. map (λ lane. slice_index (attributes_bytes p.mode p.link) (column_symbol p.link.lanes lane index))
    (range_with_len 0 (plan_lanes p)))
    (range_with_len 0 (36 / plan_lanes p))

abbrev pub attribute_sets : PlanFacts → List (List Sym)
attribute_sets p =
    control_set (plan_lanes p) ss ∷ control_set (plan_lanes p) ss ∷
    (map data_set (attribute_rows p) ++ control_set (plan_lanes p) se ∷ [])

unfoldable pub zero_row : PlanFacts → List ℕ
zero_row p = replicate (plan_lanes p) 0

-- clock i of a unit with so many symbols
unfoldable pub stuffing_set : PlanFacts → (symbols i : ℕ) → List Sym
stuffing_set p symbols i =
    if i + 1 == p.unit then control_set (plan_lanes p) fe
    else if i == symbols then control_set (plan_lanes p) fs
    else data_set (zero_row p)

unfoldable pub head_at : PlanFacts → (line : ℕ) → ℕ
head_at p line = start (timing p) line + line_end (timing p)

-- the clocks of a header, with the attributes that may follow it
unfoldable pub header_length : PlanFacts → (line : ℕ) → ℕ
header_length p line = group_length p.link + 12 / plan_lanes p +
    (if begins_frame p line then 3 + 36 / plan_lanes p else 0)

-- what the table says of the clocks from the first header on
pub record IsTable (p : PlanFacts) (pixels : List Pixel) (at : ℕ → List Sym) : Type 0 where
  pub begun : (line : ℕ) → line < lines p → is_active p line ≡ true
      → at (start (timing p) line - 1) ≡ control_set (plan_lanes p) be
  pub valid : (line j : ℕ) → line < lines p → is_active p line ≡ true → j < symbols (timing p)
      → at (place (timing p) line j) ≡ data_set (line_bytes p pixels line j)
  pub stuffed : (line k i : ℕ) → line < lines p → is_active p line ≡ true → k < last_unit (timing p)
      → carried (timing p) (k + 1) ≤ carried (timing p) k + i → i < p.unit
      → at (start (timing p) line + k * p.unit + i)
      ≡ stuffing_set p (carried (timing p) (k + 1) - carried (timing p) k) i
  pub headed : (line i : ℕ) → line < lines p → i < group_length p.link
      → at (head_at p line + i) ≡ slice_index_or
      (group_sets p.link.enhanced (plan_lanes p) (group_code (resets line))) i []
  pub identified : (line i : ℕ) → line < lines p → i < 12 / plan_lanes p
      → at (head_at p line + group_length p.link + i) ≡ data_set (id_row p line i)
  pub attributed : (line i : ℕ) → line + 1 < lines p → begins_frame p line ≡ true → i < 3 + 36 / plan_lanes p
      → at (head_at p line + group_length p.link + 12 / plan_lanes p + i) ≡ slice_index_or (attribute_sets p) i []
  pub filled : (line t : ℕ) → line + 1 < lines p → head_at p line + header_length p line ≤ t
      → t + (if is_active p (line + 1) then line_end (timing p) + 1 else 0) < head_at p (line + 1)
      → at t ≡ data_set (zero_row p)
