-- What the periods tell: the attributes of each frame, and its lines.
use Rattle.std.proofs.Common.{ℕ, zero, suc, ◌+◌, ◌-◌, ◌*◌, ◌%◌, ◌<◌, ◌≤◌, ◌≡◌, ◌∙◌, Bool, true, false, List, [], ◌∷◌}
use Rattle.std.proofs.Common.{◌++◌, map, replicate, refl, sym, ap, arith, append_assoc, inl, inr}
use Rattle.std.specs.List.{AllByRecursion, range_with_len}
use Rattle.std.proofs.lemmas.Bool.{cases_lt, le-leb}
use Rattle.std.proofs.lemmas.List.{append-nil}
use Rattle.std.proofs.lemmas.Nat.{mod-mul-add}
use Rattle.dpx_base.specs.declared.pixel.Pixel.{Pixel}
use Rattle.dpx_base.specs.Plan.{PlanFacts, timing, IsPlan}
use Rattle.dpx_base.specs.Sets.{line_bytes}
use Rattle.dpx_base.specs.Slots.{is_active, begins_frame}
use Rattle.dpx_base.specs.Timing.{symbols}
use Rattle.dpx_grammar.specs.Parts.{Part, group, block, filler}
use Rattle.dpx_grammar.specs.Accepted.{ActivePart, FrameParts, frame_parts, lines_of, valid_rows, is_ended, unfinished}
use Rattle.dpx_inversion.specs.Source.{plan_lanes, zero_row, resets, attribute_rows}
use Rattle.dpx_inversion.proofs.Quiet.{IsQuiet, quiet_shown, told_quiet, lines_quiet, unfinished_quiet, ended_behind}
use Rattle.dpx_inversion.proofs.Quiet.{rows_shown}
use Rattle.dpx_inversion.proofs.Actives.{shown_line, line_shown, line_rows}
use Rattle.dpx_inversion.proofs.Plans.{possible}
use Rattle.dpx_inversion.proofs.Periods.{id_rows, blank_of, active_of, spare, period, not_both}

-- the parts from a line's header on, so many lines and one more header
unfoldable pub from : PlanFacts → List Pixel → ℕ → ℕ → List Part
from p pixels a zero = group (resets a) ∷ block (id_rows p a) ∷ []
from p pixels a (suc n) = period p pixels a ++ from p pixels (a + 1) n

from_is_ended : (p : PlanFacts) (pixels : List Pixel) (a n : ℕ) → is_ended (from p pixels a n) ≡ true
unfolding from period
from_is_ended p pixels a zero = refl
from_is_ended p pixels a (suc n) = refl

from_shows_none : (p : PlanFacts) (pixels : List Pixel) (a n : ℕ) → valid_rows (from p pixels a n) ≡ []
unfolding from period
from_shows_none p pixels a zero = refl
from_shows_none p pixels a (suc n) = refl

fillers_quiet : (n : ℕ) (row : List ℕ) → AllByRecursion IsQuiet (replicate n (filler row))
fillers_quiet zero row = tt
fillers_quiet (suc n) row = (tt, fillers_quiet n row)

shown_quiet : (p : PlanFacts) (pixels : List Pixel) (line : ℕ)
    → AllByRecursion IsQuiet (shown_line (timing p) (line_bytes p pixels line) (zero_row p))
shown_quiet p pixels line =
    quiet_shown (shown_line (timing p) (line_bytes p pixels line) (zero_row p))
    (line_shown (timing p) (line_bytes p pixels line) (zero_row p))

-- an active line as it is told
unfoldable pub sent_line : PlanFacts → List Pixel → ℕ → ActivePart
sent_line p pixels line = record {
  rows = map (line_bytes p pixels line) (range_with_len 0 (symbols (timing p)));
  is_whole = true;
}

-- ---- the active part of a line, before a rest

told_active : (p : PlanFacts) (pixels : List Pixel) (line : ℕ) (active : Bool) (rest : List Part)
    → frame_parts (active_of p pixels line active ++ rest) ≡ frame_parts rest
unfolding active_of
told_active p pixels line true rest = told_quiet (shown_line (timing p) (line_bytes p pixels line) (zero_row p)) rest
    (shown_quiet p pixels line)
told_active p pixels line false rest = refl

lines_active : (p : PlanFacts) (pixels : List Pixel) (line n : ℕ) → IsPlan p
    → lines_of (active_of p pixels line true ++ from p pixels line n)
    ≡ sent_line p pixels line ∷ lines_of (from p pixels line n)
unfolding active_of sent_line
lines_active p pixels line n plan =
    let xs : List Part = shown_line (timing p) (line_bytes p pixels line) (zero_row p) in
    let ys : List Part = from p pixels line n in
    let rows : valid_rows (xs ++ ys) ≡ map (line_bytes p pixels line) (range_with_len 0 (symbols (timing p))) =
    rows_shown xs ys (line_shown (timing p) (line_bytes p pixels line) (zero_row p))
    ∙ ap (λ zs. valid_rows xs ++ zs) (from_shows_none p pixels line n)
    ∙ append-nil (valid_rows xs)
    ∙ line_rows (timing p) (line_bytes p pixels line) (zero_row p) (possible p plan) in
    let whole : is_ended (xs ++ ys) ≡ true =
    ended_behind xs ys (line_shown (timing p) (line_bytes p pixels line) (zero_row p))
    ∙ from_is_ended p pixels line n in
    rw (rows, whole) (ap (λ zs. record {
      rows = map (line_bytes p pixels line) (range_with_len 0 (symbols (timing p)));
      is_whole = true;
    } ∷ zs)
    (lines_quiet xs ys (shown_quiet p pixels line)))

unfinished_active : (p : PlanFacts) (pixels : List Pixel) (line : ℕ) (active : Bool) (rest : List Part)
    → is_ended rest ≡ true
    → unfinished p.link.enhanced (plan_lanes p) (active_of p pixels line active ++ rest) 0
    ≡ unfinished p.link.enhanced (plan_lanes p) rest 0
unfolding active_of
unfinished_active p pixels line true rest h =
    let xs : List Part = shown_line (timing p) (line_bytes p pixels line) (zero_row p) in
    rw (ended_behind xs rest (line_shown (timing p) (line_bytes p pixels line) (zero_row p)) ∙ h)
    (unfinished_quiet p.link.enhanced (plan_lanes p) 0 xs rest (shown_quiet p pixels line))
unfinished_active p pixels line false rest h = refl

-- ---- a whole period, before a rest

told_blank : (p : PlanFacts) (n : ℕ) (rest : List Part) → frame_parts (blank_of p false n ++ rest) ≡ frame_parts rest
unfolding blank_of
told_blank p n rest = told_quiet (replicate n (filler (zero_row p))) rest (fillers_quiet n (zero_row p))

lines_blank : (p : PlanFacts) (n : ℕ) (rest : List Part) → lines_of (blank_of p false n ++ rest) ≡ lines_of rest
unfolding blank_of
lines_blank p n rest = lines_quiet (replicate n (filler (zero_row p))) rest (fillers_quiet n (zero_row p))

told_attributes : (p : PlanFacts) (n : ℕ) (rest : List Part)
    → frame_parts (blank_of p true n ++ rest)
    ≡ record { rows = attribute_rows p; lines = lines_of rest } ∷ frame_parts rest
unfolding blank_of
told_attributes p n rest =
    ap (λ l. record { rows = attribute_rows p; lines = l } ∷ frame_parts (replicate n (filler (zero_row p)) ++ rest))
    (lines_quiet (replicate n (filler (zero_row p))) rest (fillers_quiet n (zero_row p)))
    ∙ ap (λ t. record { rows = attribute_rows p; lines = lines_of rest } ∷ t)
    (told_quiet (replicate n (filler (zero_row p))) rest (fillers_quiet n (zero_row p)))

lines_attributes : (p : PlanFacts) (n : ℕ) (rest : List Part) → lines_of (blank_of p true n ++ rest) ≡ []
unfolding blank_of
lines_attributes p n rest = refl

unfinished_blank : (p : PlanFacts) (first : Bool) (n : ℕ) (rest : List Part)
    → unfinished p.link.enhanced (plan_lanes p) (blank_of p first n ++ rest) 0
    ≡ unfinished p.link.enhanced (plan_lanes p) rest 0
unfolding blank_of
unfinished_blank p true n rest = unfinished_quiet p.link.enhanced (plan_lanes p) 0
    (replicate n (filler (zero_row p))) rest (fillers_quiet n (zero_row p))
unfinished_blank p false n rest = unfinished_quiet p.link.enhanced (plan_lanes p) 0
    (replicate n (filler (zero_row p))) rest (fillers_quiet n (zero_row p))

-- ---- line by line

told_other : (p : PlanFacts) (pixels : List Pixel) (a n : ℕ) → begins_frame p a ≡ false
    → frame_parts (from p pixels a (suc n)) ≡ frame_parts (from p pixels (a + 1) n)
unfolding from period
told_other p pixels a n other =
    ap frame_parts (append_assoc (blank_of p (begins_frame p a) (spare p a))
    (active_of p pixels (a + 1) (is_active p (a + 1))) (from p pixels (a + 1) n))
    ∙ ap (λ b. frame_parts (blank_of p b (spare p a) ++
    (active_of p pixels (a + 1) (is_active p (a + 1)) ++ from p pixels (a + 1) n))) other
    ∙ told_blank p (spare p a) (active_of p pixels (a + 1) (is_active p (a + 1)) ++ from p pixels (a + 1) n)
    ∙ told_active p pixels (a + 1) (is_active p (a + 1)) (from p pixels (a + 1) n)

told_first : (p : PlanFacts) (pixels : List Pixel) (a n : ℕ) → IsPlan p → begins_frame p a ≡ true
    → frame_parts (from p pixels a (suc n))
    ≡ record { rows = attribute_rows p; lines = lines_of (from p pixels (a + 1) n) } ∷ frame_parts
    (from p pixels (a + 1) n)
unfolding from period active_of
told_first p pixels a n plan first =
    ap frame_parts (append_assoc (blank_of p (begins_frame p a) (spare p a))
    (active_of p pixels (a + 1) (is_active p (a + 1))) (from p pixels (a + 1) n))
    ∙ ap (λ b. frame_parts (blank_of p b (spare p a) ++
    (active_of p pixels (a + 1) (is_active p (a + 1)) ++ from p pixels (a + 1) n))) first
    ∙ ap (λ b. frame_parts (blank_of p true (spare p a) ++ (active_of p pixels (a + 1) b ++ from p pixels (a + 1) n)))
    (not_both p a plan first)
    ∙ told_attributes p (spare p a) (from p pixels (a + 1) n)

lines_first : (p : PlanFacts) (pixels : List Pixel) (a n : ℕ) → begins_frame p a ≡ true
    → lines_of (from p pixels a n) ≡ []
unfolding from period
lines_first p pixels a zero first = refl
lines_first p pixels a (suc n) first =
    ap lines_of (append_assoc (blank_of p (begins_frame p a) (spare p a))
    (active_of p pixels (a + 1) (is_active p (a + 1))) (from p pixels (a + 1) n))
    ∙ ap (λ b. lines_of (blank_of p b (spare p a) ++
    (active_of p pixels (a + 1) (is_active p (a + 1)) ++ from p pixels (a + 1) n))) first
    ∙ lines_attributes p (spare p a) (active_of p pixels (a + 1) (is_active p (a + 1)) ++ from p pixels (a + 1) n)

none : (p : PlanFacts) (pixels : List Pixel) (a : ℕ) → lines_of (from p pixels a 0) ≡ []
unfolding from
none p pixels a = refl

lines_none : (p : PlanFacts) (pixels : List Pixel) (a n : ℕ) → begins_frame p a ≡ false → is_active p (a + 1) ≡ false
    → lines_of (from p pixels a (suc n)) ≡ lines_of (from p pixels (a + 1) n)
unfolding from period active_of
lines_none p pixels a n other blank =
    ap lines_of (append_assoc (blank_of p (begins_frame p a) (spare p a))
    (active_of p pixels (a + 1) (is_active p (a + 1))) (from p pixels (a + 1) n))
    ∙ ap (λ b. lines_of (blank_of p b (spare p a) ++
    (active_of p pixels (a + 1) (is_active p (a + 1)) ++ from p pixels (a + 1) n))) other
    ∙ lines_blank p (spare p a) (active_of p pixels (a + 1) (is_active p (a + 1)) ++ from p pixels (a + 1) n)
    ∙ ap (λ b. lines_of (active_of p pixels (a + 1) b ++ from p pixels (a + 1) n)) blank

lines_one : (p : PlanFacts) (pixels : List Pixel) (a n : ℕ) → IsPlan p → begins_frame p a ≡ false
    → is_active p (a + 1) ≡ true
    → lines_of (from p pixels a (suc n)) ≡ sent_line p pixels (a + 1) ∷ lines_of (from p pixels (a + 1) n)
unfolding from period
lines_one p pixels a n plan other active =
    ap lines_of (append_assoc (blank_of p (begins_frame p a) (spare p a))
    (active_of p pixels (a + 1) (is_active p (a + 1))) (from p pixels (a + 1) n))
    ∙ ap (λ b. lines_of (blank_of p b (spare p a) ++
    (active_of p pixels (a + 1) (is_active p (a + 1)) ++ from p pixels (a + 1) n))) other
    ∙ lines_blank p (spare p a) (active_of p pixels (a + 1) (is_active p (a + 1)) ++ from p pixels (a + 1) n)
    ∙ ap (λ b. lines_of (active_of p pixels (a + 1) b ++ from p pixels (a + 1) n)) active
    ∙ lines_active p pixels (a + 1) n plan

pub all_finished : (p : PlanFacts) (pixels : List Pixel) (a n : ℕ)
    → unfinished p.link.enhanced (plan_lanes p) (from p pixels a n) 0 ≡ 0
unfolding from period
all_finished p pixels a zero = refl
all_finished p pixels a (suc n) =
    ap (λ xs. unfinished p.link.enhanced (plan_lanes p) xs 0)
    (append_assoc (blank_of p (begins_frame p a) (spare p a)) (active_of p pixels (a + 1) (is_active p (a + 1)))
    (from p pixels (a + 1) n))
    ∙ unfinished_blank p (begins_frame p a) (spare p a)
    (active_of p pixels (a + 1) (is_active p (a + 1)) ++ from p pixels (a + 1) n)
    ∙ unfinished_active p pixels (a + 1) (is_active p (a + 1)) (from p pixels (a + 1) n)
    (from_is_ended p pixels (a + 1) n)
    ∙ all_finished p pixels (a + 1) n

-- ---- where a line stands in its frame

begins_at : (p : PlanFacts) (f : ℕ) → IsPlan p → begins_frame p (f * p.mode.vtotal) ≡ true
begins_at p f plan =
    let e : f * p.mode.vtotal ≡ f * p.mode.vtotal + 0 = omega arith in
    let m : f * p.mode.vtotal % p.mode.vtotal ≡ 0 =
    ap (λ z. z % p.mode.vtotal) e ∙ mod-mul-add f p.mode.vtotal 0 (omega (arith, plan.mode.vtotal.0)) in
    rw m (grind arith)

within_frame : (p : PlanFacts) (f i : ℕ) → 1 ≤ i → i < p.mode.vtotal → begins_frame p (f * p.mode.vtotal + i) ≡ false
within_frame p f i from to = rw (mod-mul-add f p.mode.vtotal i to) (grind arith)

active_at : (p : PlanFacts) (f i : ℕ) → i < p.mode.vtotal → p.mode.vtotal - p.mode.height ≤ i
    → is_active p (f * p.mode.vtotal + i) ≡ true
active_at p f i to from = rw (mod-mul-add f p.mode.vtotal i to) (le-leb (p.mode.vtotal - p.mode.height) i from)

blank_at : (p : PlanFacts) (f i : ℕ) → i < p.mode.vtotal → i < p.mode.vtotal - p.mode.height
    → is_active p (f * p.mode.vtotal + i) ≡ false
blank_at p f i to before = rw (mod-mul-add f p.mode.vtotal i to) (grind arith)

-- the lines of a frame that come behind line i, of which the first is active line y
unfoldable pub sent_lines : PlanFacts → List Pixel → (f y n : ℕ) → List ActivePart
sent_lines p pixels f y n = map (λ z. sent_line p pixels (f * p.mode.vtotal + (p.mode.vtotal - p.mode.height) + z))
    (range_with_len y n)

lines_behind : (p : PlanFacts) (pixels : List Pixel) (f d i y n : ℕ) → IsPlan p → 1 ≤ i → i + d + 1 ≡ p.mode.vtotal
    → d ≤ n
    → y ≡ i + 1 - (p.mode.vtotal - p.mode.height)
    → lines_of (from p pixels (f * p.mode.vtotal + i) n) ≡ sent_lines p pixels f y (p.mode.height - y)
unfolding sent_lines
lines_behind p pixels f zero i y zero plan some last room is =
    let e : p.mode.height - y ≡ 0 = omega (arith, plan.mode.vtotal.0) in
    rw e (none p pixels (f * p.mode.vtotal + i))
lines_behind p pixels f zero i y (suc n) plan some last room is =
    let e : p.mode.height - y ≡ 0 = omega (arith, plan.mode.vtotal.0) in
    let next : f * p.mode.vtotal + i + 1 ≡ (f + 1) * p.mode.vtotal = omega arith in
    let next0 : f * p.mode.vtotal + i + 1 ≡ (f + 1) * p.mode.vtotal + 0 = omega arith in
    let blank : is_active p (f * p.mode.vtotal + i + 1) ≡ false =
    ap (is_active p) next0 ∙ blank_at p (f + 1) 0 (omega (arith, plan.mode.vtotal.0))
    (omega (arith, plan.mode.vtotal.0)) in
    rw e (
    lines_none p pixels (f * p.mode.vtotal + i) n (within_frame p f i some (omega arith)) blank
    ∙ lines_first p pixels (f * p.mode.vtotal + i + 1) n (ap (begins_frame p) next ∙ begins_at p (f + 1) plan))
lines_behind p pixels f (suc d) i y zero plan some last room is = absurd (omega arith)
lines_behind p pixels f (suc d) i y (suc n) plan some last room is =
    elim (cases_lt (i + 1) (p.mode.vtotal - p.mode.height)) [
      | inl before ↦
          let e : f * p.mode.vtotal + i + 1 ≡ f * p.mode.vtotal + (i + 1) = omega arith in
          lines_none p pixels (f * p.mode.vtotal + i) n (within_frame p f i some (omega arith))
          (ap (is_active p) e ∙ blank_at p f (i + 1) (omega arith) before)
          ∙ ap (λ a. lines_of (from p pixels a n)) e
          ∙ lines_behind p pixels f d (i + 1) y n plan (omega arith) (omega arith) (omega arith) (omega arith)
      | inr behind ↦
          let e : f * p.mode.vtotal + i + 1 ≡ f * p.mode.vtotal + (i + 1) = omega arith in
          let g : f * p.mode.vtotal + i + 1 ≡ f * p.mode.vtotal + (p.mode.vtotal - p.mode.height) + y = omega arith in
          let left : p.mode.height - y ≡ suc (p.mode.height - (y + 1)) = omega (arith, plan.mode.vtotal.0) in
          lines_one p pixels (f * p.mode.vtotal + i) n plan (within_frame p f i some (omega arith))
          (ap (is_active p) e ∙ active_at p f (i + 1) (omega arith) behind)
          ∙ ap (λ a. sent_line p pixels a ∷ lines_of (from p pixels (f * p.mode.vtotal + i + 1) n)) g
          ∙ ap (λ xs. sent_line p pixels (f * p.mode.vtotal + (p.mode.vtotal - p.mode.height) + y) ∷ xs)
          (ap (λ a. lines_of (from p pixels a n)) e
          ∙ lines_behind p pixels f d (i + 1) (y + 1) n plan (omega arith) (omega arith) (omega arith) (omega arith))
          ∙ ap (λ k. map (λ z. sent_line p pixels (f * p.mode.vtotal + (p.mode.vtotal - p.mode.height) + z))
          (range_with_len y k)) (sym left)
    ]

-- ---- frame by frame

unfoldable pub told_frame : PlanFacts → List Pixel → ℕ → FrameParts
told_frame p pixels f = record { rows = attribute_rows p; lines = sent_lines p pixels f 0 p.mode.height }

told_here : (p : PlanFacts) (pixels : List Pixel) (f n : ℕ) → IsPlan p → p.mode.vtotal ≤ n + 2
    → frame_parts (from p pixels (f * p.mode.vtotal) (suc n))
    ≡ told_frame p pixels f ∷ frame_parts (from p pixels (f * p.mode.vtotal + 1) n)
unfolding told_frame
told_here p pixels f n plan room =
    let z : p.mode.height - 0 ≡ p.mode.height = omega arith in
    told_first p pixels (f * p.mode.vtotal) n plan (begins_at p f plan)
    ∙ ap (λ l. record { rows = attribute_rows p; lines = l } ∷ frame_parts (from p pixels (f * p.mode.vtotal + 1) n))
    (lines_behind p pixels f (p.mode.vtotal - 2) 1 0 n plan (omega arith) (omega (arith, plan.mode.vtotal.0))
    (omega arith) (omega (arith, plan.mode.vtotal.0))
    ∙ ap (sent_lines p pixels f 0) z)

-- the lines behind the first tell no attributes, up to the next frame and up to the end
skip_frame : (p : PlanFacts) (pixels : List Pixel) (f d i m : ℕ) → 1 ≤ i → i + d ≡ p.mode.vtotal
    → frame_parts (from p pixels (f * p.mode.vtotal + i) (d + m))
    ≡ frame_parts (from p pixels ((f + 1) * p.mode.vtotal) m)
skip_frame p pixels f zero i m some is =
    let e : 0 + m ≡ m = omega arith in
    let g : f * p.mode.vtotal + i ≡ (f + 1) * p.mode.vtotal = omega arith in
    ap (λ k. frame_parts (from p pixels (f * p.mode.vtotal + i) k)) e ∙ ap (λ a. frame_parts (from p pixels a m)) g
skip_frame p pixels f (suc d) i m some is =
    let e : suc d + m ≡ suc (d + m) = omega arith in
    let g : f * p.mode.vtotal + i + 1 ≡ f * p.mode.vtotal + (i + 1) = omega arith in
    ap (λ k. frame_parts (from p pixels (f * p.mode.vtotal + i) k)) e
    ∙ told_other p pixels (f * p.mode.vtotal + i) (d + m) (within_frame p f i some (omega arith))
    ∙ ap (λ a. frame_parts (from p pixels a (d + m))) g
    ∙ skip_frame p pixels f d (i + 1) m (omega arith) (omega arith)

none_told : (p : PlanFacts) (pixels : List Pixel) (a : ℕ) → frame_parts (from p pixels a 0) ≡ []
unfolding from
none_told p pixels a = refl

skip_last : (p : PlanFacts) (pixels : List Pixel) (f n i : ℕ) → 1 ≤ i → i + n + 1 ≡ p.mode.vtotal
    → frame_parts (from p pixels (f * p.mode.vtotal + i) n) ≡ []
skip_last p pixels f zero i some is = none_told p pixels (f * p.mode.vtotal + i)
skip_last p pixels f (suc n) i some is =
    let g : f * p.mode.vtotal + i + 1 ≡ f * p.mode.vtotal + (i + 1) = omega arith in
    told_other p pixels (f * p.mode.vtotal + i) n (within_frame p f i some (omega arith))
    ∙ ap (λ a. frame_parts (from p pixels a n)) g
    ∙ skip_last p pixels f n (i + 1) (omega arith) (omega arith)

pub told_frames : (p : PlanFacts) (pixels : List Pixel) (f m : ℕ) → IsPlan p
    → frame_parts (from p pixels (f * p.mode.vtotal) (suc m * p.mode.vtotal - 1))
    ≡ map (told_frame p pixels) (range_with_len f (suc m))
told_frames p pixels f zero plan =
    let e : suc zero * p.mode.vtotal - 1 ≡ suc (p.mode.vtotal - 2) = omega (arith, plan.mode.vtotal.0) in
    ap (λ k. frame_parts (from p pixels (f * p.mode.vtotal) k)) e
    ∙ told_here p pixels f (p.mode.vtotal - 2) plan (omega arith)
    ∙ ap (λ ts. told_frame p pixels f ∷ ts) (skip_last p pixels f (p.mode.vtotal - 2) 1 (omega arith)
    (omega (arith, plan.mode.vtotal.0)))
told_frames p pixels f (suc m) plan =
    let n : ℕ = suc m * p.mode.vtotal - 1 in
    let e : suc (suc m) * p.mode.vtotal - 1 ≡ suc (p.mode.vtotal - 1 + (suc m * p.mode.vtotal - 1)) =
    omega (arith, plan.mode.vtotal.0) in
    ap (λ k. frame_parts (from p pixels (f * p.mode.vtotal) k)) e
    ∙ told_here p pixels f (p.mode.vtotal - 1 + n) plan (omega arith)
    ∙ ap (λ ts. told_frame p pixels f ∷ ts)
    (skip_frame p pixels f (p.mode.vtotal - 1) 1 n (omega arith) (omega (arith, plan.mode.vtotal.0))
    ∙ told_frames p pixels (f + 1) m plan)
