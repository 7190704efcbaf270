-- A ticker goes from clock to clock.
use Rattle.std.proofs.Common.{◌≡◌, ℕ, ◌<◌, ◌≤◌, ◌+◌, ◌-◌, ◌*◌, ◌/◌, ◌%◌, List, ◌++◌, length}
use Rattle.std.proofs.Common.{refl, sym, ap, arith, ◌∙◌, map, slice_index_or}
use Rattle.std.specs.List.{range_with_len}
use Rattle.std.proofs.Math.Nat.{div-add-mod}
use Rattle.dpx_base.specs.declared.pixel.Pixel.{Pixel}
use Rattle.dpx_base.specs.Lanes.{lanes_count}
use Rattle.dpx_base.specs.Mode.{depth_bits}
use Rattle.dpx_base.specs.Packing.{Line, line_byte}
use Rattle.dpx_base.specs.Plan.{PlanFacts, timing}
use Rattle.dpx_base.specs.Sets.{black, first_pixel, line_of, line_bytes}
use Rattle.dpx_base.specs.Timing.{symbols, bound, arrived_bytes, sent}
use Rattle.dpx_source.specs.LineSums.{total, active_line, active_lines, sent_before}
use Rattle.dpx_buffer.specs.Buffer.{bytes_whole}
use Rattle.dpx_pack.specs.Positions.{span}
use Rattle.dpx_pack.proofs.Spans.{span-same}
use Rattle.dpx_buffer.specs.Lane.{lane_of}
use Rattle.dpx_buffer.specs.Buffer.{BufferState, Holds, line_in, lane_byte}
use Rattle.dpx_buffer.proofs.Room.{waiting_count}
use Rattle.dpx_buffer.proofs.Stable.{byte_stable, byte_is, lane_byte_at}
use Rattle.dpx_source.proofs.Ready.{IsDue, IsReady}
use Rattle.dpx_base.specs.Beam.{pixels_before}
use Rattle.dpx_timing.proofs.Sizes.{bound_small}
use Rattle.dpx_source.specs.Ticker.{shown}
use Rattle.dpx_source.proofs.Arrived.{arrived_is}
use Rattle.dpx_source.proofs.ActiveLines.{line_rises, active_row, active_frame}
use Rattle.dpx_source.proofs.Order.{bytes_of_all}
use Rattle.dpx_source.proofs.Flow.{sent_at_place, sent_past_place, sent_no_place, arrived_at_place, waits_few}

pub rises : (p : PlanFacts) → IsReady p → (i k : ℕ) → i < k → active_line p i < active_line p k
rises p ready = line_rises p.mode.height p.mode.vtotal ready.mode.height.0 (omega (arith, ready.mode.vtotal))

pub sent_is_total : (p : PlanFacts) (t : ℕ)
    → sent_before p t ≡ total (λ i. sent (timing p) (active_line p i) t) (active_lines p)
unfolding sent_before
sent_is_total p t = refl

-- the bytes that the pixels before clock t make whole
pub whole_is : (p : PlanFacts) (t : ℕ) → IsReady p
    → bytes_whole (timing p) (pixels_before (shown p) t)
    ≡ total (λ i. arrived_bytes (timing p) (active_line p i) t) (active_lines p)
whole_is p t ready =
    ap (bytes_whole (timing p)) (arrived_is p t ready.planned)
    ∙ bytes_of_all (timing p) (active_line p) (active_lines p) t ready.possible (rises p ready)

pub due_sent : (p : PlanFacts) (t i j : ℕ) → IsReady p → IsDue p t i j → sent_before p t ≡ i * symbols (timing p) + j
due_sent p t i j ready due =
    sent_is_total p t ∙ sent_at_place (timing p) (active_line p) (active_lines p) t i j ready.possible ready.fits
    (rises p ready) due

pub due_next : (p : PlanFacts) (t i j : ℕ) → IsReady p → IsDue p t i j → sent_before p (t + 1) ≡ sent_before p t + 1
due_next p t i j ready due =
    omega (
      arith,
      sent_is_total p (t + 1),
      due_sent p t i j ready due,
      sent_past_place (timing p) (active_line p) (active_lines p) t i j ready.possible ready.fits (rises p ready) due,
    )

pub not_due_next : (p : PlanFacts) (t : ℕ) → ((i j : ℕ) → IsDue p t i j → ⊥) → sent_before p (t + 1) ≡ sent_before p t
not_due_next p t none =
    sent_is_total p (t + 1) ∙ (sent_no_place (timing p) (active_line p) (active_lines p) t none
    ∙ sym (sent_is_total p t))

-- never short
pub due_arrived : (p : PlanFacts) (t i j : ℕ) → IsReady p → IsDue p t i j
    → sent_before p t < bytes_whole (timing p) (pixels_before (shown p) t)
due_arrived p t i j ready due =
    omega (
      arith,
      due_sent p t i j ready due,
      whole_is p t ready,
      arrived_at_place (timing p) (active_line p) (active_lines p) t i j ready.possible ready.fits (rises p ready) due,
    )

bound_few : (p : PlanFacts) → IsReady p → bound (timing p) ≤ 34
bound_few p ready = bound_small p ready.planned

-- never over
pub sent_enough : (p : PlanFacts) (t : ℕ) → IsReady p
    → bytes_whole (timing p) (pixels_before (shown p) t) ≤ sent_before p t + 34
sent_enough p t ready =
    omega (
      arith,
      whole_is p t ready,
      sent_is_total p t,
      bound_few p ready,
      waits_few (timing p) (active_line p) (active_lines p) t ready.possible ready.fits (rises p ready),
    )

-- where a line's first pixel stands among all
first_is : (p : PlanFacts) (i : ℕ) → IsReady p → first_pixel p (active_line p i) ≡ i * p.mode.width
first_is p i ready =
    let v : ℕ = p.mode.height in
    let blank : ℕ = p.mode.vtotal - v in
    let n : i / v * v + (blank + i % v - blank) ≡ i = omega (arith, div-add-mod i v) in
    ap (λ z. (z * v + (active_line p i % p.mode.vtotal - blank)) * p.mode.width) (active_frame p i ready.planned)
    ∙ ap (λ z. (i / v * v + (z - blank)) * p.mode.width) (active_row p i ready.planned)
    ∙ ap (λ z. z * p.mode.width) n

abbrev line_from : PlanFacts → List Pixel → ℕ → Line
line_from p pixels from = record {
  width = p.mode.width;
  lanes = lanes_count p.link.lanes;
  depth = depth_bits p.mode.depth;
  pixel = λ x. slice_index_or pixels (from + x) black;
}

pub same_line : (p : PlanFacts) (pixels : List Pixel) (i : ℕ) → IsReady p
    → line_of p pixels (active_line p i) ≡ line_in p pixels i
same_line p pixels i ready =
    ap (λ z. line_from p pixels z) (first_is p i ready)

lanes_span : {A : Type 0} (f : ℕ → A) (n : ℕ) → map f (range_with_len 0 n) ≡ span f 0 n
unfolding span
lanes_span f n = refl

-- the bytes that are due are the first that wait, whatever comes later
pub due_bytes : (p : PlanFacts) (t i j : ℕ) (pixels more : List Pixel) → IsReady p → IsDue p t i j
    → length pixels ≡ pixels_before (shown p) t
    → span (λ lane. lane_byte p pixels lane (sent_before p t)) 0 (lanes_count p.link.lanes)
    ≡ line_bytes p (pixels ++ more) (active_line p i) j
due_bytes p t i j pixels more ready due count =
    span-same (λ lane. lane_byte p pixels lane (sent_before p t))
    (λ lane. line_byte (line_of p (pixels ++ more) (active_line p i)) lane j) 0 0 (lanes_count p.link.lanes)
    (λ lane few. byte lane few)
    ∙ sym (lanes_span (λ lane. line_byte (line_of p (pixels ++ more) (active_line p i)) lane j)
    (lanes_count p.link.lanes))
  where
    byte : (lane : ℕ) → lane < lanes_count p.link.lanes
        → lane_byte p pixels (0 + lane) (sent_before p t)
        ≡ line_byte (line_of p (pixels ++ more) (active_line p i)) (0 + lane) j
    byte lane few =
        let z : 0 + lane ≡ lane = omega arith in
        let s : sent_before p t ≡ i * symbols (timing p) + j = due_sent p t i j ready due in
        let whole : i * symbols (timing p) + j < bytes_whole (timing p) (length pixels) =
        omega (arith, s, due_arrived p t i j ready due, ap (bytes_whole (timing p)) count) in
        rw (z, s, same_line p (pixels ++ more) i ready)
        (sym (byte_stable p pixels more lane (i * symbols (timing p) + j) ready.possible few whole)
        ∙ (lane_byte_at p (pixels ++ more) lane i j due.symbol_in
        ∙ sym (byte_is (line_in p (pixels ++ more) i) lane j)))

-- a byte waits on each lane when a symbol is due
pub due_waits : (p : PlanFacts) (t i j : ℕ) (pixels : List Pixel) (b : BufferState) → IsReady p → IsDue p t i j
    → b.plan ≡ p → length pixels ≡ pixels_before (shown p) t
    → Holds pixels (sent_before p t) b → (lane : ℕ) → lane < lanes_count b.plan.link.lanes
    → 0 < length (lane_of b.lanes lane).waiting
due_waits p t i j pixels b ready due plan count h lane few =
    let whole : bytes_whole (timing b.plan) (length pixels) ≡ bytes_whole (timing p) (pixels_before (shown p) t) =
    ap (λ z. bytes_whole (timing z) (length pixels)) plan ∙ ap (bytes_whole (timing p)) count in
    omega (arith, whole, due_arrived p t i j ready due, waiting_count b pixels (sent_before p t) lane h few)
