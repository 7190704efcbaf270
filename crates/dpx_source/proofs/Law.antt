-- The line that waits.
use Rattle.std.proofs.Common.{◌≡◌, ℕ, ◌<◌, ◌≤◌, ◌+◌, ◌-◌, ◌*◌, ◌⊎◌, List, [], length, refl, sym, ap, arith}
use Rattle.std.proofs.Common.{◌∙◌, false, inl, inr}
use Rattle.std.proofs.lemmas.Bool.{cases_lt}
use Rattle.dpx_base.specs.declared.pixel.Pixel.{Pixel}
use Rattle.dpx_base.specs.Lanes.{lanes_count}
use Rattle.dpx_base.specs.Packing.{line_byte}
use Rattle.dpx_base.specs.Plan.{PlanFacts, timing}
use Rattle.dpx_base.specs.Sets.{line_of}
use Rattle.dpx_base.specs.Timing.{Timing, IsPossible, IsFit, symbols, arrived, arrived_bytes, sent, waiting}
use Rattle.dpx_source.specs.LineSums.{total, active_line, active_lines, sent_before}
use Rattle.dpx_buffer.specs.Buffer.{bytes_whole}
use Rattle.dpx_timing.proofs.Short.{bytes_whole as whole_line}
use Rattle.dpx_timing.proofs.Over.{bytes_most}
use Rattle.dpx_timing.proofs.Holds.{sent_out}
use Rattle.dpx_timing.proofs.Lines.{one_line_waits, sent_by_end}
use Rattle.dpx_timing.proofs.Units.{place_from}
use Rattle.dpx_pack.specs.Positions.{span}
use Rattle.dpx_pack.proofs.Spans.{span-same, span-none}
use Rattle.dpx_buffer.specs.Lane.{lane_of}
use Rattle.dpx_buffer.specs.Buffer.{lane_byte, line_in}
use Rattle.dpx_buffer.proofs.Stable.{byte_is, lane_byte_at}
use Rattle.dpx_source.proofs.Ready.{IsReady}
use Rattle.dpx_source.specs.Ticker.{TickerState, StandsFor, sets_given}
use Rattle.dpx_source.proofs.Order.{sent_few, arrived_in_order, no_bytes}
use Rattle.dpx_source.proofs.Sums.{total_at, total_le}
use Rattle.dpx_source.proofs.Stands.{rises, whole_is, same_line, sent_is_total}
use Rattle.dpx_source.proofs.Flow.{earlier_ended}
use Rattle.dpx_source.proofs.Emits.{given_none}

waits_is : (r : Timing) (line t : ℕ) → waiting r line t ≡ arrived_bytes r line t - sent r line t
unfolding waiting
waits_is r line t = refl

-- a later line has sent nothing while a line waits
later_none : (r : Timing) (line later t : ℕ) → IsPossible r → IsFit r → line < later → 0 < waiting r line t
    → sent r later t ≡ 0
later_none r line later t legal fit h some = elim (cases_lt 0 (sent r later t)) [
  | inl more ↦
      absurd (omega (
        arith,
        some,
        waits_is r line t,
        bytes_most r line t legal,
        sent_by_end r line t legal fit (omega (
          arith,
          earlier_ended r line later legal fit h,
          place_from r later 0,
          sent_out r later t 0 legal fit more,
        )),
      ))
  | inr none ↦ omega (arith, none)
]

-- the only line that waits
pub record IsWaiting (r : Timing) (line : ℕ → ℕ) (m t i : ℕ) : Type 0 where
  pub sent_is : total (λ a. sent r (line a) t) m ≡ i * symbols r + sent r (line i) t
  pub arrived_is : total (λ a. arrived_bytes r (line a) t) m ≡ i * symbols r + arrived_bytes r (line i) t

waits_alone : (r : Timing) (line : ℕ → ℕ) (m t i : ℕ) → IsPossible r → IsFit r → ((a b : ℕ) → a < b → line a < line b)
    → i < m → 0 < waiting r (line i) t
    → IsWaiting r line m t i
waits_alone r line m t i legal fit rise h some =
    let pixel : 0 < arrived r (line i) t = there in
    let full : (a : ℕ) → a < i → arrived_bytes r (line a) t ≡ symbols r =
    λ a k. whole_line r (line a) t (arrived_in_order r (line a) (line i) t legal (rise a i k) pixel) in
    let before : (a : ℕ) → a < i → sent r (line a) t ≡ symbols r =
    λ a k. omega (
      arith,
      full a k,
      sent_few r (line a) t legal fit,
      waits_is r (line a) t,
      other_none (line a) (line i) (one_line_waits r (line a) (line i) t legal fit (rise a i k)) some,
    ) in
    let after : (a : ℕ) → i < a → a < m → sent r (line a) t ≡ 0 =
    λ a k b. later_none r (line i) (line a) t legal fit (rise i a k) some in
    let after_bytes : (a : ℕ) → i < a → a < m → arrived_bytes r (line a) t ≡ 0 =
    λ a k b. omega (
      arith,
      after a k b,
      waits_is r (line a) t,
      other_none_2 (line i) (line a) (one_line_waits r (line i) (line a) t legal fit (rise i a k)) some,
    ) in
    record {
      sent_is = total_at (λ a. sent r (line a) t) (symbols r) i m h before after;
      arrived_is = total_at (λ a. arrived_bytes r (line a) t) (symbols r) i m h full after_bytes;
    }
  where
    there : 0 < arrived r (line i) t
    there = elim (cases_lt 0 (arrived r (line i) t)) [
      | inl there_is ↦ there_is
      | inr zero_ ↦ absurd (omega (
        arith,
        some,
        waits_is r (line i) t,
        no_bytes r (line i) t legal (omega (arith, zero_)),
      ))
    ]

    other_none : (x y : ℕ) → (waiting r x t ≡ 0) ⊎ (waiting r y t ≡ 0) → 0 < waiting r y t → waiting r x t ≡ 0
    other_none x y (inl e) more = e
    other_none x y (inr e) more = absurd (omega (arith, e, more))

    other_none_2 : (x y : ℕ) → (waiting r x t ≡ 0) ⊎ (waiting r y t ≡ 0) → 0 < waiting r x t → waiting r y t ≡ 0
    other_none_2 x y (inl e) more = absurd (omega (arith, e, more))
    other_none_2 x y (inr e) more = e

-- At the start of a clock what waits is exactly the bytes of the one line that has any, from those that went out to
-- those that have arrived.
pub waiting_law : (t : TickerState) (pixels : List Pixel) (i lane : ℕ) → IsReady t.plan → t.given ≡ false
    → StandsFor pixels t → i < active_lines t.plan
    → 0 < waiting (timing t.plan) (active_line t.plan i) t.clock → lane < lanes_count t.plan.link.lanes
    → (lane_of t.buffer.lanes lane).waiting
    ≡ span (line_byte (line_of t.plan pixels (active_line t.plan i)) lane)
    (sent (timing t.plan) (active_line t.plan i) t.clock) (waiting (timing t.plan) (active_line t.plan i) t.clock)
waiting_law t pixels i lane ready given s h some few =
    let p : PlanFacts = t.plan in
    let r : Timing = timing p in
    let line : ℕ = active_line p i in
    let alone : IsWaiting r (active_line p) (active_lines p) t.clock i =
    waits_alone r (active_line p) (active_lines p) t.clock i ready.possible ready.fits (rises p ready) h some in
    let from : sent_before p (sets_given t) ≡ i * symbols r + sent r line t.clock =
    ap (sent_before p) (given_none t given) ∙ (sent_is_total p t.clock ∙ alone.sent_is) in
    let whole : bytes_whole (timing t.buffer.plan) (length pixels) ≡ i * symbols r + arrived_bytes r line t.clock =
    ap (λ z. bytes_whole (timing z) (length pixels)) s.plan
    ∙ (ap (bytes_whole r) s.arrived ∙ (whole_is p t.clock ready ∙ alone.arrived_is)) in
    let count : bytes_whole (timing t.buffer.plan) (length pixels) - sent_before p (sets_given t)
    ≡ waiting r line t.clock =
    omega (arith, from, whole, waits_is r line t.clock) in
    let few_ : lane < lanes_count t.buffer.plan.link.lanes =
    omega (arith, few, ap (λ z. lanes_count z.link.lanes) s.plan) in
    s.buffer.waiting lane few_
    ∙ (ap (λ z. span (lane_byte z pixels lane) (sent_before p (sets_given t))
    (bytes_whole (timing t.buffer.plan) (length pixels) - sent_before p (sets_given t))) s.plan
    ∙ (ap (λ z. span (lane_byte p pixels lane) z
    (bytes_whole (timing t.buffer.plan) (length pixels) - sent_before p (sets_given t))) from
    ∙ (ap (λ z. span (lane_byte p pixels lane) (i * symbols r + sent r line t.clock) z) count
    ∙ span-same (lane_byte p pixels lane) (line_byte (line_of p pixels line) lane) (i * symbols r + sent r line t.clock)
    (sent r line t.clock) (waiting r line t.clock)
    (λ k small. byte k (omega (arith, small, waits_is r line t.clock, bytes_most r line t.clock ready.possible))))))
  where
    byte : (k : ℕ) → sent (timing t.plan) (active_line t.plan i) t.clock + k < symbols (timing t.plan)
        → lane_byte t.plan pixels lane (i * symbols (timing t.plan) + sent (timing t.plan)
        (active_line t.plan i) t.clock + k)
        ≡ line_byte (line_of t.plan pixels (active_line t.plan i)) lane
        (sent (timing t.plan) (active_line t.plan i) t.clock + k)
    byte k small =
        let e : i * symbols (timing t.plan) + sent (timing t.plan) (active_line t.plan i) t.clock + k
        ≡ i * symbols (timing t.plan) + (sent (timing t.plan) (active_line t.plan i) t.clock + k) = omega arith in
        rw (e, same_line t.plan pixels i ready)
        (lane_byte_at t.plan pixels lane i (sent (timing t.plan) (active_line t.plan i) t.clock + k) small
        ∙ sym (byte_is (line_in t.plan pixels i) lane (sent (timing t.plan) (active_line t.plan i) t.clock + k)))

-- and where no line has bytes, none wait
pub none_wait : (t : TickerState) (pixels : List Pixel) (lane : ℕ) → IsReady t.plan → t.given ≡ false
    → StandsFor pixels t
    → ((i : ℕ) → i < active_lines t.plan → waiting (timing t.plan) (active_line t.plan i) t.clock ≡ 0)
    → lane < lanes_count t.plan.link.lanes → (lane_of t.buffer.lanes lane).waiting ≡ []
none_wait t pixels lane ready given s none few =
    let p : PlanFacts = t.plan in
    let r : Timing = timing p in
    let from : sent_before p (sets_given t) ≡ total (λ i. sent r (active_line p i) t.clock) (active_lines p) =
    ap (sent_before p) (given_none t given) ∙ sent_is_total p t.clock in
    let whole : bytes_whole (timing t.buffer.plan) (length pixels)
    ≡ total (λ i. arrived_bytes r (active_line p i) t.clock) (active_lines p) =
    ap (λ (z : PlanFacts). bytes_whole (timing z) (length pixels)) s.plan
    ∙ (ap (bytes_whole r) s.arrived ∙ whole_is p t.clock ready) in
    let le : total (λ i. arrived_bytes r (active_line p i) t.clock) (active_lines p)
    ≤ total (λ i. sent r (active_line p i) t.clock) (active_lines p) =
    total_le (λ i. arrived_bytes r (active_line p i) t.clock) (λ i. sent r (active_line p i) t.clock)
    (active_lines p) (λ i h. omega (arith, none i h, waits_is r (active_line p i) t.clock)) in
    let count : bytes_whole (timing t.buffer.plan) (length pixels) - sent_before p (sets_given t) ≡ 0 =
    omega (arith, from, whole, le) in
    let within : lane < lanes_count t.buffer.plan.link.lanes =
    omega (arith, few, ap (λ (z : PlanFacts). lanes_count z.link.lanes) s.plan) in
    s.buffer.waiting lane within
    ∙ ap (λ z. span (lane_byte t.buffer.plan pixels lane) (sent_before p (sets_given t)) z) count
    ∙ span-none (lane_byte t.buffer.plan pixels lane) (sent_before p (sets_given t))
