-- What goes out and what waits, over all lines.
use Rattle.std.proofs.Common.{ℕ, zero, suc, ◌+◌, ◌-◌, ◌*◌, ◌<◌, ◌≤◌, ◌≡◌, arith, inl, inr, refl}
use Rattle.std.proofs.lemmas.Bool.{cases_lt, cases_order}
use Rattle.dpx_base.specs.Timing.{Timing, IsPossible, IsFit, symbols, start, line_end, bound, arrived}
use Rattle.dpx_base.specs.Timing.{arrived_bytes, place, sent, sent_among, waiting}
use Rattle.dpx_source.specs.LineSums.{total}
use Rattle.dpx_source.proofs.Ready.{IsPlace}
use Rattle.dpx_timing.proofs.Short.{line_never_short}
use Rattle.dpx_timing.proofs.Short.{bytes_whole as whole_line}
use Rattle.dpx_timing.proofs.Over.{line_never_over}
use Rattle.dpx_timing.proofs.Units.{place_rises, place_strict, place_from}
use Rattle.dpx_timing.proofs.Lines.{start_gap, start_rises, sent_by_end, one_line_waits, last_place}
use Rattle.dpx_timing.proofs.Counts.{sent_step, sent_stays}
use Rattle.dpx_timing.proofs.Holds.{sent_is}
use Rattle.dpx_source.proofs.Sums.{total_same, total_full, total_more, total_at, total_le, total_less}
use Rattle.dpx_source.proofs.Sums.{total_one}
use Rattle.dpx_source.proofs.Order.{sent_few, arrived_in_order, no_bytes}

-- an earlier line has ended when a later one begins
pub earlier_ended : (r : Timing) (line later : ℕ) → IsPossible r → IsFit r → line < later
    → start r line + line_end r ≤ start r later
earlier_ended r line later legal fit h =
    omega (arith, start_gap r line legal, start_rises r (line + 1) later legal (omega (arith, h)), fit.room)

-- At clocks from the place of symbol j to the next symbol's, this line has sent that many, the earlier ones all, the
-- later none.
pub sent_all_at : (r : Timing) (line : ℕ → ℕ) (m i s t : ℕ) → IsPossible r → IsFit r
    → ((a b : ℕ) → a < b → line a < line b)
    → i < m → sent r (line i) t ≡ s → start r (line i) ≤ t → t ≤ start r (line i) + line_end r
    → total (λ a. sent r (line a) t) m ≡ i * symbols r + s
sent_all_at r line m i s t legal fit rise h is from to =
    omega (
      arith,
      is,
      total_at (λ a. sent r (line a) t) (symbols r) i m h
          (λ a k. sent_by_end r (line a) t legal fit
          (omega (arith, earlier_ended r (line a) (line i) legal fit (rise a i k), from)))
          (λ a k b. sent_is r (line a) t 0 legal fit (omega arith) (λ x y. absurd (omega (arith, y)))
          (λ z. omega (
            arith,
            place_from r (line a) 0,
            earlier_ended r (line i) (line a) legal fit (rise i a k),
            to,
          ))),
    )

pub place_before_end : (r : Timing) (line j : ℕ) → IsPossible r → IsFit r → j < symbols r
    → place r line j + 1 ≤ start r line + line_end r
place_before_end r line j legal fit h =
    omega (
      arith,
      last_place r line legal,
      place_rises r line j (symbols r - 1) legal fit (omega (arith, h))
          (omega (arith, h)),
    )

-- what has gone out when a symbol goes out
pub sent_at_place : (r : Timing) (line : ℕ → ℕ) (m t i j : ℕ) → IsPossible r → IsFit r
    → ((a b : ℕ) → a < b → line a < line b)
    → IsPlace r line m t i j → total (λ a. sent r (line a) t) m ≡ i * symbols r + j
sent_at_place r line m t i j legal fit rise p =
    sent_all_at r line m i j t legal fit rise p.line_in
    (sent_is r (line i) t j legal fit (omega (arith, p.symbol_in))
    (λ a k. omega (arith, p.at, place_strict r (line i) a j legal fit k p.symbol_in))
    (λ k. omega (arith, p.at)))
    (omega (arith, p.at, place_from r (line i) j))
    (omega (arith, p.at, place_before_end r (line i) j legal fit p.symbol_in))

-- and a clock later
pub sent_past_place : (r : Timing) (line : ℕ → ℕ) (m t i j : ℕ) → IsPossible r → IsFit r
    → ((a b : ℕ) → a < b → line a < line b)
    → IsPlace r line m t i j → total (λ a. sent r (line a) (t + 1)) m ≡ i * symbols r + j + 1
sent_past_place r line m t i j legal fit rise p =
    omega (
      arith,
      sent_all_at r line m i (j + 1) (t + 1) legal fit rise p.line_in
          (sent_is r (line i) (t + 1) (j + 1) legal fit (omega (arith, p.symbol_in))
          (λ a k. omega (arith, p.at, place_rises r (line i) a j legal fit (omega (arith, k)) p.symbol_in))
          (λ k. omega (arith, p.at, place_strict r (line i) j (j + 1) legal fit (omega arith) k)))
          (omega (arith, p.at, place_from r (line i) j))
          (omega (arith, p.at, place_before_end r (line i) j legal fit p.symbol_in)),
    )

-- a clock that is no symbol's place sends nothing
pub count_same : (r : Timing) (line t j : ℕ) → ((i : ℕ) → i < j → place r line i ≡ t → ⊥)
    → sent_among r line (t + 1) j ≡ sent_among r line t j
unfolding sent_among
count_same r line t zero none = refl
count_same r line t (suc j) none = elim (cases_order (place r line j) t) [
  | inl same ↦ absurd (none j (omega arith) same)
  | inr (inl less) ↦
      omega (
        arith,
        count_same r line t j (λ i h. none i (omega (arith, h))),
        sent_step r line t j less,
        sent_step r line (t + 1) j (omega (arith, less)),
      )
  | inr (inr more) ↦
      omega (
        arith,
        count_same r line t j (λ i h. none i (omega (arith, h))),
        sent_stays r line t j (omega (arith, more)),
        sent_stays r line (t + 1) j (omega (arith, more)),
      )
]

pub sent_same : (r : Timing) (line t : ℕ) → ((j : ℕ) → j < symbols r → place r line j ≡ t → ⊥)
    → sent r line (t + 1) ≡ sent r line t
unfolding sent
sent_same r line t none = count_same r line t (symbols r) none

pub sent_no_place : (r : Timing) (line : ℕ → ℕ) (m t : ℕ) → ((i j : ℕ) → IsPlace r line m t i j → ⊥)
    → total (λ a. sent r (line a) (t + 1)) m ≡ total (λ a. sent r (line a) t) m
sent_no_place r line m t none =
    total_same (λ a. sent r (line a) (t + 1)) (λ a. sent r (line a) t) m
    (λ i h. sent_same r (line i) t (λ j k e. none i j (record { line_in = h; symbol_in = k; at = e })))

-- where a symbol goes out it has arrived
pub arrived_at_place : (r : Timing) (line : ℕ → ℕ) (m t i j : ℕ) → IsPossible r → IsFit r
    → ((a b : ℕ) → a < b → line a < line b)
    → IsPlace r line m t i j → i * symbols r + j < total (λ a. arrived_bytes r (line a) t) m
arrived_at_place r line m t i j legal fit rise p =
    let some : j < arrived_bytes r (line i) t = rw p.at at (line_never_short r (line i) j legal fit p.symbol_in) in
    let pixel : 0 < arrived r (line i) t = there some in
    let full : total (λ a. arrived_bytes r (line a) t) i ≡ i * symbols r =
    total_full (λ a. arrived_bytes r (line a) t) (symbols r) i
    (λ a h. whole_line r (line a) t (arrived_in_order r (line a) (line i) t legal (rise a i h) pixel)) in
    omega (
      arith,
      some,
      full,
      total_more (λ a. arrived_bytes r (line a) t) i,
      total_grows (λ a. arrived_bytes r (line a) t) (suc i) m p.line_in,
    )
  where
    there : j < arrived_bytes r (line i) t → 0 < arrived r (line i) t
    there some = elim (cases_lt 0 (arrived r (line i) t)) [
      | inl there_is ↦ there_is
      | inr zero_ ↦ absurd (omega (arith, some, no_bytes r (line i) t legal (omega (arith, zero_))))
    ]

    total_grows : (f : ℕ → ℕ) (a b : ℕ) → a ≤ b → total f a ≤ total f b
    total_grows f a zero h = let e : a ≡ 0 = omega (arith, h) in rw e (omega arith)
    total_grows f a (suc b) h = elim (cases_lt b a) [
      | inl whole ↦ let e : a ≡ suc b = omega (arith, h, whole) in rw e (omega arith)
      | inr less ↦ omega (arith, total_more f b, total_grows f a b less)
    ]

-- no more has gone out than has come
pub sent_le : (r : Timing) (line : ℕ → ℕ) (m t : ℕ) → IsPossible r → IsFit r
    → total (λ a. sent r (line a) t) m ≤ total (λ a. arrived_bytes r (line a) t) m
sent_le r line m t legal fit = total_le (λ a. sent r (line a) t) (λ a. arrived_bytes r (line a) t) m
    (λ i h. sent_few r (line i) t legal fit)

pub waiting_is : (r : Timing) (line t : ℕ) → arrived_bytes r line t - sent r line t ≡ waiting r line t
unfolding waiting
waiting_is r line t = refl

-- and what waits is within the bound
pub waits_few : (r : Timing) (line : ℕ → ℕ) (m t : ℕ) → IsPossible r → IsFit r → ((a b : ℕ) → a < b → line a < line b)
    → total (λ a. arrived_bytes r (line a) t) m ≤ total (λ a. sent r (line a) t) m + bound r
waits_few r line m t legal fit rise =
    let e : total (λ a. arrived_bytes r (line a) t - sent r (line a) t) m ≡ total (λ a. waiting r (line a) t) m =
    total_same (λ a. arrived_bytes r (line a) t - sent r (line a) t) (λ a. waiting r (line a) t) m
    (λ i h. waiting_is r (line i) t) in
    omega (
      arith,
      e,
      total_less (λ a. sent r (line a) t) (λ a. arrived_bytes r (line a) t) m (λ i h. sent_few r (line i) t legal fit),
      total_one (λ a. waiting r (line a) t) (bound r) m (λ i. line_never_over r (line i) t legal fit)
          (λ i k h. one_line_waits r (line i) (line k) t legal fit (rise i k h)),
    )
