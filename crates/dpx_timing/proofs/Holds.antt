-- What holds of every line that fits, and of every plan.
use Rattle.std.proofs.Common.{ℕ, zero, suc, ◌+◌, ◌<◌, ◌≤◌, ◌≡◌, arith, inl, inr}
use Rattle.std.proofs.lemmas.Bool.{cases_lt}
use Rattle.dpx_base.specs.Timing.{Timing, IsPossible, IsFit, NeverShort, NeverOver, symbols, carried, place, start}
use Rattle.dpx_base.specs.Timing.{sent_among, sent, last_unit}
use Rattle.dpx_base.specs.TimingLaws.{IsCadence, IsApart, IsSending}
use Rattle.dpx_base.specs.Plan.{PlanFacts, IsPlan, timing}
use Rattle.dpx_timing.specs.Schedule.{IsSchedule}
use Rattle.dpx_timing.proofs.Headers.{attributes_fit}
use Rattle.dpx_timing.proofs.Over.{line_never_over}
use Rattle.dpx_timing.proofs.Short.{line_never_short}
use Rattle.dpx_timing.proofs.Sizes.{plan_possible, bound_small}
use Rattle.dpx_timing.proofs.Units.{carried_rises, unit_starts, unit_ends, unit_one, unit_holds, unit_gives}
use Rattle.dpx_timing.proofs.Units.{place_rises, place_strict, place_from}
use Rattle.dpx_timing.proofs.Lines.{last_unit_ends, last_unit_least, start_gap, sent_by_end, one_line_waits}
use Rattle.dpx_timing.proofs.Lines.{last_unit_starts}
use Rattle.dpx_timing.proofs.Counts.{sent_next, sent_stays, sent_most, all_sent}

pub never_short : (r : Timing) → IsPossible r → IsFit r → NeverShort r
never_short r legal fit = λ line j h. omega (arith, line_never_short r line j legal fit h)

pub never_over : (r : Timing) → IsPossible r → IsFit r → NeverOver r
never_over r legal fit = λ line t. line_never_over r line t legal fit

pub cadence : (r : Timing) → IsPossible r → IsFit r → IsCadence r
cadence r legal fit = record {
  rises = λ i k h. carried_rises r i k legal h;
  one = λ j h. (unit_starts r j legal, unit_ends r j legal h);
  no_other = λ j k h. unit_one r j k legal h.0 h.1;
  holds = λ k. unit_holds r k legal fit;
  gives = λ k h. unit_gives r k legal fit (before_last k h);
  ends = last_unit_ends r legal;
  least = λ k h. last_unit_least r k legal h;
}
  where
    before_last : (k : ℕ) → k ≤ last_unit r → carried r k < symbols r
    before_last k h = omega (arith, last_unit_starts r legal, carried_rises r k (last_unit r) legal h)

pub apart : (r : Timing) → IsPossible r → IsFit r → IsApart r
apart r legal fit = record {
  gap_kept = λ line. start_gap r line legal;
  sent_by_end = λ line t h. sent_by_end r line t legal fit h;
  one_line = λ line later t h. one_line_waits r line later t legal fit h;
}

-- a symbol after one that has not gone out has not gone out
pub count_stops : (r : Timing) (line t s j : ℕ) → s ≤ j → ((i : ℕ) → s ≤ i → i < j → t ≤ place r line i)
    → sent_among r line t j ≡ sent_among r line t s
count_stops r line t s zero h k = let e : s ≡ 0 = omega arith in rw e
count_stops r line t s (suc j) h k = elim (cases_lt j s) [
  | inl whole ↦ let e : s ≡ suc j = omega arith in rw e
  | inr less ↦ omega (
    arith,
    sent_stays r line t j (k j less (omega arith)),
    count_stops r line t s j less (λ i a b. k i a (omega arith)),
  )
]

-- the count of symbols that have gone out is s where the first s have and the next has not
pub sent_is : (r : Timing) (line t s : ℕ) → IsPossible r → IsFit r → s ≤ symbols r
    → ((i : ℕ) → i < s → place r line i < t) → (s < symbols r → t ≤ place r line s) → sent r line t ≡ s
unfolding sent
sent_is r line t s legal fit h out next =
    omega (arith, count_stops r line t s (symbols r) h stop, all_sent r line t s out)
  where
    stop : (i : ℕ) → s ≤ i → i < symbols r → t ≤ place r line i
    stop i a b = omega (arith, next (omega arith), place_rises r line s i legal fit a b)

-- what has been counted has gone out
pub sent_out : (r : Timing) (line t i : ℕ) → IsPossible r → IsFit r → i < sent r line t → place r line i < t
unfolding sent
sent_out r line t i legal fit h = elim (cases_lt (place r line i) t) [
  | inl out ↦ out
  | inr still ↦ absurd (early still)
]
  where
    early : t ≤ place r line i → ⊥
    early still =
        omega (
          arith,
          count_stops r line t i (symbols r) (omega (arith, sent_most r line t (symbols r)))
              (λ k a b. omega (arith, place_rises r line i k legal fit a b)),
          sent_most r line t i,
        )

pub sent_all : (r : Timing) (line t : ℕ) → sent r line t ≤ symbols r
unfolding sent
sent_all r line t = sent_most r line t (symbols r)

pub sending : (r : Timing) → IsPossible r → IsFit r → IsSending r
sending r legal fit = record {
  at_first =
      λ line. sent_is r line (start r line) 0 legal fit (omega arith) (λ i h. absurd (omega arith))
      (λ h. place_from r line 0);
  takes = λ line t more now. sent_is r line (t + 1) (sent r line t + 1) legal fit (omega arith)
      (λ i h. omega (arith, place_rises r line i (sent r line t) legal fit (omega arith) more))
      (λ h. omega (arith, place_strict r line (sent r line t) (sent r line t + 1) legal fit (omega arith) h));
  keeps = λ line t more later. sent_is r line (t + 1) (sent r line t) legal fit (omega arith)
      (λ i h. omega (arith, sent_out r line t i legal fit h)) (λ h. omega arith);
  never_late = λ line t more. sent_next r line t legal fit more;
  done = λ line t all. sent_is r line (t + 1) (symbols r) legal fit (omega arith)
      (λ i h. omega (arith, sent_out r line t i legal fit (omega arith))) (λ h. absurd (omega arith));
}

pub schedule : (p : PlanFacts) → IsPlan p → IsSchedule p
schedule p plan = record {
  never_short = never_short (timing p) possible plan.fits;
  never_over = never_over (timing p) possible plan.fits;
  few_wait = bound_small p plan;
  cadence = cadence (timing p) possible plan.fits;
  apart = apart (timing p) possible plan.fits;
  sending = sending (timing p) possible plan.fits;
  attributes_end = λ line. attributes_fit p line plan;
}
  where
    possible : IsPossible (timing p)
    possible = plan_possible p plan
