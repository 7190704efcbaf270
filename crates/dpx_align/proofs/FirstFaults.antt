-- What the first of the lanes' faults says of their words.
use Rattle.std.proofs.Common.{◌≡◌, ℕ, ◌<◌, ◌≤◌, ◌+◌, List, length, take, inl, inr, refl, sym, ap, subst, ◌∙◌}
use Rattle.std.proofs.Common.{arith, Bool, true, false, cond, nat_lt, Option, Some, None}
use Rattle.std.specs.Prelude.{slice_index_or}
use Rattle.std.proofs.lemmas.Bool.{cases_lt, ltb-true, ltb-false}
use Rattle.std.proofs.lemmas.List.{get_or_append_left, take-append-le}
use Rattle.dpx_base.specs.Words.{words_of, BadAt}
use Rattle.dpx_base.specs.declared.place.Place.{Place}
use Rattle.dpx_code.specs.declared.decoding.CodeBad.TheVariants as Code
use Rattle.dpx_lane.specs.Reading.{IsReason, IsFault}
use Rattle.dpx_lane.specs.Team.{joined}
use Rattle.dpx_lane.specs.declared.lane_fault.LaneFault.{LaneFault}
use Rattle.dpx_lane.specs.declared.lane_fault.WordBad.{WordBad}
use Rattle.dpx_lane.specs.declared.lane_fault.WordBad.TheVariants as Why
use Rattle.dpx_align.specs.Aligner.{place_of, HasReason, IsFirstFault}
use Rattle.dpx_align.specs.Faults.{FaultAt, NoFault}
use Rattle.dpx_align.specs.FirstFault.{FirstOf, best_with, bad_for, bad_of}
use Rattle.dpx_align.specs.declared.align_bad.AlignBad.{AlignBad}
use Rattle.dpx_align.proofs.LaneSymbols.{bad_back, bad_on}
use Rattle.dpx_align.proofs.Teams.{words_of-joined, length-joined}

-- what holds of n lanes and of the next one holds of n + 1
below_or : (P : ℕ → Type 0) (n lane : ℕ) → ((k : ℕ) → k < n → P k) → P n → lane < n + 1 → P lane
below_or P n lane h p l = elim (cases_lt lane n) [
  | inl k ↦ h lane k
  | inr k ↦ subst P (omega (arith, k, l)) p
]

with_none : (words : List (List ℕ)) (n : ℕ) (fault : Option LaneFault) → FirstOf words n None
    → IsFault (words_of words n) fault → FirstOf words (n + 1) (best_with None n fault)
with_none words n None h i =
    λ lane clock l.
    below_or (λ k. BadAt (words_of words k) clock → ⊥) n lane (λ k m. h k clock m) (i clock) l
with_none words n (Some fault) h i = (
  omega arith,
  i,
  λ lane before l k.
      below_or (λ j. BadAt (words_of words j) before → ⊥) n lane (λ j m. h j before m) (i.0.first before k) l,
  λ lane l. h lane fault.clock l,
)

-- the next lane has no fault before the first one
with_later : (words : List (List ℕ)) (n : ℕ) (found : ℕ × LaneFault) → FirstOf words n (Some found)
    → ((before : ℕ) → before < found.1.clock → BadAt (words_of words n) before → ⊥)
    → FirstOf words (n + 1) (Some found)
with_later words n found h none = (
  omega (arith, h.0),
  h.1,
  λ lane before l k.
      below_or (λ j. BadAt (words_of words j) before → ⊥) n lane (λ j m. h.2 j before m k) (none before k) l,
  h.3,
)

with_sooner : (words : List (List ℕ)) (n : ℕ) (found : ℕ × LaneFault) (fault : LaneFault)
    → FirstOf words n (Some found) → IsFault (words_of words n) (Some fault) → fault.clock < found.1.clock
    → FirstOf words (n + 1) (Some (n, fault))
with_sooner words n found fault h i s = (
  omega arith,
  i,
  λ lane before l k.
      below_or (λ j. BadAt (words_of words j) before → ⊥) n lane (λ j m. h.2 j before m (omega (arith, k, s)))
      (i.0.first before k) l,
  λ lane l. h.2 lane fault.clock l s,
)

with_either : (words : List (List ℕ)) (n : ℕ) (found : ℕ × LaneFault) (fault : LaneFault) (b : Bool)
    → nat_lt fault.clock found.1.clock ≡ b → FirstOf words n (Some found) → IsFault (words_of words n) (Some fault)
    → FirstOf words (n + 1) (Some (cond b (n, fault) found))
with_either words n found fault true e h i =
    with_sooner words n found fault h i (ltb-true fault.clock found.1.clock e)
with_either words n found fault false e h i =
    with_later words n found h
    (λ before k. i.0.first before (omega (arith, k, ltb-false fault.clock found.1.clock e)))

-- the first of the lanes' faults, with one lane more
pub first_with : (words : List (List ℕ)) (n : ℕ) (best : Option (ℕ × LaneFault)) (fault : Option LaneFault)
    → FirstOf words n best → IsFault (words_of words n) fault → FirstOf words (n + 1) (best_with best n fault)
first_with words n None fault h i = with_none words n fault h i
first_with words n (Some found) None h i = with_later words n found h (λ before k. i before)
first_with words n (Some found) (Some fault) h i =
    with_either words n found fault (nat_lt fault.clock found.1.clock) refl h i

pub no_fault_on : (words : List (List ℕ)) (n : ℕ) → n ≡ length words → FirstOf words n None → NoFault words
no_fault_on words n size first lane clock l b = first lane clock (omega (arith, l, size)) b

pub fault_on : (words : List (List ℕ)) (n : ℕ) (found : ℕ × LaneFault) → n ≡ length words
    → FirstOf words n (Some found) → FaultAt words found.1.clock found.0
fault_on words n found size first = record {
  within = omega (arith, first.0, size);
  bad = first.1.0.bad;
  least = λ other before l b k. first.2 other before (omega (arith, l, size)) b k;
  lowest = λ other l k. first.3 other l k;
}

-- a lane's own fault is not before the first one
pub not_sooner : (words : List (List ℕ)) (n : ℕ) (found : ℕ × LaneFault) → FirstOf words n (Some found) → (lane : ℕ)
    → lane < n → (fault : Option LaneFault) → IsFault (words_of words lane) fault → (own : LaneFault)
    → fault ≡ Some own → found.1.clock ≤ own.clock
not_sooner words n found first lane l None i own is = cc
not_sooner words n found first lane l (Some fault) i own is =
    let same : fault ≡ own = cc in
    elim (cases_lt own.clock found.1.clock) [
      | inl k ↦
          absurd (first.2 lane own.clock l k
          (subst (λ (f : LaneFault). BadAt (words_of words lane) f.clock) same i.0.bad))
      | inr k ↦ k
    ]

pub no_other : (words : List (List ℕ)) (n : ℕ) → FirstOf words n None → (lane : ℕ) → lane < n
    → (fault : Option LaneFault) → IsFault (words_of words lane) fault → (own : LaneFault) → fault ≡ Some own → ⊥
no_other words n first lane l None i own is = cc
no_other words n first lane l (Some fault) i own is = first lane fault.clock l i.0.bad

pub place_is : (why : WordBad) (place : Place) → place_of (bad_for why place) ≡ place
place_is (Why.Value value) place = refl
place_is (Why.Code (Code.NotAWord word)) place = refl
place_is (Why.Code (Code.WrongColumn word rd)) place = refl

reason_is : (why : WordBad) (place : Place) (before : List ℕ) (word : ℕ) → IsReason before word why
    → HasReason before word (bad_for why place)
reason_is (Why.Value value) place before word h = h
reason_is (Why.Code (Code.NotAWord named)) place before word h = h
reason_is (Why.Code (Code.WrongColumn named rd)) place before word h = (rd, h)

first_is : (words : List (List ℕ)) (bad : AlignBad) (place : Place) → place_of bad ≡ place
    → FaultAt words place.clock place.lane
    → HasReason (take place.clock (words_of words place.lane))
    (slice_index_or (words_of words place.lane) place.clock 0) bad
    → IsFirstFault words bad
first_is words bad place e f r = record {
  fault = subst (λ (p : Place). FaultAt words p.clock p.lane) (sym e) f;
  reason = subst (λ (p : Place).
      HasReason (take p.clock (words_of words p.lane)) (slice_index_or (words_of words p.lane) p.clock 0) bad)
      (sym e) r;
}

pub first_fault_on : (words : List (List ℕ)) (n : ℕ) (found : ℕ × LaneFault) → n ≡ length words
    → FirstOf words n (Some found) → IsFirstFault words (bad_of found.0 found.1)
first_fault_on words n found size first =
    let fault = found.1 in
    let own = words_of words found.0 in
    let place : Place = record { clock = fault.clock; lane = found.0 } in
    first_is words (bad_of found.0 fault) place (place_is fault.why place) (fault_on words n found size first)
    (reason_is fault.why place (take fault.clock own) (slice_index_or own fault.clock 0) first.1.1)

-- a fault does not stand in words that had none
pub not_before : (words rows : List (List ℕ)) (clock lane fed : ℕ) → length rows ≡ length words
    → ((j : ℕ) → j < length words → length (words_of words j) ≡ fed) → NoFault words
    → FaultAt (joined words rows) clock lane → fed ≤ clock
not_before words rows clock lane fed size even none f =
    let l : lane < length words = omega (arith, f.within, length-joined words rows size) in
    let b = subst (λ (x : List ℕ). BadAt x clock) (words_of-joined words rows lane size l) f.bad in
    elim (cases_lt clock fed) [
      | inl k ↦
          absurd (none lane clock l
          (bad_back (words_of words lane) (words_of rows lane) clock (omega (arith, k, even lane l)) b))
      | inr k ↦ k
    ]

-- a fault stays, as clocks are added
fault_stays : (words rows : List (List ℕ)) (clock lane fed : ℕ) → length rows ≡ length words
    → ((j : ℕ) → j < length words → length (words_of words j) ≡ fed) → FaultAt words clock lane
    → FaultAt (joined words rows) clock lane
fault_stays words rows clock lane fed size even f =
    let n = length-joined words rows size in
    let high : clock < fed = omega (arith, f.bad.within, even lane f.within) in
    let back : (j t : ℕ) → j < length words → t < fed → BadAt (words_of (joined words rows) j) t
    → BadAt (words_of words j) t =
    λ j t l k b. bad_back (words_of words j) (words_of rows j) t (omega (arith, even j l, k))
    (subst (λ (x : List ℕ). BadAt x t) (words_of-joined words rows j size l) b) in
    record {
      within = omega (arith, n, f.within);
      bad = subst (λ (x : List ℕ). BadAt x clock) (sym (words_of-joined words rows lane size f.within))
          (bad_on (words_of words lane) (words_of rows lane) clock f.bad);
      least = λ j t l k b.
          let i : j < length words = omega (arith, n, l) in
          f.least j t i k (back j t i (omega (arith, k, high)) b);
      lowest = λ j l b. f.lowest j l (back j clock (omega (arith, l, f.within)) high b);
    }

pub first_stays : (words rows : List (List ℕ)) (bad : AlignBad) (fed : ℕ) → length rows ≡ length words
    → ((j : ℕ) → j < length words → length (words_of words j) ≡ fed) → IsFirstFault words bad
    → IsFirstFault (joined words rows) bad
first_stays words rows bad fed size even f =
    let clock = (place_of bad).clock in
    let lane = (place_of bad).lane in
    let row = words_of words lane in
    let k = f.fault.bad.within in
    let more = words_of rows lane in
    let e = words_of-joined words rows lane size f.fault.within in
    let front : take clock row ≡ take clock (words_of (joined words rows) lane) =
    sym (ap (take clock) e ∙ take-append-le clock row more (omega (arith, k))) in
    let word : slice_index_or row clock 0 ≡ slice_index_or (words_of (joined words rows) lane) clock 0 =
    sym (ap (λ (x : List ℕ). slice_index_or x clock 0) e ∙ get_or_append_left row more 0 clock k) in
    record {
      fault = fault_stays words rows clock lane fed size even f.fault;
      reason = subst (λ (x : List ℕ). HasReason x
          (slice_index_or (words_of (joined words rows) lane) clock 0) bad) front
          (subst (λ (w : ℕ). HasReason (take clock row) w bad) word f.reason);
    }
