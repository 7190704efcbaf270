-- The first of the lanes' faults, and the answer that names it.
use Rattle.std.specs.Prelude.{ℕ, ◌<◌, cond, nat_lt, List, Option, Some, None}
use Rattle.dpx_base.specs.Words.{words_of, BadAt}
use Rattle.dpx_base.specs.declared.place.Place.{Place}
use Rattle.dpx_code.specs.declared.decoding.CodeBad.TheVariants as Code
use Rattle.dpx_lane.specs.Reading.{IsFault}
use Rattle.dpx_lane.specs.declared.lane_fault.LaneFault.{LaneFault}
use Rattle.dpx_lane.specs.declared.lane_fault.WordBad.{WordBad}
use Rattle.dpx_lane.specs.declared.lane_fault.WordBad.TheVariants as Why
use Rattle.dpx_align.specs.declared.align_bad.AlignBad.{AlignBad}
use Rattle.dpx_align.specs.declared.align_bad.AlignBad.TheVariants.{BadWord, NotAWord, WrongColumn}

abbrev pub earlier_of : Option (ℕ × LaneFault) → (lane : ℕ) → LaneFault → ℕ × LaneFault
earlier_of None lane fault = (lane, fault)
earlier_of (Some found) lane fault = cond (nat_lt fault.clock found.1.clock) (lane, fault) found

abbrev pub best_with : Option (ℕ × LaneFault) → (lane : ℕ) → Option LaneFault → Option (ℕ × LaneFault)
best_with best lane None = best
best_with best lane (Some fault) = Some (earlier_of best lane fault)

-- Of the first n lanes' words none is bad; or this lane's fault stands at the least clock with a bad word, and no lower
-- lane has one at that clock.
abbrev pub FirstOf : (words : List (List ℕ)) → (n : ℕ) → Option (ℕ × LaneFault) → Type 0
FirstOf words n None = (lane clock : ℕ) → lane < n → BadAt (words_of words lane) clock → ⊥
FirstOf words n (Some found) =
    (found.0 < n)
    × IsFault (words_of words found.0) (Some found.1)
    × ((lane before : ℕ) → lane < n → before < found.1.clock → BadAt (words_of words lane) before → ⊥)
    × ((lane : ℕ) → lane < found.0 → BadAt (words_of words lane) found.1.clock → ⊥)

abbrev pub bad_for : WordBad → Place → AlignBad
bad_for (Why.Value value) place = BadWord place value
bad_for (Why.Code (Code.NotAWord word)) place = NotAWord place word
bad_for (Why.Code (Code.WrongColumn word rd)) place = WrongColumn place word

abbrev pub bad_of : (lane : ℕ) → LaneFault → AlignBad
bad_of lane fault = bad_for fault.why (record { clock = fault.clock; lane = lane })
