-- A request that is asked until an answer ends it: this project's own.
use Rattle.std.specs.Prelude.{◌≡◌, ℕ, ◌+◌, ◌<◌, List, [], ◌∷◌, ◌++◌, length, map, Result, Err, ⊤}
use Rattle.std.specs.List.{AllByRecursion}
use Rattle.dpx_base.specs.declared.aux_port.Answer.{Answer}
use Rattle.dpx_base.specs.declared.aux_port.Entry.{Entry}
use Rattle.dpx_base.specs.declared.aux_port.Entry.TheVariants.{Asked}
use Rattle.dpx_base.specs.Port.{PortState, Added}
use Rattle.dpx_aux.specs.declared.asking.LastAnswer.{LastAnswer}
use Rattle.dpx_aux.specs.declared.asking.Heard.{Heard}
use Rattle.dpx_aux.specs.declared.asking.Heard.TheVariants.{End, InVain}

-- how often a request is asked at most
abbrev pub asks_at_most : ℕ
asks_at_most = 8

abbrev pub IsInVain : {E : Type 0} → Heard E → Type 0
IsInVain (End result) = ⊥
IsInVain (InVain last) = ⊤

-- these bytes were asked, and answered so
abbrev pub asked_with : List ℕ → List Answer → List Entry
asked_with bytes answers = map (λ answer. Asked bytes answer) answers

-- these bytes were asked once, and this is what was heard
pub record Hears {E Plan : Type 0} (bytes : List ℕ) (heard_from : Answer → Heard E) (before now : PortState Plan)
    (heard : Heard E) : Type 0 where
  pub answer : Answer
  pub added : Added (asked_with bytes (answer ∷ [])) before now
  pub meant : heard ≡ heard_from answer

-- The last ask ends it by what was heard, or it was the last that may be.
abbrev pub EndsAs : {E : Type 0} → (LastAnswer → E) → ℕ → Heard E → Result (List ℕ) E → Type 0
EndsAs spent asked (End end) given = given ≡ end
EndsAs spent asked (InVain last) given = (asked ≡ asks_at_most) × (given ≡ Err (spent last))

-- The bytes are asked, and asked again while that is in vain, at most so often.
pub record AsksInTurn {E : Type 0} (bytes : List ℕ) (heard_from : Answer → Heard E) (spent : LastAnswer → E)
    (given : Result (List ℕ) E) (history : List Entry) : Type 0 where
  pub tried : List Answer
  pub last : Answer
  pub few : length tried < asks_at_most
  pub in_vain : AllByRecursion (λ answer. IsInVain (heard_from answer)) tried
  pub asked : history ≡ asked_with bytes (tried ++ last ∷ [])
  pub ends : EndsAs spent (length tried + 1) (heard_from last) given
