-- Lanes side by side, each with its own state.
use Rattle.std.specs.Prelude.{ℕ, ◌+◌, ◌*◌, List, [], ◌∷◌, ◌++◌}
use Rattle.dpx_base.specs.declared.lanes.Lanes.{Lanes}
use Rattle.dpx_lane.specs.Receiving.{HasRead}
use Rattle.dpx_lane.specs.Rows.{lane_by_lane}
use Rattle.dpx_lane.specs.Sending.{HasSent}
use Rattle.dpx_lane.specs.declared.lane_rx.LaneRx.{LaneRx}
use Rattle.dpx_lane.specs.declared.lane_tx.LaneTx.{LaneTx}

pub record TeamFacts (K : Type 0) : Type 0 where
  pub lanes : Lanes
  pub states : List K

-- P of each lane's state and row
abbrev pub EachLane : {A B : Type 0} → (A → B → Type 0) → List A → List B → Type 0
EachLane P [] ys = Unit {0}
EachLane P (x ∷ xs) [] = Unit {0}
EachLane P (x ∷ xs) (y ∷ ys) = P x y × EachLane P xs ys

-- P of each lane's state and row before, and its state and row after
abbrev pub LanesDo : {A B : Type 0} → (A → B → A → B → Type 0) → List A → List B → List A → List B → Type 0
LanesDo P [] [] [] [] = Unit {0}
LanesDo P (x ∷ xs) (r ∷ rs) (y ∷ ys) (o ∷ os) = P x r y o × LanesDo P xs rs ys os
LanesDo P _ _ _ _ = ⊥

-- From this lane on, each lane took these codes and left these words; each lags two clocks behind the lane before it.
abbrev pub TeamSent : (lane : ℕ) → List LaneTx → (codes words : List (List ℕ)) → Type 0
TeamSent lane [] [] [] = Unit {0}
TeamSent lane (s ∷ ss) (c ∷ cs) (w ∷ ws) = HasSent s (2 * lane) c w × TeamSent (lane + 1) ss cs ws
TeamSent lane _ _ _ = ⊥

-- each lane took these words and left these entries
abbrev pub TeamRead : List LaneRx → (words left : List (List ℕ)) → Type 0
TeamRead [] [] [] = Unit {0}
TeamRead (s ∷ ss) (w ∷ ws) (l ∷ ls) = HasRead s w l × TeamRead ss ws ls
TeamRead _ _ _ = ⊥

-- each lane's list, with its row behind
abbrev pub joined : (lists rows : List (List ℕ)) → List (List ℕ)
joined lists rows = lane_by_lane (λ list row. list ++ row) lists rows
