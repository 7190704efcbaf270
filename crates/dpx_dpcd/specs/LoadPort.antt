-- An AUX port that is loaded with what its sink answers: this project's own.
use Rattle.std.specs.Prelude.{◌≡◌, ℕ, ◌-◌, ◌^◌, ◌<◌, ◌≤◌, min, List, [], ◌∷◌, IfSome, IsSome}
use Rattle.dpx_base.specs.declared.aux_port.Entry.{Entry}
use Rattle.dpx_base.specs.declared.aux_port.Entry.TheVariants.{Asked, Waited}
use Rattle.dpx_base.specs.Port.{PortState, answers_in}
use Rattle.dpx_dpcd.specs.declared.plan.SinkPlan.{SinkPlan}
use Rattle.dpx_dpcd.specs.SinkPlan.{planned}

-- the bytes that were asked, in their order
abbrev pub requests_in : List Entry → List (List ℕ)
requests_in [] = []
requests_in (Asked request answer ∷ entries) = request ∷ requests_in entries
requests_in (Waited micros ∷ entries) = requests_in entries

-- Just loaded: nothing was asked. The history, where it is told, is empty; the plan, where it is told, is this one.
pub record IsLoaded (loaded : SinkPlan) (now : PortState SinkPlan) : Type 0 where
  pub asked : now.asked ≡ 0
  pub history : IfSome now.history (λ entries. entries ≡ [])
  pub plan : IfSome now.plan (λ told. told ≡ loaded)

-- What a load keeps: the count of all asks, which stands at most at the greatest u64 then. What it begins: a port that
-- surely tells so many entries tells its history, with room for them.
pub record BeginsAnew (surely_told : ℕ) (before now : PortState SinkPlan) : Type 0 where
  pub asked_in_all : now.asked_in_all ≡ min before.asked_in_all (2 ^ 64 - 1)
  pub room : surely_told ≤ now.room
  pub told : 0 < surely_told → IsSome now.history

-- where a port tells its plan and its history, the answers in the history are the plan's
abbrev pub AnswersAsPlanned : PortState SinkPlan → Type 0
AnswersAsPlanned state =
    IfSome state.plan (λ plan.
    IfSome state.history (λ entries. answers_in entries ≡ planned plan (requests_in entries)))
