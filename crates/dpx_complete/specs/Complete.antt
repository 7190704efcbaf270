-- How training ends where a modelled sink answers: this project's own.
use Rattle.std.specs.Prelude.{◌≡◌, ℕ, ◌≤◌, if◌then◌else◌, List, Option, Some, None, Result, Ok, Err, ⊤, IsSome, IfSome}
use Rattle.dpx_base.specs.declared.aux_port.Entry.{Entry}
use Rattle.dpx_base.specs.declared.link.Link.{Link}
use Rattle.dpx_base.specs.Port.{PortState, answers_in}
use Rattle.dpx_aux.specs.declared.transaction.AuxEnd.TheVariants.{Spent}
use Rattle.dpx_aux.specs.declared.asking.LastAnswer.TheVariants.{Defer}
use Rattle.dpx_aux.specs.Conversation.{Converses}
use Rattle.dpx_dpcd.specs.declared.caps.Caps.{Caps}
use Rattle.dpx_dpcd.specs.declared.caps.CapsBad.{CapsBad}
use Rattle.dpx_dpcd.specs.declared.plan.SinkPlan.{SinkPlan}
use Rattle.dpx_dpcd.specs.declared.plan.SinkPlan.TheVariants.{Script, Model}
use Rattle.dpx_dpcd.specs.Caps.{has_extended, caps_read, caps_start}
use Rattle.dpx_dpcd.specs.Cell.{CellFacts}
pub use Rattle.dpx_dpcd.specs.Model.{IsModel, IsCell}
use Rattle.dpx_dpcd.specs.LoadPort.{requests_in, IsLoaded, AnswersAsPlanned}
use Rattle.dpx_dpcd.specs.RegisterMap.{dpcd_rev}
use Rattle.dpx_dpcd.specs.SinkPlan.{planned}
use Rattle.dpx_link.specs.declared.train_end.TrainEnd.{TrainEnd}
use Rattle.dpx_link.specs.declared.train_end.TrainEnd.TheVariants.{Trained, NotTrained, CapsRefused, AuxEnded}
use Rattle.dpx_link.specs.Training.{Training}
use Rattle.dpx_complete.specs.Drive.{IsAskedFor}
use Rattle.dpx_complete.specs.Fall.{fall}

-- the block of capabilities in force
abbrev pub in_force : List ℕ → List ℕ → List ℕ
in_force caps extended = if has_extended caps then extended else caps

-- trained at this configuration, driven as the cells ask for; or not trained, where there is none
abbrev pub EndsAtFall : List CellFacts → Option Link → TrainEnd → Type 0
EndsAtFall channel (Some link) (Trained trained drive last requests) =
    (trained ≡ link) × IsAskedFor channel link drive.registers
EndsAtFall channel None (NotTrained last requests) = ⊤
EndsAtFall channel found end = ⊥

-- where the capabilities are accepted, at the end of the fallback path; else refused as they are
abbrev pub EndsByPlan : List CellFacts → Link → Result Caps CapsBad → TrainEnd → Type 0
EndsByPlan channel top (Ok caps) end = EndsAtFall channel (fall channel (caps_start caps top)) end
EndsByPlan channel top (Err why) (CapsRefused told requests) = told ≡ why
EndsByPlan channel top (Err why) end = ⊥

-- the first request was deferred eight times
abbrev pub EndsDeferred : TrainEnd → Type 0
EndsDeferred (AuxEnded why requests) = why ≡ Spent dpcd_rev Defer
EndsDeferred end = ⊥

-- a training of the top configuration that a modelled sink answered, loaded with this plan and not asked before
pub record AnsweredTraining (top : Link) (caps extended : List ℕ) (defers : ℕ) (channel : List CellFacts)
    (end : TrainEnd) (history : List Entry) : Type 0 where
  pub model : IsModel caps extended channel
  pub training : Training top end history
  pub answered : answers_in history ≡ planned (Model caps extended defers channel) (requests_in history)

-- where the sink defers at most seven times, every such training ends as the plan says
abbrev pub TrainingIsComplete : Type 0
TrainingIsComplete =
    (top : Link) (caps extended : List ℕ) (defers : ℕ) (channel : List CellFacts) (end : TrainEnd)
    (history : List Entry)
    → AnsweredTraining top caps extended defers channel end history → defers ≤ 7
    → EndsByPlan channel top (caps_read (in_force caps extended)) end

-- where it defers eight times or more, no training gets past its first request
abbrev pub DeferralEndsTraining : Type 0
DeferralEndsTraining =
    (top : Link) (caps extended : List ℕ) (defers : ℕ) (channel : List CellFacts) (end : TrainEnd)
    (history : List Entry)
    → AnsweredTraining top caps extended defers channel end history → 8 ≤ defers → EndsDeferred end

-- a port that was loaded with this plan, was trained to this end, and still tells its history and its plan
pub record TrainedPort (top : Link) (caps extended : List ℕ) (defers : ℕ) (channel : List CellFacts)
    (end : TrainEnd) (before now : PortState SinkPlan) : Type 0 where
  pub model : IsModel caps extended channel
  pub loaded : IsLoaded (Model caps extended defers channel) before
  pub training : Converses (Training top) before now end
  pub as_planned : AnswersAsPlanned now
  pub tells_history : IsSome now.history
  pub tells_plan : IsSome now.plan

-- every such port's training is one that the loaded sink answered
abbrev pub PortsAreAnswered : Type 0
PortsAreAnswered =
    (top : Link) (caps extended : List ℕ) (defers : ℕ) (channel : List CellFacts) (end : TrainEnd)
    (before now : PortState SinkPlan)
    → TrainedPort top caps extended defers channel end before now
    → IfSome now.history (AnsweredTraining top caps extended defers channel end)

-- how a training ends that a plan answered: a script leaves it open
abbrev pub EndsAsPlanned : SinkPlan → Link → TrainEnd → Type 0
EndsAsPlanned (Script answers) top end = ⊤
EndsAsPlanned (Model caps extended defers channel) top end =
    (defers ≤ 7 → EndsByPlan channel top (caps_read (in_force caps extended)) end) × (8 ≤ defers → EndsDeferred end)
