-- What a supervisor does at an event of the port: this project's own.
use Rattle.std.specs.Prelude.{◌≡◌, ℕ, ◌+◌, List, [], ◌∷◌, Result, Ok, Err}
use Rattle.dpx_base.specs.declared.aux_port.Entry.{Entry}
use Rattle.dpx_base.specs.declared.link.Link.{Link}
use Rattle.dpx_base.specs.declared.port_event.PortEvent.{PortEvent}
use Rattle.dpx_base.specs.declared.port_event.PortEvent.TheVariants.{Plug, Interrupt, Loss, Resume}
use Rattle.dpx_aux.specs.declared.transaction.AuxEnd.{AuxEnd}
use Rattle.dpx_aux.specs.Conversation.{Ends, ◌>>=◌, Choice}
use Rattle.dpx_aux.specs.Asking.{asks_at_most}
use Rattle.dpx_dpcd.specs.RegisterMap.{set_power}
use Rattle.dpx_dpcd.specs.Registers.{ReadsStatus, Writes}
use Rattle.dpx_link.specs.declared.train_end.TrainEnd.{TrainEnd}
use Rattle.dpx_link.specs.declared.train_end.TrainEnd.TheVariants as train
use Rattle.dpx_link.specs.Training.{Training, training_asks, training_entries}
use Rattle.dpx_watch.specs.declared.outcome.Outcome.{Outcome}
use Rattle.dpx_watch.specs.declared.outcome.Outcome.TheVariants.{Nothing, Kept, Trained, NotTrained, CapsRefused}
use Rattle.dpx_watch.specs.declared.outcome.Outcome.TheVariants.{AuxEnded, Unplugged}
use Rattle.dpx_watch.specs.declared.state.WatchState.{WatchState}
use Rattle.dpx_watch.specs.declared.state.WatchState.TheVariants.{Down, Up}
use Rattle.dpx_watch.specs.State.{all_lanes_done}

-- what an end of a training means for the link
abbrev pub outcome_of : TrainEnd → Outcome
outcome_of (train.Trained link drive last requests) = Trained link drive last
outcome_of (train.NotTrained last requests) = NotTrained last
outcome_of (train.CapsRefused why requests) = CapsRefused why
outcome_of (train.AuxEnded why requests) = AuxEnded why

-- a training from the top configuration on
pub record Trains (top : Link) (given : Result Outcome AuxEnd) (history : List Entry) : Type 0 where
  pub end : TrainEnd
  pub training : Training top end history
  pub means : given ≡ Ok (outcome_of end)

-- The status is read. Where it shows every lane in use done the link is kept, else a training follows.
unfoldable pub Checks : Link → Link → Result Outcome AuxEnd → List Entry → Type 0
Checks top link = do
  last ← ReadsStatus
  Choice (all_lanes_done link.lanes last) (Ends (Ok (Kept last))) (Trains top)

-- the sink is put to full power (D0), and then the status is looked at
unfoldable pub Resumes : Link → Link → Result Outcome AuxEnd → List Entry → Type 0
Resumes top link = do
  powered ← Writes set_power (0x01 ∷ [])
  Checks top link

-- what an event leads to
abbrev pub OnEvent : Link → WatchState → PortEvent → Result Outcome AuxEnd → List Entry → Type 0
OnEvent top state Plug = Trains top
OnEvent top Down Interrupt = Ends (Ok Nothing)
OnEvent top (Up link last) Interrupt = Checks top link
OnEvent top state Loss = Ends (Ok Unplugged)
OnEvent top Down Resume = Trains top
OnEvent top (Up link last) Resume = Resumes top link

-- a transaction that failed ends the step
abbrev pub settled : Result Outcome AuxEnd → Outcome
settled (Ok outcome) = outcome
settled (Err why) = AuxEnded why

-- a step: what a supervisor of links of this top configuration does in this state at this event
pub record WatchStep (top : Link) (state : WatchState) (event : PortEvent) (outcome : Outcome) (history : List Entry)
    : Type 0 where
  pub given : Result Outcome AuxEnd
  pub done : OnEvent top state event given history
  pub ends : outcome ≡ settled given

-- how many asks a step makes at most: the write of power, the look at the status, and a training
abbrev pub step_asks : ℕ
step_asks = asks_at_most + asks_at_most + training_asks

-- how many entries the history of a step has at most
abbrev pub step_entries : ℕ
step_entries = asks_at_most + asks_at_most + training_entries
