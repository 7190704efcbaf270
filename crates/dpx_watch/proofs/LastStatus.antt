-- Where the link is up, the status was read last, and it shows every lane in use done.
use Rattle.std.proofs.Common.{◌≡◌, Bool, true, false, ◌&&◌, List, [], ◌∷◌, ◌++◌, refl, sym, ap, ◌∙◌, subst}
use Rattle.std.proofs.Common.{append_assoc, Result, Ok, Err, MatchResult}
use Rattle.std.specs.Prelude.{⊤}
use Rattle.std.proofs.lemmas.List.{append-nil}
use Rattle.dpx_base.specs.declared.aux_port.Entry.{Entry}
use Rattle.dpx_base.specs.declared.lanes.Lanes.{Lanes}
use Rattle.dpx_base.specs.declared.link.Link.{Link}
use Rattle.dpx_base.specs.declared.port_event.PortEvent.{PortEvent}
use Rattle.dpx_base.specs.declared.port_event.PortEvent.TheVariants.{Plug, Interrupt, Loss, Resume}
use Rattle.dpx_aux.specs.declared.transaction.AuxEnd.{AuxEnd}
use Rattle.dpx_aux.specs.Conversation.{AlwaysIs, Choice, Ends}
use Rattle.dpx_dpcd.specs.declared.status.Status6.{Status6}
use Rattle.dpx_dpcd.specs.Registers.{ReadsStatus}
use Rattle.dpx_dpcd.specs.Status.{AllLanesDone, cr_done, eq_done}
use Rattle.dpx_phase.specs.LastStatus.{IsLastRead}
use Rattle.dpx_phase.proofs.LastStatus.{forget_drive, read_behind}
use Rattle.dpx_link.specs.declared.train_end.TrainEnd.{TrainEnd}
use Rattle.dpx_link.specs.declared.train_end.TrainEnd.TheVariants as train
use Rattle.dpx_link.specs.LastStatus.{TrainingIsRead}
use Rattle.dpx_link.specs.Training.{TrainedIsDone}
use Rattle.dpx_link.proofs.LastStatus.{training_read}
use Rattle.dpx_link.proofs.TrainedIsDone.{training_good}
use Rattle.dpx_watch.specs.declared.outcome.Outcome.{Outcome}
use Rattle.dpx_watch.specs.declared.outcome.Outcome.TheVariants.{Kept}
use Rattle.dpx_watch.specs.declared.state.WatchState.{WatchState}
use Rattle.dpx_watch.specs.declared.state.WatchState.TheVariants.{Down, Up}
use Rattle.dpx_watch.specs.Laws.{IsReadGood, IsUpByRead, Taken, Watches, history_of}
use Rattle.dpx_watch.specs.State.{state_after, all_lanes_done}
use Rattle.dpx_watch.specs.Step.{outcome_of, settled, Trains, Checks, Resumes, OnEvent, WatchStep}

-- the state behind what a step gave
abbrev SettlesRead : WatchState → Result Outcome AuxEnd → List Entry → Type 0
SettlesRead state given history = IsUpByRead (state_after state (settled given)) history

-- entries in front change nothing
up_behind : (state : WatchState) (front history : List Entry) → IsUpByRead state history
    → IsUpByRead state (front ++ history)
up_behind Down front history u = tt
up_behind (Up link last) front history u =
    record { good = u.good; read = read_behind last front history u.read }

trained_read : (state : WatchState) (end : TrainEnd) (history : List Entry) → TrainedIsDone end
    → TrainingIsRead end history → IsUpByRead (state_after state (outcome_of end)) history
trained_read state (train.Trained link drive last requests) history good read =
    record { good = good; read = forget_drive link.lanes drive last history read }
trained_read state (train.NotTrained last requests) history good read = tt
trained_read state (train.CapsRefused why requests) history good read = tt
trained_read state (train.AuxEnded why requests) history good read = tt

trains_read : (top : Link) (state : WatchState) → AlwaysIs (Trains top) (SettlesRead state)
trains_read top state given history t =
    subst (λ (r : Result Outcome AuxEnd). SettlesRead state r history) (sym t.means)
    (trained_read state t.end history (training_good top t.end history t.training)
    (training_read top t.end history t.training))

both_true : (a b : Bool) → (a && b) ≡ true → (a ≡ true) × (b ≡ true)
both_true true true e = (refl, refl)
both_true true false e = absurd (cc)
both_true false b e = absurd (cc)

shows_done : (lanes : Lanes) (status : Status6) → all_lanes_done lanes status ≡ true → AllLanesDone lanes status
shows_done lanes status e =
    let both = both_true (cr_done lanes status.bytes) (eq_done lanes status.bytes) e in
    record { recovered = both.0; equalised = both.1 }

-- a status that was read, and nothing behind it
read_here : (last : Status6) (history : List Entry) → ReadsStatus (Ok last) history → IsLastRead last history
read_here last history r = record {
  before = [];
  read = history;
  after = [];
  joined = sym (append-nil history);
  given = r;
  unread = tt;
}

-- behind the status: the link is kept, or trained anew
looked_at : (top link : Link) (before last : Status6) (test : Bool) → all_lanes_done link.lanes last ≡ test
    → (given : Result Outcome AuxEnd) (front back : List Entry) → ReadsStatus (Ok last) front
    → Choice test (Ends (Ok (Kept last))) (Trains top) given back → SettlesRead (Up link before) given (front ++ back)
looked_at top link before last true e given front back r c =
    let kept = c.if_true refl in
    let good = shows_done link.lanes last e in
    let here : IsReadGood link last front = record { good = good; read = read_here last front r } in
    let joined : front ≡ front ++ back =
    sym (append-nil front) ∙ ap (λ (entries : List Entry). front ++ entries) (sym kept.nothing) in
    subst (λ (r : Result Outcome AuxEnd). SettlesRead (Up link before) r (front ++ back)) (sym kept.same)
    (subst (λ (entries : List Entry). IsUpByRead (Up link last) entries) joined here)
looked_at top link before last false e given front back r c =
    up_behind _ front back (trains_read top (Up link before) given back (c.if_false refl))

checked : (top link : Link) (before : Status6) (middle : Result Status6 AuxEnd) (given : Result Outcome AuxEnd)
    (front back : List Entry) → ReadsStatus middle front
    → MatchResult middle
    (λ last. Choice (all_lanes_done link.lanes last) (Ends (Ok (Kept last))) (Trains top) given back)
    (λ error. (given ≡ Err error) × (back ≡ []))
    → SettlesRead (Up link before) given (front ++ back)
checked top link before (Ok last) given front back r on =
    looked_at top link before last _ refl given front back r on
checked top link before (Err error) given front back r on =
    subst (λ (r : Result Outcome AuxEnd). SettlesRead (Up link before) r (front ++ back)) (sym on.0) tt

checks_read : (top link : Link) (before : Status6) → AlwaysIs (Checks top link) (SettlesRead (Up link before))
unfolding Checks
checks_read top link before given history t =
    subst (SettlesRead (Up link before) given) (sym t.joined)
    (checked top link before t.middle given t.front t.back t.begins t.goes_on)

resumed : (top link : Link) (before : Status6) (middle : Result ⊤ AuxEnd) (given : Result Outcome AuxEnd)
    (front back : List Entry)
    → MatchResult middle (λ powered. Checks top link given back) (λ error. (given ≡ Err error) × (back ≡ []))
    → SettlesRead (Up link before) given (front ++ back)
resumed top link before (Ok powered) given front back on =
    up_behind _ front back (checks_read top link before given back on)
resumed top link before (Err error) given front back on =
    subst (λ (r : Result Outcome AuxEnd). SettlesRead (Up link before) r (front ++ back)) (sym on.0) tt

resumes_read : (top link : Link) (before : Status6) → AlwaysIs (Resumes top link) (SettlesRead (Up link before))
unfolding Resumes
resumes_read top link before given history t =
    subst (SettlesRead (Up link before) given) (sym t.joined)
    (resumed top link before t.middle given t.front t.back t.goes_on)

-- an end at which the link is down
ends_down : (state : WatchState) (value : Result Outcome AuxEnd) → state_after state (settled value) ≡ Down
    → AlwaysIs (Ends value) (SettlesRead state)
ends_down state value down given history e =
    subst (λ (r : Result Outcome AuxEnd). SettlesRead state r history) (sym e.same)
    (subst (λ (s : WatchState). IsUpByRead s history) (sym down) tt)

event_read : (top : Link) (state : WatchState) (event : PortEvent)
    → AlwaysIs (OnEvent top state event) (SettlesRead state)
event_read top state Plug = trains_read top state
event_read top Down Interrupt = ends_down Down _ refl
event_read top (Up link last) Interrupt = checks_read top link last
event_read top state Loss = ends_down state _ refl
event_read top Down Resume = trains_read top Down
event_read top (Up link last) Resume = resumes_read top link last

pub step_read : (top : Link) (state : WatchState) (event : PortEvent)
    → AlwaysIs (WatchStep top state event) (λ outcome. IsUpByRead (state_after state outcome))
step_read top state event outcome history w =
    subst (λ (o : Outcome). IsUpByRead (state_after state o) history) (sym w.ends)
    (event_read top state event w.given history w.done)

-- where the events so far led to a link that was read last, those that follow do too
watched : (top : Link) (state now : WatchState) (before : List Entry) (taken : List Taken) → IsUpByRead state before
    → Watches top state taken now → IsUpByRead now (before ++ history_of taken)
watched top state now before [] u w =
    subst (λ (s : WatchState). IsUpByRead s (before ++ [])) (sym w)
    (subst (IsUpByRead state) (sym (append-nil before)) u)
watched top state now before (t ∷ ts) u w =
    let here = up_behind _ before t.history (step_read top state t.event t.outcome t.history w.0) in
    subst (IsUpByRead now) (append_assoc before t.history (history_of ts))
    (watched top (state_after state t.outcome) now (before ++ t.history) ts here w.1)

pub only_read_links : (top : Link) (taken : List Taken) (now : WatchState) → Watches top Down taken now
    → IsUpByRead now (history_of taken)
only_read_links top taken now w = watched top Down now [] taken tt w
