-- What the answers decide of a step, and how many of them suffice.
use Rattle.std.proofs.Common.{◌+◌, refl, sym, ap, ◌∙◌, arith, Ok}
use Rattle.dpx_base.specs.declared.link.Link.{Link}
use Rattle.dpx_base.specs.declared.port_event.PortEvent.{PortEvent}
use Rattle.dpx_base.specs.declared.port_event.PortEvent.TheVariants.{Plug, Interrupt, Loss, Resume}
use Rattle.dpx_aux.specs.Conversation.{IsDecided, Suffices}
use Rattle.dpx_aux.specs.Asking.{asks_at_most}
use Rattle.dpx_aux.proofs.Decided.{ends_decided, choice_decided, then_decided}
use Rattle.dpx_aux.proofs.Suffices.{more_suffice, ends_suffice, choice_suffices, then_suffices}
use Rattle.dpx_dpcd.proofs.Decided.{writes_decided, status_decided}
use Rattle.dpx_dpcd.proofs.Suffices.{writes_suffice, status_suffices}
use Rattle.dpx_link.specs.Training.{training_asks}
use Rattle.dpx_link.proofs.Decided.{training_decided}
use Rattle.dpx_link.proofs.Suffices.{training_suffices}
use Rattle.dpx_watch.specs.declared.state.WatchState.{WatchState}
use Rattle.dpx_watch.specs.declared.state.WatchState.TheVariants.{Down, Up}
use Rattle.dpx_watch.specs.Step.{outcome_of, settled, Trains, Checks, Resumes, OnEvent, WatchStep, step_asks}

trains_decided : (top : Link) → IsDecided (Trains top)
trains_decided top r s xs ys later after a b e =
    let same = training_decided top a.end b.end xs ys later after a.training b.training e in
    (same.0, a.means ∙ (ap (λ end. Ok (outcome_of end)) same.1 ∙ sym b.means))

checks_decided : (top link : Link) → IsDecided (Checks top link)
unfolding Checks
checks_decided top link =
    then_decided status_decided (λ last. choice_decided _ (ends_decided _) (trains_decided top))

resumes_decided : (top link : Link) → IsDecided (Resumes top link)
unfolding Resumes
resumes_decided top link = then_decided (writes_decided _ _) (λ powered. checks_decided top link)

event_decided : (top : Link) (state : WatchState) (event : PortEvent) → IsDecided (OnEvent top state event)
event_decided top state Plug = trains_decided top
event_decided top Down Interrupt = ends_decided _
event_decided top (Up link last) Interrupt = checks_decided top link
event_decided top state Loss = ends_decided _
event_decided top Down Resume = trains_decided top
event_decided top (Up link last) Resume = resumes_decided top link

pub step_decided : (top : Link) (state : WatchState) (event : PortEvent) → IsDecided (WatchStep top state event)
step_decided top state event r s xs ys later after a b e =
    let same = event_decided top state event a.given b.given xs ys later after a.done b.done e in
    (same.0, a.ends ∙ (ap settled same.1 ∙ sym b.ends))

trains_suffice : (top : Link) → Suffices training_asks (Trains top)
trains_suffice top answers enough =
    let f = training_suffices top answers enough in
    record {
      given = Ok (outcome_of f.given);
      history = f.history;
      rest = f.rest;
      done = record { end = f.given; training = f.done; means = refl };
      begins = f.begins;
      few = f.few;
    }

checks_suffice : (top link : Link) → Suffices (asks_at_most + training_asks) (Checks top link)
unfolding Checks
checks_suffice top link =
    then_suffices asks_at_most training_asks status_suffices
    (λ last. choice_suffices training_asks _ (ends_suffice training_asks _) (trains_suffice top))

resumes_suffice : (top link : Link) → Suffices step_asks (Resumes top link)
unfolding Resumes
resumes_suffice top link =
    more_suffice (asks_at_most + (asks_at_most + training_asks)) step_asks (omega arith)
    (then_suffices asks_at_most (asks_at_most + training_asks) (writes_suffice _ _)
    (λ powered. checks_suffice top link))

event_suffices : (top : Link) (state : WatchState) (event : PortEvent) → Suffices step_asks (OnEvent top state event)
event_suffices top state Plug = more_suffice training_asks step_asks (omega arith) (trains_suffice top)
event_suffices top Down Interrupt = ends_suffice step_asks _
event_suffices top (Up link last) Interrupt =
    more_suffice (asks_at_most + training_asks) step_asks (omega arith) (checks_suffice top link)
event_suffices top state Loss = ends_suffice step_asks _
event_suffices top Down Resume = more_suffice training_asks step_asks (omega arith) (trains_suffice top)
event_suffices top (Up link last) Resume = resumes_suffice top link

pub step_suffices : (top : Link) (state : WatchState) (event : PortEvent)
    → Suffices step_asks (WatchStep top state event)
step_suffices top state event answers enough =
    let f = event_suffices top state event answers enough in
    record {
      given = settled f.given;
      history = f.history;
      rest = f.rest;
      done = record { given = f.given; done = f.done; ends = refl };
      begins = f.begins;
      few = f.few;
    }
