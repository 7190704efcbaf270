-- Events that were taken one behind the other, and the command `watch` from its steps to its contract.
use Rattle.std.proofs.Common.{◌≡◌, ℕ, suc, ◌+◌, List, [], ◌∷◌, ◌++◌, length, refl, sym, ap, ◌∙◌, subst}
use Rattle.std.proofs.Common.{arith, append_assoc, inr, Some, Result, Ok, Err}
use Rattle.std.proofs.lemmas.List.{append-nil, length-map, map-append}
use Rattle.std.specs.Prelude.{⊤, OnOk}
use Rattle.dpx_base.specs.declared.link.Link.{Link}
use Rattle.dpx_base.specs.declared.port_event.PortEvent.{PortEvent}
use Rattle.dpx_base.specs.Port.{PortState, Added, asks}
use Rattle.dpx_base.proofs.Port.{Added-append, Added-nothing}
use Rattle.dpx_base.specs.Seen.{SourceSeen, SinkSeen}
use Rattle.dpx_dpcd.specs.declared.plan.SinkPlan.{SinkPlan}
use Rattle.dpx_files.specs.declared.job.Job.{Job as AskedJob}
use Rattle.dpx_files.specs.declared.job.Need.TheVariants as need
use Rattle.dpx_files.specs.Job.{link_asked, plan_asked, events_asked}
use Rattle.dpx_watch.specs.declared.state.WatchState.{WatchState}
use Rattle.dpx_watch.specs.declared.state.WatchState.TheVariants.{Down}
use Rattle.dpx_watch.specs.Laws.{Taken, Watches, history_of}
use Rattle.dpx_watch.specs.State.{WatchSeen, state_after, is_up}
use Rattle.dpx_watch.specs.Step.{WatchStep}
use Rattle.dpx_cli.specs.declared.stop.Stop.{Stop}
use Rattle.dpx_cli.specs.declared.stop.Stop.TheVariants.{OutFault, NoMemory}
use Rattle.dpx_cli.specs.Jobs.{HasJob}
use Rattle.dpx_cli.specs.Printing.{StepPrints, StepsDo}
use Rattle.dpx_cli.specs.Step.{Step, ◌⇒◌}
use Rattle.dpx_cli.specs.Watch.{WatchedWith, JobWatched, EventsTaken, EventsReported, WatchCauses, events_of}
use Rattle.dpx_cli.specs.WatchLines.{event_line, watch_lines}
use Rattle.dpx_cli.specs.Watching.{EventTaken, EventsAreTaken, EventsAreWatched}
use Rattle.dpx_cli.proofs.Printings.{prints_nothing}
use Rattle.dpx_cli.proofs.Reportings.{AreReports, not_none}

pub events_more : (ts : List Taken) (t : Taken) → events_of (ts ++ t ∷ []) ≡ events_of ts ++ t.event ∷ []
events_more ts t = map-append (λ (one : Taken). one.event) ts (t ∷ [])

pub history_more : (ts : List Taken) (t : Taken) → history_of (ts ++ t ∷ []) ≡ history_of ts ++ t.history
history_more [] t = append-nil t.history
history_more (x ∷ ts) t =
    ap (λ entries. x.history ++ entries) (history_more ts t) ∙ sym (append_assoc x.history (history_of ts) t.history)

pub watches_more : (top : Link) (state middle : WatchState) (ts : List Taken) (t : Taken) → Watches top state ts middle
    → WatchStep top middle t.event t.outcome t.history → Watches top state (ts ++ t ∷ []) (state_after middle t.outcome)
watches_more top state middle [] t w s = (
  subst (λ (at : WatchState). WatchStep top at t.event t.outcome t.history) w s,
  ap (λ (at : WatchState). state_after at t.outcome) w,
)
watches_more top state middle (x ∷ ts) t w s =
    (w.0, watches_more top (state_after state x.outcome) middle ts t w.1 s)

-- the line of an event that was taken in this state
abbrev line_of : ℕ → WatchState → Taken → List ℕ
line_of number state t = event_line number t.event t.outcome (asks t.history) (is_up (state_after state t.outcome))

pub lines_more : (top : Link) (number : ℕ) (state middle : WatchState) (ts : List Taken) (t : Taken)
    → Watches top state ts middle
    → watch_lines number state (ts ++ t ∷ []) ≡ watch_lines number state ts ++ line_of (number + length ts) middle t
unfolding watch_lines
lines_more top number state middle [] t w =
    append-nil (line_of number state t)
    ∙ (ap (λ (at : WatchState). line_of number at t) (sym w)
    ∙ ap (λ (n : ℕ). line_of n middle t) (let e : number ≡ number + 0 = omega arith in e))
lines_more top number state middle (x ∷ ts) t w =
    let rest = watch_lines (number + 1) (state_after state x.outcome) ts in
    let e : number + 1 + length ts ≡ number + suc (length ts) = omega arith in
    ap (λ lines. line_of number state x ++ lines)
    (lines_more top (number + 1) (state_after state x.outcome) middle ts t w.1)
    ∙ (sym (append_assoc (line_of number state x) rest (line_of (number + 1 + length ts) middle t))
    ∙ ap (λ (n : ℕ). (line_of number state x ++ rest) ++ line_of n middle t) e)

-- the events so far were taken, and their lines are written
pub record HasTaken {Plan : Type 0} (top : Link) (events : List PortEvent) (watch : WatchSeen)
    (before now : PortState Plan) (written text : List ℕ) : Type 0 where
  pub taken : List Taken
  pub events_are : events ≡ events_of taken
  pub watches : Watches top Down taken watch.state
  pub top_is : watch.top ≡ top
  pub added : Added (history_of taken) before now
  pub text_is : text ≡ written ++ watch_lines 0 Down taken

pub nothing_taken : {Plan : Type 0} (top : Link) (port : PortState Plan) (text : List ℕ)
    → HasTaken top [] (record { top = top; state = Down }) port port text text
unfolding watch_lines
nothing_taken top port text = record {
  taken = [];
  events_are = refl;
  watches = refl;
  top_is = refl;
  added = Added-nothing port;
  text_is = sym (append-nil text);
}

module _ {Plan E : Type 0} {top : Link} {events : List PortEvent} {watch watch_now : WatchSeen}
    {before middle now : PortState Plan} {written text text_now : List ℕ} {event : PortEvent} {number : ℕ}
    {result : Result ⊤ E} (h : HasTaken top events watch before middle written text)
    (e : EventTaken number event (watch ⇒ watch_now) (middle ⇒ now) (text ⇒ text_now) result) where
  abbrev all_taken : List Taken
  all_taken = h.taken ++ e.taken ∷ []

  events_on : events ++ event ∷ [] ≡ events_of all_taken
  events_on =
      ap (λ es. es ++ event ∷ []) h.events_are
      ∙ (ap (λ last. events_of h.taken ++ last ∷ []) (sym e.event_is) ∙ sym (events_more h.taken e.taken))

  stepped_on : WatchStep top watch.state e.taken.event e.taken.outcome e.taken.history
  stepped_on = subst (λ (from : Link). WatchStep from watch.state e.taken.event e.taken.outcome e.taken.history)
      h.top_is e.stepped

  state_on : watch_now.state ≡ state_after watch.state e.taken.outcome
  state_on = ap (λ (w : WatchSeen). w.state) e.watch_is

  pub watches_on : Watches top Down all_taken watch_now.state
  watches_on = subst (λ (at : WatchState). Watches top Down all_taken at) (sym state_on)
      (watches_more top Down watch.state h.taken e.taken h.watches stepped_on)

  pub added_on : Added (history_of all_taken) before now
  added_on = subst (λ entries. Added entries before now) (sym (history_more h.taken e.taken))
      (Added-append h.added e.added)

  -- its line stands behind those of the others
  lines_on : number ≡ length events → watch_lines 0 Down all_taken
      ≡ watch_lines 0 Down h.taken
      ++ event_line number e.taken.event e.taken.outcome (asks e.taken.history) (is_up watch_now.state)
  lines_on at =
      let counted : 0 + length h.taken ≡ number =
      omega (arith, at, ap length h.events_are, length-map h.taken (λ (one : Taken). one.event)) in
      lines_more top 0 Down watch.state h.taken e.taken h.watches
      ∙ (ap (λ (n : ℕ). watch_lines 0 Down h.taken ++ line_of n watch.state e.taken) counted
      ∙ ap (λ (at : WatchState). watch_lines 0 Down h.taken
      ++ event_line number e.taken.event e.taken.outcome (asks e.taken.history) (is_up at)) (sym state_on))

  -- one event more
  pub taken_more : result ≡ Ok tt → number ≡ length events
      → HasTaken top (events ++ event ∷ []) watch_now before now written text_now
  taken_more ok at =
      let lines : List ℕ =
      text ++ event_line number event e.taken.outcome (asks e.taken.history) (is_up watch_now.state) in
      let line = subst (λ (r : Result ⊤ E). OnOk r (◌≡◌ {A = List ℕ} text_now lines)) ok e.written in
      let before_it = watch_lines 0 Down h.taken in
      let it = event_line number e.taken.event e.taken.outcome (asks e.taken.history) (is_up watch_now.state) in
      record {
        taken = all_taken;
        events_are = events_on;
        watches = watches_on;
        top_is = ap (λ (w : WatchSeen). w.top) e.watch_is ∙ h.top_is;
        added = added_on;
        text_is = line
            ∙ (ap (λ (ev : PortEvent). text ++ event_line number ev e.taken.outcome (asks e.taken.history)
            (is_up watch_now.state)) (sym e.event_is)
            ∙ (ap (λ old. old ++ it) h.text_is
            ∙ (append_assoc written before_it it ∙ ap (λ more. written ++ more) (sym (lines_on at)))));
      }

-- the last event was taken, and there was no memory for its line
pub taken_front : {Plan E : Type 0} {top : Link} {events : List PortEvent} {watch watch_now : WatchSeen}
    {before middle now : PortState Plan} {written text text_now : List ℕ} {event : PortEvent} {number : ℕ}
    {result : Result ⊤ E} (all left : List PortEvent) (why : E)
    → (h : HasTaken top events watch before middle written text)
    → (e : EventTaken number event (watch ⇒ watch_now) (middle ⇒ now) (text ⇒ text_now) result)
    → all ≡ (events ++ event ∷ []) ++ left
    → EventsAreTaken top all (before ⇒ now) (written ⇒ text_now) (Err why)
taken_front {watch_now = watch_now} all left why h e divided = record {
  taken = h.taken ++ e.taken ∷ [];
  left = left;
  now = watch_now.state;
  all = divided ∙ ap (λ es. es ++ left) (events_on h e);
  watches = watches_on h e;
  added = added_on h e;
  whole = tt;
  written = tt;
}

pub events_are_reports : (src : Step SourceSeen) (port : Step (PortState SinkPlan))
    → AreReports need.Watch src (EventsTaken src port) (EventsReported src port)
events_are_reports src port = record {
  done = λ status text r. record { taken = r.taken; left = []; watched = r.watched };
  clean = λ status text r. (
    record {
      read = λ e. omega (arith, e, r.status_is);
      written = λ e. omega (arith, e, r.status_is);
      shown = λ e. omega (arith, e, r.status_is);
      memory = λ e. omega (arith, e, r.status_is);
    },
    λ e. omega (arith, e, r.status_is),
  );
  calm = λ status text r. r.watched.has.calm;
  reads = λ status text r. not_none need.Watch src.before.left r.watched.asked r.watched.has.reads;
}

module _ (src : Step SourceSeen) (port : Step (PortState SinkPlan)) (PortKept : Type 0) (out out_now : SinkSeen)
    (asked : AskedJob) (has : HasJob need.Watch src asked) (plan : SinkPlan) (loads : plan_asked asked ≡ Some plan)
    (link : Link) (over : link_asked asked ≡ Some link) (events : List PortEvent)
    (told : events_asked asked ≡ Some events) where
  job_watched : (taken : List Taken) (left : List PortEvent) → events ≡ events_of taken ++ left
      → WatchedWith link plan port taken → JobWatched src port taken left
  job_watched taken left all watched = record {
    asked = asked;
    has = has;
    plan = plan;
    loads = loads;
    told = told ∙ ap (λ es. Some es) all;
    link = link;
    over = over;
    watched = watched;
  }

  -- the events were taken as far as there was memory for their lines, and nothing was printed
  pub watching_stopped : {E : Type 0} (why : E) (report : Step (List ℕ))
      → EventsAreWatched link plan events port report (Err why)
      → StepsDo (WatchCauses src port PortKept) (out ⇒ out) (Err NoMemory)
  watching_stopped why report w = record {
    said = [];
    caused = (
      inr (record { taken = w.taken; left = w.left; watched = job_watched w.taken w.left w.all w.watched }),
      has.calm,
      refl,
    );
    printed = prints_nothing out out refl;
  }

  module _ {E : Type 0} (report : Step (List ℕ)) (empty : report.before ≡ [])
      (w : EventsAreWatched {E = E} link plan events port report (Ok tt)) where
    all_watched : JobWatched src port w.taken []
    all_watched = subst (JobWatched src port w.taken) w.whole (job_watched w.taken w.left w.all w.watched)

    reported : EventsReported src port 0 report.now
    reported = record {
      status_is = refl;
      taken = w.taken;
      watched = all_watched;
      said = w.written ∙ ap (λ before. before ++ watch_lines 0 Down w.taken) empty;
    }

    -- all events were taken, and the report of them was printed or not
    pub watching_printed : (result : Result ⊤ Stop) → StepPrints (out ⇒ out_now) report.now result
        → StepsDo (WatchCauses src port PortKept) (out ⇒ out_now) result
    watching_printed (Ok done) p = record { said = report.now; caused = reported; printed = p }
    watching_printed (Err OutFault) p = record { said = report.now; caused = reported; printed = p }
    watching_printed (Err NoMemory) p = record {
      said = [];
      caused = (inr (record { taken = w.taken; left = []; watched = all_watched }), has.calm, refl);
      printed = prints_nothing out out_now p;
    }
    watching_printed (Err stop) p = absurd p
