-- The command `train`, from its steps to its contract.
use Rattle.std.proofs.Common.{◌≡◌, ◌⊎◌, ℕ, List, [], ◌++◌, refl, sym, ap, ◌∙◌, subst, arith, inl, inr, Result, Ok, Err}
use Rattle.std.proofs.Common.{Option, Some, None}
use Rattle.std.specs.Prelude.{⊤, IfSome, IsSome, IsSomeAnd, IsOk, IsErr}
use Rattle.dpx_base.specs.declared.aux_port.Entry.{Entry}
use Rattle.dpx_base.specs.declared.link.Link.{Link}
use Rattle.dpx_phase.specs.LastStatus.{IsLastReadWith}
use Rattle.dpx_base.specs.Port.{PortState}
use Rattle.dpx_base.specs.Seen.{SourceSeen, SinkSeen}
use Rattle.dpx_dpcd.specs.declared.plan.SinkPlan.{SinkPlan}
use Rattle.dpx_files.specs.declared.job.Job.{Job as AskedJob}
use Rattle.dpx_files.specs.declared.job.Need.{Need}
use Rattle.dpx_files.specs.declared.job.Need.TheVariants as need
use Rattle.dpx_files.specs.declared.refusal.JobBad.{JobBad}
use Rattle.dpx_files.specs.Job.{reading, link_asked, plan_asked}
use Rattle.dpx_link.specs.declared.train_end.TrainEnd.{TrainEnd}
use Rattle.dpx_link.specs.declared.train_end.TrainEnd.TheVariants.{Trained}
use Rattle.dpx_cli.specs.Transfer.{Prints}
use Rattle.dpx_cli.specs.declared.stop.Stop.{Stop}
use Rattle.dpx_cli.specs.declared.stop.Stop.TheVariants.{Job, Untrained, ReadFault, OutFault, NoMemory}
use Rattle.dpx_cli.specs.Lines.{train_report}
use Rattle.dpx_cli.specs.declared.stop.JobRefusal.{JobRefusal}
use Rattle.dpx_base.specs.Faults.{Rose}
use Rattle.dpx_cli.specs.Jobs.{HasJob, JobRefused, ReadsAsJob, ReadsAsNone}
use Rattle.dpx_cli.specs.Step.{Step, ◌⇒◌}
use Rattle.dpx_cli.specs.Printing.{StepsDo, StepsPrint, CommandPrints, StopsBehind, StopsAtOnce, IsReport, BreaksReport}
use Rattle.dpx_cli.specs.Stop.{bad_of, job_line, read_fault_line, memory_line, stop_lines, stop_status}
use Rattle.dpx_cli.specs.Training.{TrainStep, TrainedWith, JobTrained, ReportsTrained, TrainingEnds, TrainingStops, trained_link}
use Rattle.dpx_cli.specs.Train.{TrainCauses, TrainDoes, SaysTrained, train_status}
use Rattle.dpx_cli.proofs.Printings.{prints_nothing}

-- training stopped a command, with its cause, and what was printed
pub record TrainingStopped (need : Need) (src : Step SourceSeen) (port : Step (PortState SinkPlan)) (PortKept : Type 0)
    (out : Step SinkSeen) (stop : Stop) : Type 0 where
  pub said : List ℕ
  pub caused : TrainingStops need src port PortKept stop said
  pub printed : StepsPrint out said (Err stop)

pub is_some : (end : TrainEnd) (link : Link) → trained_link end ≡ Some link → IsSome (trained_link end)
is_some end link e = subst (λ (trained : Option Link). IsSome trained) (sym e) refl

module _ (need : Need) (src : Step SourceSeen) (port : Step (PortState SinkPlan)) (PortKept : Type 0) (asked : AskedJob)
    (has : HasJob need src asked) (plan : SinkPlan) (asks : plan_asked asked ≡ Some plan) (top : Link)
    (trains : link_asked asked ≡ Some top) (out out_now : SinkSeen) where
  abbrev job_trained : {end : TrainEnd} → TrainedWith top plan port end → JobTrained need src port end
  job_trained t =
      record { asked = asked; has = has; plan = plan; asks = asks; top = top; trains = trains; trained = t }

  -- the job was read, and the step of training stopped the command
  pub stops_training : (stop : Stop) → TrainStep top plan port (out ⇒ out_now) (Err stop)
      → TrainingStopped need src port PortKept (out ⇒ out_now) stop
  stops_training (Untrained why) s = record {
    said = [];
    caused = (
      subst (λ (end : TrainEnd). JobTrained need src port end) (sym s.ends.0) (job_trained s.trained),
      ap trained_link s.ends.0 ∙ s.ends.1,
      refl,
    );
    printed = prints_nothing out out_now s.ends.2;
  }
  stops_training OutFault s = record {
    said = train_report s.end;
    caused = record { end = s.end; trained = job_trained s.trained; link = s.ends.0; said = refl };
    printed = s.ends.1;
  }
  stops_training NoMemory s = record {
    said = [];
    caused = (inr (record { end = s.end; trained = job_trained s.trained }), has.calm, refl);
    printed = prints_nothing out out_now s.ends.1;
  }
  stops_training _ s = absurd s.ends

  -- the job was read, and its link was trained
  pub reports_trained : (link : Link) (s : TrainStep top plan port (out ⇒ out_now) (Ok link))
      → ReportsTrained need src port (train_report s.end)
  reports_trained link s =
      record { end = s.end; trained = job_trained s.trained; link = is_some s.end link s.ends.0; said = refl }

-- the same of the command
module _ (src : Step SourceSeen) (port : Step (PortState SinkPlan)) (PortKept : Type 0) (out out_now : SinkSeen)
    (asked : AskedJob) (has : HasJob need.Train src asked) (plan : SinkPlan) (asks : plan_asked asked ≡ Some plan)
    (top : Link) (trains : link_asked asked ≡ Some top) where
  pub training_done : (link : Link)
      → TrainStep top plan port (out ⇒ out_now) (Ok link)
      → StepsDo (TrainCauses src port PortKept) (out ⇒ out_now) (Ok tt)
  training_done link s = record {
    said = train_report s.end;
    caused = reports_trained need.Train src port PortKept asked has plan asks top trains out out_now link s;
    printed = s.ends.1;
  }

  pub training_stopped : (stop : Stop)
      → TrainStep top plan port (out ⇒ out_now) (Err stop)
      → StepsDo (TrainCauses src port PortKept) (out ⇒ out_now) (Err stop)
  training_stopped stop s =
      let t = stops_training need.Train src port PortKept asked has plan asks top trains out out_now stop s in
      record { said = t.said; caused = t.caused; printed = t.printed }

-- a job is not one that has no reading
not_both : (left : Option (List ℕ)) (asked : AskedJob)
    → IfSome left (λ bytes. reading need.Train bytes ≡ Ok asked) → IsSomeAnd left (ReadsAsNone need.Train) → ⊥
not_both None asked reads none = none
not_both (Some bytes) asked reads none =
    let clash = subst (λ (read : Result AskedJob JobBad). IsErr read) reads none in absurd cc

not_both_refused : (left : Option (List ℕ)) (why : JobBad)
    → IfSome left (λ bytes. reading need.Train bytes ≡ Err why) → IsSomeAnd left (ReadsAsJob need.Train) → ⊥
not_both_refused None why reads is = is
not_both_refused (Some bytes) why reads is =
    let clash = subst (λ (read : Result AskedJob JobBad). IsOk read) reads is in absurd cc

told_of : (Holds : List Entry → Type 0) (told : Option (List Entry)) (entries : List Entry)
    → IfSome told (λ is. is ≡ entries) → Holds entries → IfSome told Holds
told_of Holds None entries is holds = tt
told_of Holds (Some told) entries is holds = subst Holds (sym is) holds

pub says_trained : (Says : List ℕ → Type 0) (top : Link) (plan : SinkPlan) (port : Step (PortState SinkPlan))
    (end : TrainEnd) → TrainedWith top plan port end → Says (train_report end) → train_status end ≡ 0
    → SaysTrained port.now Says
says_trained Says top plan port (Trained link drive last requests) t said is = record {
  link = link;
  drive = drive;
  last = last;
  requests = requests;
  done = t.done;
  read_last = told_of (IsLastReadWith link.lanes drive last) port.now.history t.entries t.history t.read_last;
  counted = t.told_requests;
  said = said;
}
says_trained Says top plan port end t said is = absurd cc

pub trained_status : (end : TrainEnd) → IsSome (trained_link end) → train_status end ≡ 0
trained_status (Trained link drive last requests) is = refl
trained_status end is = absurd cc

pub untrained_status : (end : TrainEnd) → trained_link end ≡ None → train_status end ≡ 4
untrained_status (Trained link drive last requests) is = absurd cc
untrained_status end is = refl

-- What the command does, by its status: in each case the rows of the other statuses say nothing.
module _ (src : Step SourceSeen) (port : Step (PortState SinkPlan)) (PortKept : Type 0) (out : Step SinkSeen)
    (status : ℕ) where
  -- 0 and 4 are among the statuses
  ends_are_statuses : (status ≡ 0) ⊎ (status ≡ 4)
      → (status ≡ 0) ⊎ (status ≡ 3) ⊎ (status ≡ 4) ⊎ (status ≡ 7) ⊎ (status ≡ 8) ⊎ (status ≡ 10)
  ends_are_statuses (inl e) = inl e
  ends_are_statuses (inr e) = inr (inr (inl e))

  -- training ended, and that was printed
  ended_does : (end : TrainEnd) → JobTrained need.Train src port end → Prints out (train_report end)
      → status ≡ train_status end → (status ≡ 0) ⊎ (status ≡ 4) → TrainDoes src port PortKept out status
  ended_does end t printed is either = record {
    trained = λ e. says_trained (Prints out) _ _ port end t.trained printed (sym is ∙ e);
    ended = λ e. record { end = end; trained = t; status_is = is; printed = printed };
    refused = λ e. absurd (omega (arith, e, either));
    refuses = λ none clean. absurd (not_both src.before.left t.asked t.has.reads none);
    trains = λ job clean. either;
    read_fault = λ e. absurd (omega (arith, e, either));
    write_fault = λ e. absurd (omega (arith, e, either));
    no_memory = λ e. absurd (omega (arith, e, either));
    statuses = ends_are_statuses either;
    reads_are_calm = λ clean. t.has.calm;
    writes_are_calm = λ not_8. printed.calm;
    port_kept_or_trained = inr (record { end = end; trained = t });
  }

  -- a write of the report failed
  broken_does : BreaksReport (TrainCauses src port PortKept) out → status ≡ 8 → PortKept ⊎ TrainingEnds need.Train src port
      → TrainDoes src port PortKept out status
  broken_does broken is port_is = record {
    trained = λ e. absurd (omega (arith, e, is));
    ended = λ e. absurd (omega (arith, e, is));
    refused = λ e. absurd (omega (arith, e, is));
    refuses = λ none clean. absurd (clean.written is);
    trains = λ job clean. absurd (clean.written is);
    read_fault = λ e. absurd (omega (arith, e, is));
    write_fault = λ e. broken;
    no_memory = λ e. absurd (omega (arith, e, is));
    statuses = inr (inr (inr (inr (inl is))));
    reads_are_calm = λ clean. absurd (clean.written is);
    writes_are_calm = λ not_8. absurd (not_8 is);
    port_kept_or_trained = port_is;
  }

  -- there was no memory
  memory_does : Prints out memory_line → status ≡ 10 → PortKept ⊎ TrainingEnds need.Train src port
      → TrainDoes src port PortKept out status
  memory_does printed is port_is = record {
    trained = λ e. absurd (omega (arith, e, is));
    ended = λ e. absurd (omega (arith, e, is));
    refused = λ e. absurd (omega (arith, e, is));
    refuses = λ none clean. absurd (clean.memory is);
    trains = λ job clean. absurd (clean.memory is);
    read_fault = λ e. absurd (omega (arith, e, is));
    write_fault = λ e. absurd (omega (arith, e, is));
    no_memory = λ e. printed;
    statuses = inr (inr (inr (inr (inr is))));
    reads_are_calm = λ clean. absurd (clean.memory is);
    writes_are_calm = λ not_8. printed.calm;
    port_kept_or_trained = port_is;
  }

  refused_does : (why : JobRefusal) → JobRefused need.Train src why → PortKept → Prints out (job_line why)
      → status ≡ 3 → TrainDoes src port PortKept out status
  refused_does why refused kept printed is = record {
    trained = λ e. absurd (omega (arith, e, is));
    ended = λ e. absurd (omega (arith, e, is));
    refused = λ e. (record { why = why; refused = refused; printed = printed }, kept);
    refuses = λ none clean. is;
    trains = λ job clean. absurd (not_both_refused src.before.left (bad_of why) refused.reads job);
    read_fault = λ e. absurd (omega (arith, e, is));
    write_fault = λ e. absurd (omega (arith, e, is));
    no_memory = λ e. absurd (omega (arith, e, is));
    statuses = inr (inl is);
    reads_are_calm = λ clean. refused.calm;
    writes_are_calm = λ not_8. printed.calm;
    port_kept_or_trained = inl kept;
  }

  read_fault_does : Rose src.before.faults src.now.faults → PortKept → Prints out read_fault_line → status ≡ 7
      → TrainDoes src port PortKept out status
  read_fault_does rose kept printed is = record {
    trained = λ e. absurd (omega (arith, e, is));
    ended = λ e. absurd (omega (arith, e, is));
    refused = λ e. absurd (omega (arith, e, is));
    refuses = λ none clean. absurd (clean.read is);
    trains = λ job clean. absurd (clean.read is);
    read_fault = λ e. (rose, printed, kept);
    write_fault = λ e. absurd (omega (arith, e, is));
    no_memory = λ e. absurd (omega (arith, e, is));
    statuses = inr (inr (inr (inl is)));
    reads_are_calm = λ clean. absurd (clean.read is);
    writes_are_calm = λ not_8. printed.calm;
    port_kept_or_trained = inl kept;
  }

  -- the command stopped before it had printed anything, and that was printed whole or not
  stopped_does : (said : List ℕ) (stop : Stop) → TrainCauses src port PortKept (Err stop) said
      → ((text : List ℕ) → (text ≡ said ++ stop_lines stop) ⊎ (text ≡ said ++ memory_line)
      → IsReport said (Err stop) text)
      → said ≡ [] → PortKept ⊎ TrainingEnds need.Train src port
      → (Prints out (stop_lines stop) → status ≡ stop_status stop → TrainDoes src port PortKept out status)
      → StopsBehind out said stop status → TrainDoes src port PortKept out status
  stopped_does said stop caused report nothing port_is whole (inl (inl (printed, is))) =
      whole (subst (λ (before : List ℕ). Prints out (before ++ stop_lines stop)) nothing printed) is
  stopped_does said stop caused report nothing port_is whole (inl (inr (front, is))) =
      let broken : BreaksReport (TrainCauses src port PortKept) out = record {
        done = Err stop;
        said = said;
        text = said ++ stop_lines stop;
        caused = caused;
        is_report = report _ (inl refl);
        front = front;
      } in
      broken_does broken is port_is
  stopped_does said stop caused report nothing port_is whole (inr (inl (printed, is))) =
      memory_does (subst (λ (before : List ℕ). Prints out (before ++ memory_line)) nothing printed) is port_is
  stopped_does said stop caused report nothing port_is whole (inr (inr (front, is))) =
      let broken : BreaksReport (TrainCauses src port PortKept) out = record {
        done = Err stop;
        said = said;
        text = said ++ memory_line;
        caused = caused;
        is_report = report _ (inr refl);
        front = front;
      } in
      broken_does broken is port_is

  pub train_does : (said : List ℕ) (done : Result ⊤ Stop) → TrainCauses src port PortKept done said
      → CommandPrints out said done status → TrainDoes src port PortKept out status
  train_does said (Ok done) r p =
      ended_does r.end r.trained (subst (λ (text : List ℕ). Prints out text) r.said p.0)
      (p.1 ∙ sym (trained_status r.end r.link)) (inl p.1)
  train_does said (Err OutFault) r p =
      let broken : BreaksReport (TrainCauses src port PortKept) out = record {
        done = Err OutFault;
        said = said;
        text = said;
        caused = r;
        is_report = refl;
        front = p.0;
      } in
      broken_does broken p.1 (inr (record { end = r.end; trained = r.trained }))
  train_does said (Err (Job why)) (refused, kept, nothing) p =
      stopped_does said (Job why) (refused, kept, nothing) (λ text e. e) nothing (inl kept)
      (refused_does why refused kept) p
  train_does said (Err (Untrained end)) (t, none, nothing) p =
      stopped_does said (Untrained end) (t, none, nothing) (λ text e. e) nothing
      (inr (record { end = end; trained = t }))
      (λ printed is. ended_does end t printed (is ∙ sym (untrained_status end none)) (inr is)) p
  train_does said (Err ReadFault) (rose, kept, nothing) p =
      stopped_does said ReadFault (rose, kept, nothing) (λ text e. e) nothing (inl kept) (read_fault_does rose kept) p
  train_does said (Err NoMemory) (port_is, calm, nothing) p =
      stopped_does said NoMemory (port_is, calm, nothing) (λ text e. e) nothing port_is
      (λ printed is. memory_does printed is port_is) p
  train_does said (Err stop) caused p = absurd caused

  -- there was no memory for the words
  pub unread_words_do : PortKept → src.now ≡ src.before → StopsAtOnce out NoMemory status
      → TrainDoes src port PortKept out status
  unread_words_do kept same p =
      train_does [] (Err NoMemory) (inl kept, ap (λ (seen : SourceSeen). seen.faults) same, refl) p
