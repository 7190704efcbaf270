-- The command `run`, from its steps to its contract.
use Rattle.std.proofs.Common.{◌≡◌, ◌⊎◌, ℕ, List, [], ◌++◌, refl, sym, ap, subst, arith, inl, inr}
use Rattle.std.proofs.Common.{Result, Ok, Err, Some, None}
use Rattle.std.specs.Prelude.{⊤, IfSome}
use Rattle.dpx_base.specs.declared.link.Link.{Link}
use Rattle.dpx_base.specs.Pipe.{PipeState}
use Rattle.dpx_base.specs.Port.{PortState}
use Rattle.dpx_base.specs.Seen.{SourceSeen, SinkSeen}
use Rattle.dpx_dpcd.specs.declared.plan.SinkPlan.{SinkPlan}
use Rattle.dpx_files.specs.declared.job.Job.{Job as AskedJob}
use Rattle.dpx_files.specs.declared.job.Need.TheVariants as need
use Rattle.dpx_files.specs.declared.shape.Shape.{Shape}
use Rattle.dpx_files.specs.Job.{reading, link_asked, plan_asked, shape_asked}
use Rattle.dpx_link.specs.declared.train_end.TrainEnd.{TrainEnd}
use Rattle.dpx_cli.specs.declared.stop.Stop.{Stop}
use Rattle.dpx_cli.specs.declared.stop.Stop.TheVariants as stop
use Rattle.dpx_cli.specs.Jobs.{HasJob}
use Rattle.dpx_cli.specs.Lines.{train_report}
use Rattle.dpx_cli.specs.Printing.{StepsDo, StepsPrint, StopsAtOnce, CommandPrints}
use Rattle.dpx_cli.specs.Run.{IsRunStatus, RunAsks, RunCauses, RunDoes, StatusOfRun, StatusOfTrained, TrainedAndSent}
use Rattle.dpx_cli.specs.Sending.{ShapeSent}
use Rattle.dpx_cli.specs.SendingCommand.{AskedSent, StatusOfShape}
use Rattle.dpx_cli.specs.Status.{IsClean}
use Rattle.dpx_cli.specs.Step.{Step, ◌⇒◌}
use Rattle.dpx_cli.specs.Stop.{bad_of}
use Rattle.dpx_cli.specs.Train.{SaysEnd, SaysTrained}
use Rattle.dpx_cli.specs.Training.{JobTrained, TrainStep, TrainingEnds, TrainingStops, trained_link}
use Rattle.dpx_cli.specs.Transfer.{Prints, PrintsFirst}
use Rattle.dpx_cli.proofs.Captures.{CaptureIsOne}
use Rattle.dpx_cli.proofs.Printings.{breaks_behind, end_status, end_text, ended_status, ended_whole, ended_with, prints_more}
use Rattle.dpx_cli.proofs.Sends.{read_as}
use Rattle.dpx_cli.proofs.SendingCommands.{IsEarly, IsSendingCommand, printed_first, sends, shape_decides}
use Rattle.dpx_cli.proofs.Trainings.{is_some, says_trained, stops_training, trained_status, untrained_status}

module _ (src : Step SourceSeen) (port : Step (PortState SinkPlan)) (PortKept : Type 0) (pipe : Step PipeState)
    (pix : Step SinkSeen) (Kept : Type 0) where
  abbrev Stopped : Stop → List ℕ → Type 0
  Stopped stop said = TrainingStops need.Run src port PortKept stop said

  stopped_early : (stop : Stop) (said : List ℕ) → Stopped stop said → IsEarly stop
  stopped_early (stop.Job why) said s = tt
  stopped_early (stop.Untrained end) said s = tt
  stopped_early stop.ReadFault said s = tt
  stopped_early stop.OutFault said s = tt
  stopped_early stop.NoMemory said s = tt
  stopped_early _ said s = absurd s

  command : IsSendingCommand need.Run src (PortKept × Kept) (RunAsks src port) Stopped Kept
  command = record {
    early = stopped_early;
    refused = λ why said s kept. (s.0, (s.1, kept), s.2);
    unread = λ said s kept. (s.0, (s.1, kept));
    untrained_calm = λ end said s. s.0.has.calm;
    asked_calm = λ shape link said a. a.has.calm;
  }

  abbrev Sent : Result ⊤ Stop → List ℕ → Type 0
  Sent done said = AskedSent (RunAsks src port) pipe pix Kept done said

  job_trained : {shape : Shape} {link : Link} {said : List ℕ} (a : RunAsks src port shape link said)
      → JobTrained need.Run src port a.end
  job_trained a = record { asked = a.asked; has = a.has; plan = a.plan; asks = a.loads; top = a.top; trains = a.trains; trained = a.trained }

  training_ends : {shape : Shape} {link : Link} {said : List ℕ} → RunAsks src port shape link said
      → TrainingEnds need.Run src port
  training_ends a = record { end = a.end; trained = job_trained a }

  -- the steps: the job was read, and then its link trained, or not; where it was, the shape was sent
  module _ (asked : AskedJob) (has : HasJob need.Run src asked) (plan : SinkPlan) (loads : plan_asked asked ≡ Some plan)
      (top : Link) (trains : link_asked asked ≡ Some top) (out middle : SinkSeen) where
    pub training_stopped : (stop : Stop) → Kept → TrainStep top plan port (out ⇒ middle) (Err stop)
        → StepsDo (RunCauses src port PortKept pipe pix Kept) (out ⇒ middle) (Err stop)
    training_stopped stop kept s =
        let t = stops_training need.Run src port PortKept asked has plan loads top trains out middle stop s in
        record { said = t.said; caused = inl (t.caused, kept); printed = t.printed }

    -- what was printed behind the report of the training
    printed_behind : (now : SinkSeen) (front behind : List ℕ) (done : Result ⊤ Stop) → Prints (out ⇒ middle) front
        → StepsPrint (middle ⇒ now) behind done → StepsPrint (out ⇒ now) (front ++ behind) done
    printed_behind now front behind (Ok done) first next = prints_more first next
    printed_behind now front behind (Err stop.OutFault) first next = breaks_behind first next
    printed_behind now front behind (Err stop) first next = prints_more first next

    caused : (done : Result ⊤ Stop) (said : List ℕ) → Sent done said → RunCauses src port PortKept pipe pix Kept done said
    caused (Ok done) said c = c
    caused (Err stop) said c = inr c

    pub shape_sent : (link : Link) (shape : Shape) (now : SinkSeen) (done : Result ⊤ Stop)
        → shape_asked asked ≡ Some shape → TrainStep top plan port (out ⇒ middle) (Ok link)
        → StepsDo (ShapeSent shape link pipe pix Kept) (middle ⇒ now) done
        → StepsDo (RunCauses src port PortKept pipe pix Kept) (out ⇒ now) done
    shape_sent link shape now done asks t s =
        let front = train_report t.end in
        let run_asks : RunAsks src port shape link front = record {
          asked = asked;
          has = has;
          asks = asks;
          plan = plan;
          loads = loads;
          top = top;
          trains = trains;
          end = t.end;
          trained = t.trained;
          over = t.ends.0;
          reported = refl;
        } in
        let sent : Sent done (front ++ s.said) = record {
          shape = shape;
          link = link;
          before = front;
          asked = run_asks;
          behind = s.said;
          sent = s.caused;
          said_is = refl;
        } in
        record {
          said = front ++ s.said;
          caused = caused done (front ++ s.said) sent;
          printed = printed_behind now front s.said done t.ends.1 s.printed;
        }

  -- the bytes that were read decide, and how training ended
  asked_decides : {done : Result ⊤ Stop} {said : List ℕ} (status : ℕ) (c : Sent done said)
      → StatusOfShape pipe.before.pixels (Some c.shape) c.link status
      → IfSome src.before.left (λ bytes. StatusOfRun port pipe.before.pixels (reading need.Run bytes) status)
  asked_decides status c is =
      let a = c.asked in
      let sent : StatusOfTrained pipe.before.pixels (shape_asked a.asked) (trained_link a.end) status =
      rw (a.asks, a.over) is in
      let both : TrainedAndSent port pipe.before.pixels a.asked status =
      record {
        plan = a.plan;
        loads = a.loads;
        top = a.top;
        trains = a.trains;
        end = a.end;
        trained = a.trained;
        decided = sent;
      } in
      read_as need.Run (λ read. StatusOfRun port pipe.before.pixels read status) src.before.left (Ok a.asked)
      a.has.reads both

  untrained_decides : (end : TrainEnd) (status : ℕ) → JobTrained need.Run src port end → trained_link end ≡ None
      → status ≡ 4
      → IfSome src.before.left (λ bytes. StatusOfRun port pipe.before.pixels (reading need.Run bytes) status)
  untrained_decides end status t none is =
      let decided : StatusOfTrained pipe.before.pixels (shape_asked t.asked) (trained_link end) status = rw none is in
      let both : TrainedAndSent port pipe.before.pixels t.asked status =
      record {
        plan = t.plan;
        loads = t.asks;
        top = t.top;
        trains = t.trains;
        end = end;
        trained = t.trained;
        decided = decided;
      } in
      read_as need.Run (λ read. StatusOfRun port pipe.before.pixels read status) src.before.left (Ok t.asked)
      t.has.reads both

  decided_at : (done : Result ⊤ Stop) (said : List ℕ) (status : ℕ) → RunCauses src port PortKept pipe pix Kept done said
      → status ≡ end_status done → IsClean status
      → IfSome src.before.left (λ bytes. StatusOfRun port pipe.before.pixels (reading need.Run bytes) status)
  decided_at (Ok done) said status c is clean =
      asked_decides status c (shape_decides (RunAsks src port) pipe pix Kept (Ok done) said status c is clean)
  decided_at (Err stop) said status (inr c) is clean =
      asked_decides status c (shape_decides (RunAsks src port) pipe pix Kept (Err stop) said status c is clean)
  decided_at (Err (stop.Job why)) said status (inl (s, kept)) is clean =
      read_as need.Run (λ read. StatusOfRun port pipe.before.pixels read status) src.before.left (Err (bad_of why))
      s.0.reads is
  decided_at (Err (stop.Untrained end)) said status (inl (s, kept)) is clean =
      untrained_decides end status s.0 s.1 is
  decided_at (Err stop.ReadFault) said status (inl s) is clean = absurd (clean.read is)
  decided_at (Err stop.OutFault) said status (inl s) is clean = absurd (clean.written is)
  decided_at (Err stop.NoMemory) said status (inl s) is clean = absurd (clean.memory is)
  decided_at (Err _) said status (inl (s, kept)) is clean = absurd s

  -- the statuses of the command's ends
  statuses_at : (done : Result ⊤ Stop) (said : List ℕ) (status : ℕ) → RunCauses src port PortKept pipe pix Kept done said
      → status ≡ end_status done → IsRunStatus status
  statuses_at (Ok done) said status c is = inl is
  statuses_at (Err (stop.Job why)) said status c is = inr (inl is)
  statuses_at (Err (stop.BadPixel number value)) said status c is = inr (inl is)
  statuses_at (Err (stop.PixelsEnded number)) said status c is = inr (inl is)
  statuses_at (Err (stop.Untrained end)) said status c is = inr (inr (inl is))
  statuses_at (Err (stop.Unfit why)) said status c is = inr (inr (inr (inl is)))
  statuses_at (Err stop.ReadFault) said status c is = inr (inr (inr (inr (inl is))))
  statuses_at (Err stop.WriteFault) said status c is = inr (inr (inr (inr (inr (inl is)))))
  statuses_at (Err stop.OutFault) said status c is = inr (inr (inr (inr (inr (inl is)))))
  statuses_at (Err stop.PipeFault) said status c is = inr (inr (inr (inr (inr (inr (inl is))))))
  statuses_at (Err stop.NoMemory) said status c is = inr (inr (inr (inr (inr (inr (inr is))))))
  statuses_at (Err _) said status (inl (s, kept)) is = absurd s
  statuses_at (Err _) said status (inr c) is = absurd c.sent.sent

  run_status : (status : ℕ) (done : Result ⊤ Stop) (said : List ℕ) → RunCauses src port PortKept pipe pix Kept done said
      → (status ≡ end_status done) ⊎ (status ≡ 8) ⊎ (status ≡ 10) → IsRunStatus status
  run_status status done said caused (inl is) = statuses_at done said status caused is
  run_status status done said caused (inr (inl is)) = inr (inr (inr (inr (inr (inl is)))))
  run_status status done said caused (inr (inr is)) = inr (inr (inr (inr (inr (inr (inr is))))))

  kept_or_trained : (done : Result ⊤ Stop) (said : List ℕ) → RunCauses src port PortKept pipe pix Kept done said
      → PortKept ⊎ TrainingEnds need.Run src port
  kept_or_trained (Ok done) said c = inr (training_ends c.asked)
  kept_or_trained (Err stop) said (inr c) = inr (training_ends c.asked)
  kept_or_trained (Err (stop.Job why)) said (inl (s, kept)) = inl s.1
  kept_or_trained (Err (stop.Untrained end)) said (inl (s, kept)) = inr (record { end = end; trained = s.0 })
  kept_or_trained (Err stop.ReadFault) said (inl (s, kept)) = inl s.1
  kept_or_trained (Err stop.OutFault) said (inl (s, kept)) = inr (record { end = s.end; trained = s.trained })
  kept_or_trained (Err stop.NoMemory) said (inl (s, kept)) = s.0
  kept_or_trained (Err _) said (inl (s, kept)) = absurd s

  module _ (out : Step SinkSeen) where
    untrained_at : (done : Result ⊤ Stop) (said : List ℕ) → RunCauses src port PortKept pipe pix Kept done said
        → end_status done ≡ 4 → Prints out (end_text said done) → SaysEnd need.Run src port out 4 × Kept
    untrained_at (Err (stop.Untrained end)) said (inl (s, kept)) e printed = (
      record {
        end = end;
        trained = s.0;
        status_is = sym (untrained_status end s.1);
        printed = subst (λ (before : List ℕ). Prints out (before ++ train_report end)) s.2 printed;
      },
      kept,
    )
    untrained_at (Err (stop.Untrained end)) said (inr c) e printed = absurd c.sent.sent
    untrained_at (Err (stop.Unfetched end)) said (inl (s, kept)) e printed = absurd s
    untrained_at (Err (stop.Unfetched end)) said (inr c) e printed = absurd c.sent.sent
    untrained_at _ said c e printed = absurd cc

    -- the report of the training stands first
    says_first : {done : Result ⊤ Stop} {said : List ℕ} → Sent done said → Prints out (end_text said done)
        → SaysTrained port.now (PrintsFirst out)
    says_first {done = done} {said = said} c printed =
        let a = c.asked in
        let first = printed_first (RunAsks src port) pipe pix Kept out done said c printed in
        says_trained (PrintsFirst out) _ _ port a.end a.trained
        (subst (λ (text : List ℕ). PrintsFirst out text) a.reported first)
        (trained_status a.end (is_some a.end c.link a.over))

    trained_at : (done : Result ⊤ Stop) (said : List ℕ) → RunCauses src port PortKept pipe pix Kept done said
        → (end_status done ≡ 0) ⊎ (end_status done ≡ 5) ⊎ (end_status done ≡ 9) → Prints out (end_text said done)
        → SaysTrained port.now (PrintsFirst out)
    trained_at (Ok done) said c e printed = says_first c printed
    trained_at (Err stop) said (inr c) e printed = says_first c printed
    trained_at (Err (stop.Job why)) said (inl s) e printed = absurd (omega (arith, e))
    trained_at (Err (stop.Untrained end)) said (inl s) e printed = absurd (omega (arith, e))
    trained_at (Err stop.ReadFault) said (inl s) e printed = absurd (omega (arith, e))
    trained_at (Err stop.OutFault) said (inl s) e printed = absurd (omega (arith, e))
    trained_at (Err stop.NoMemory) said (inl s) e printed = absurd (omega (arith, e))
    trained_at (Err _) said (inl (s, kept)) e printed = absurd s

  pub run_does : CaptureIsOne → (Kept → (pipe.now ≡ pipe.before) × (pix.now ≡ pix.before))
      → (out : Step SinkSeen) (status : ℕ) (done : Result ⊤ Stop) (said : List ℕ)
      → RunCauses src port PortKept pipe pix Kept done said → CommandPrints out said done status
      → RunDoes src port PortKept pipe pix Kept out status
  run_does one same out status done said caused printed =
      let with_status : (n : ℕ) → status ≡ n → (n ≡ 8 → ⊥) → (n ≡ 10 → ⊥)
      → (end_status done ≡ n) × Prints out (end_text said done) =
      λ n e not_8 not_10. ended_with out said status done n printed e not_8 not_10 in
      let first : (n : ℕ) → status ≡ n → (n ≡ 0) ⊎ (n ≡ 5) ⊎ (n ≡ 9) → (n ≡ 8 → ⊥) → (n ≡ 10 → ⊥)
      → SaysTrained port.now (PrintsFirst out) =
      λ n e which not_8 not_10. let w = with_status n e not_8 not_10 in
      trained_at out done said caused (subst (λ (m : ℕ). (m ≡ 0) ⊎ (m ≡ 5) ⊎ (m ≡ 9)) (sym w.0) which) w.1 in
      record {
        sends = sends need.Run src (PortKept × Kept) (RunAsks src port) Stopped pipe pix Kept command same one out
            status done said caused printed;
        trained = λ e. first status refl e (λ b. absurd (omega (arith, b, e))) (λ b. absurd (omega (arith, b, e)));
        untrained = λ e.
            let w = with_status 4 e (λ b. cc) (λ b. cc) in
            subst (λ (n : ℕ). SaysEnd need.Run src port out n × Kept) (sym e) (untrained_at out done said caused w.0 w.1);
        statuses = run_status status done said caused (ended_status out said status done printed);
        decided = λ c.
            decided_at done said status caused (ended_whole out said status done printed c.written c.memory).0 c;
        port_kept_or_trained = kept_or_trained done said caused;
      }

  -- there was no memory for the words
  pub unread_words_run : CaptureIsOne → (Kept → (pipe.now ≡ pipe.before) × (pix.now ≡ pix.before))
      → (out : Step SinkSeen) (status : ℕ) → PortKept → Kept → src.now ≡ src.before
      → StopsAtOnce out stop.NoMemory status → RunDoes src port PortKept pipe pix Kept out status
  unread_words_run one same out status port_kept kept calm p =
      run_does one same out status (Err stop.NoMemory) []
      (inl ((inl port_kept, ap (λ (seen : SourceSeen). seen.faults) calm, refl), kept)) p
