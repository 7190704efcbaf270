-- A command that sends, from the end of its steps to what it does by its status.
use Rattle.std.proofs.Common.{◌≡◌, ◌⊎◌, ℕ, List, [], ◌++◌, refl, sym, ap, ◌∙◌, subst, inl, inr, append_assoc}
use Rattle.std.proofs.Common.{Result, Ok, Err, Some}
use Rattle.std.specs.Prelude.{⊤}
use Rattle.std.proofs.lemmas.List.{append-nil}
use Rattle.dpx_base.specs.declared.link.Link.{Link}
use Rattle.dpx_base.specs.declared.pixel.Pixel.{Pixel}
use Rattle.dpx_base.specs.Faults.{Rose}
use Rattle.dpx_base.specs.Pipe.{PipeState}
use Rattle.dpx_base.specs.Plan.{PlanFacts}
use Rattle.dpx_base.specs.Seen.{SourceSeen, SinkSeen}
use Rattle.dpx_files.specs.declared.job.Need.{Need}
use Rattle.dpx_files.specs.declared.shape.Shape.{Shape}
use Rattle.dpx_link.specs.declared.train_end.TrainEnd.{TrainEnd}
use Rattle.dpx_timing.specs.declared.fitting.Unfit.{Unfit}
use Rattle.dpx_timing.specs.Fit.{fit_of}
use Rattle.dpx_cli.specs.declared.stop.JobRefusal.{JobRefusal}
use Rattle.dpx_cli.specs.declared.stop.Stop.{Stop}
use Rattle.dpx_cli.specs.declared.stop.Stop.TheVariants as stop
use Rattle.dpx_cli.specs.Jobs.{JobRefused}
use Rattle.dpx_cli.specs.Printing.{CommandPrints}
use Rattle.dpx_cli.specs.SendLines.{plan_line, sent_line, bad_pixel_line, pixels_ended_line, unfit_line}
use Rattle.dpx_cli.specs.Sending.{shaped, PixelsStop, PlanSent, SentSome, SentAll}
use Rattle.dpx_cli.specs.SendingCommand.{AskedSent, HasPlan, SaysBadPixel, SaysPixelsEnded, SaysSent, SaysUnfit, SendingCauses}
use Rattle.dpx_cli.specs.SendingCommand.{Sends, SendsSome, StatusOfFit, StatusOfShape}
use Rattle.dpx_cli.specs.Jobs.{SaysJobRefused}
use Rattle.dpx_cli.specs.Status.{IsClean}
use Rattle.dpx_cli.specs.Step.{Step}
use Rattle.dpx_cli.specs.Stop.{job_line, stop_lines}
use Rattle.dpx_cli.specs.Transfer.{Prints, PrintsFirst}
use Rattle.dpx_cli.proofs.Captures.{CaptureIsOne, both, some_of_all}
use Rattle.dpx_cli.proofs.Printings.{end_status, end_text, ended_at_8, ended_calm, ended_whole, ended_with}

-- a command stops so before it has anything to send
abbrev pub IsEarly : Stop → Type 0
IsEarly (stop.Job why) = ⊤
IsEarly (stop.Untrained end) = ⊤
IsEarly stop.ReadFault = ⊤
IsEarly stop.OutFault = ⊤
IsEarly stop.NoMemory = ⊤
IsEarly other = ⊥

-- What the rows of a command that sends need to know of its own definitions.
pub record IsSendingCommand (need : Need) (src : Step SourceSeen) (Untouched : Type 0)
    (Asks : Shape → Link → List ℕ → Type 0) (Unsent : Stop → List ℕ → Type 0) (Kept : Type 0) : Type 0 where
  pub early : (stop : Stop) (said : List ℕ) → Unsent stop said → IsEarly stop
  pub refused : (why : JobRefusal) (said : List ℕ) → Unsent (stop.Job why) said → Kept
      → JobRefused need src why × Untouched × (said ≡ [])
  pub unread : (said : List ℕ) → Unsent stop.ReadFault said → Kept → Rose src.before.faults src.now.faults × Untouched
  pub untrained_calm : (end : TrainEnd) (said : List ℕ) → Unsent (stop.Untrained end) said
      → src.now.faults ≡ src.before.faults
  pub asked_calm : (shape : Shape) (link : Link) (said : List ℕ) → Asks shape link said
      → src.now.faults ≡ src.before.faults

-- lines behind what was printed of the sending
behind_said : (said before behind plan line : List ℕ) → said ≡ before ++ behind → behind ≡ plan
    → said ++ line ≡ (before ++ plan) ++ line
behind_said said before behind plan line e f = ap (λ xs. xs ++ line) (e ∙ ap (λ xs. before ++ xs) f)

said_alone : (said before behind : List ℕ) → said ≡ before ++ behind → behind ≡ [] → said ≡ before
said_alone said before behind e f = e ∙ (ap (λ xs. before ++ xs) f ∙ append-nil before)

module _ (Asks : Shape → Link → List ℕ → Type 0) (pipe : Step PipeState) (pix : Step SinkSeen) (Kept : Type 0) where
  -- the plan that was sent
  abbrev plan_of : {done : Result ⊤ Stop} {said : List ℕ} → AskedSent Asks pipe pix Kept done said → PlanFacts
  plan_of c = shaped c.shape c.link

  has_plan : {done : Result ⊤ Stop} {said : List ℕ} (c : AskedSent Asks pipe pix Kept done said)
      → fit_of (plan_of c) ≡ Ok (plan_of c) → HasPlan Asks c.before (plan_of c)
  has_plan c fits = record { shape = c.shape; link = c.link; asked = c.asked; planned = refl; fits = fits }

  -- what was printed before the sending stands first
  pub printed_first : (out : Step SinkSeen) (done : Result ⊤ Stop) (said : List ℕ)
      → (c : AskedSent Asks pipe pix Kept done said) → Prints out (end_text said done) → PrintsFirst out c.before
  printed_first out (Ok done) said c printed =
      record { behind = c.behind; printed = subst (λ (text : List ℕ). Prints out text) c.said_is printed }
  printed_first out (Err stop) said c printed = record {
    behind = c.behind ++ stop_lines stop;
    printed =
        subst (λ (text : List ℕ). Prints out text)
        (ap (λ xs. xs ++ stop_lines stop) c.said_is ∙ append_assoc c.before c.behind (stop_lines stop)) printed;
  }

  -- whatever the end of a plan that fits, nothing was handed out, or it was sent in part
  part_sent : CaptureIsOne → (p : PlanFacts) (done : Result ⊤ Stop) (said : List ℕ)
      → PlanSent p pipe pix Kept done said → Kept ⊎ SentSome p pipe pix
  part_sent one p (Ok done) said (e, all, pipe_calm, pix_calm) = inr (some_of_all p pipe pix Kept one all)
  part_sent one p (Err (stop.BadPixel number value)) said (e, some, pipe_calm, pix_calm, cause) = inr some
  part_sent one p (Err (stop.PixelsEnded number)) said (e, some, pipe_calm, pix_calm, cause) = inr some
  part_sent one p (Err stop.PipeFault) said (e, some, pipe_is, pix_is) = inr some
  part_sent one p (Err stop.WriteFault) said (e, some, pipe_is, pix_is) = inr some
  part_sent one p (Err stop.OutFault) said (inl (e, kept)) = inl kept
  part_sent one p (Err stop.OutFault) said (inr (e, all, pipe_calm, pix_calm)) = inr (some_of_all p pipe pix Kept one all)
  part_sent one p (Err stop.NoMemory) said (inl (e, kept)) = inl kept
  part_sent one p (Err stop.NoMemory) said (inr (e, some, pipe_calm, pix_calm)) = inr some
  part_sent one p (Err _) said none = absurd none

  kept_or : {done : Result ⊤ Stop} {said : List ℕ} (c : AskedSent Asks pipe pix Kept done said)
      → fit_of (plan_of c) ≡ Ok (plan_of c) → Kept ⊎ SentSome (plan_of c) pipe pix
      → Kept ⊎ SendsSome Asks pipe pix Kept
  kept_or c fits (inl kept) = inl kept
  kept_or c fits (inr some) = inr (record { said = c.before; plan = plan_of c; fit = has_plan c fits; some = some })

  some_sent : CaptureIsOne → (done : Result ⊤ Stop) (said : List ℕ) → AskedSent Asks pipe pix Kept done said
      → Kept ⊎ SendsSome Asks pipe pix Kept
  some_sent one (Err (stop.Unfit why)) said c = inl c.sent.1
  some_sent one done said c = kept_or c c.sent.fits (part_sent one (plan_of c) done c.behind c.sent.sent)

  -- the pixels decide the status of what fits
  stop_decides : (p : PlanFacts) (Cause : List Pixel → Type 0) (status : ℕ) → status ≡ 3
      → PixelsStop p pipe pix Cause → StatusOfFit pipe.before.pixels (Ok p) status
  stop_decides p Cause status is cause =
      both pipe.before.pixels cause cause
      (λ pixels c _. (λ whole. absurd (c.1 whole), λ not_whole. is))

  all_decides : (p : PlanFacts) (status : ℕ) → status ≡ 0 → SentAll p pipe pix
      → StatusOfFit pipe.before.pixels (Ok p) status
  all_decides p status is all =
      both pipe.before.pixels all all
      (λ pixels s _. (λ whole. is, λ not_whole. absurd (not_whole s.whole)))

  fit_decides : (fit known : Result PlanFacts Unfit) (status : ℕ) → fit ≡ known
      → StatusOfFit pipe.before.pixels known status → StatusOfFit pipe.before.pixels fit status
  fit_decides fit known status e is =
      subst (λ (r : Result PlanFacts Unfit). StatusOfFit pipe.before.pixels r status) (sym e) is

  pub shape_decides : (done : Result ⊤ Stop) (said : List ℕ) (status : ℕ)
      → (c : AskedSent Asks pipe pix Kept done said) → status ≡ end_status done → IsClean status
      → StatusOfShape pipe.before.pixels (Some c.shape) c.link status
  shape_decides (Ok done) said status c is clean =
      fit_decides _ (Ok (plan_of c)) status c.sent.fits (all_decides (plan_of c) status is c.sent.sent.1)
  shape_decides (Err (stop.Unfit why)) said status c is clean = fit_decides _ (Err why) status c.sent.0 is
  shape_decides (Err (stop.BadPixel number value)) said status c is clean =
      fit_decides _ (Ok (plan_of c)) status c.sent.fits (stop_decides (plan_of c) _ status is c.sent.sent.4)
  shape_decides (Err (stop.PixelsEnded number)) said status c is clean =
      fit_decides _ (Ok (plan_of c)) status c.sent.fits (stop_decides (plan_of c) _ status is c.sent.sent.4)
  shape_decides (Err stop.ReadFault) said status c is clean = absurd (clean.read is)
  shape_decides (Err stop.WriteFault) said status c is clean = absurd (clean.written is)
  shape_decides (Err stop.OutFault) said status c is clean = absurd (clean.written is)
  shape_decides (Err stop.PipeFault) said status c is clean = absurd (clean.shown is)
  shape_decides (Err stop.NoMemory) said status c is clean = absurd (clean.memory is)
  shape_decides (Err _) said status c is clean = absurd c.sent.sent

module _ (need : Need) (src : Step SourceSeen) (Untouched : Type 0) (Asks : Shape → Link → List ℕ → Type 0)
    (Unsent : Stop → List ℕ → Type 0) (pipe : Step PipeState) (pix : Step SinkSeen) (Kept : Type 0)
    (command : IsSendingCommand need src Untouched Asks Unsent Kept) where
  abbrev Caused : Result ⊤ Stop → List ℕ → Type 0
  Caused done said = SendingCauses Asks pipe pix Kept Unsent done said

  module _ (out : Step SinkSeen) where
    abbrev IsPrinted : List ℕ → Type 0
    IsPrinted text = Prints out text

    sent_at : (done : Result ⊤ Stop) (said : List ℕ) → Caused done said → end_status done ≡ 0
        → Prints out (end_text said done) → SaysSent Asks pipe pix Kept out
    sent_at (Ok done) said c e printed = record {
      said = c.before;
      plan = plan_of Asks pipe pix Kept c;
      fit = has_plan Asks pipe pix Kept c c.sent.fits;
      all = c.sent.sent.1;
      printed =
          subst IsPrinted
          (c.said_is ∙ (ap (λ xs. c.before ++ xs) c.sent.sent.0
          ∙ sym (append_assoc c.before (plan_line (plan_of Asks pipe pix Kept c)) (sent_line (plan_of Asks pipe pix Kept c)))))
          printed;
    }
    sent_at (Err stop.Usage) said c e printed = absurd cc
    sent_at (Err _) said c e printed = absurd cc

    abbrev Refusal : Type 0
    Refusal =
        (SaysJobRefused need src out × Untouched)
        ⊎ SaysBadPixel Asks pipe pix Kept out ⊎ SaysPixelsEnded Asks pipe pix Kept out

    refused_at : (done : Result ⊤ Stop) (said : List ℕ) → Caused done said → end_status done ≡ 3
        → Prints out (end_text said done) → Refusal
    refused_at (Err (stop.Job why)) said (inl (unsent, kept)) e printed =
        let r = command.refused why said unsent kept in
        let text = subst (λ (before : List ℕ). IsPrinted (before ++ job_line why)) r.2 printed in
        inl (record { why = why; refused = r.0; printed = text }, r.1)
    refused_at (Err (stop.Job why)) said (inr c) e printed = absurd c.sent.sent
    refused_at (Err (stop.BadPixel number value)) said (inl (unsent, kept)) e printed =
        absurd (command.early (stop.BadPixel number value) said unsent)
    refused_at (Err (stop.BadPixel number value)) said (inr c) e printed =
        inr (inl (record {
          number = number;
          value = value;
          says = record {
            said = c.before;
            plan = plan_of Asks pipe pix Kept c;
            fit = has_plan Asks pipe pix Kept c c.sent.fits;
            some = c.sent.sent.1;
            cause = c.sent.sent.4;
            printed =
                subst IsPrinted
                (behind_said said c.before c.behind _ (bad_pixel_line number value) c.said_is c.sent.sent.0) printed;
          };
        }))
    refused_at (Err (stop.PixelsEnded number)) said (inl (unsent, kept)) e printed =
        absurd (command.early (stop.PixelsEnded number) said unsent)
    refused_at (Err (stop.PixelsEnded number)) said (inr c) e printed =
        inr (inr (record {
          number = number;
          says = record {
            said = c.before;
            plan = plan_of Asks pipe pix Kept c;
            fit = has_plan Asks pipe pix Kept c c.sent.fits;
            some = c.sent.sent.1;
            cause = c.sent.sent.4;
            printed =
                subst IsPrinted
                (behind_said said c.before c.behind _ (pixels_ended_line number) c.said_is c.sent.sent.0) printed;
          };
        }))
    refused_at _ said c e printed = absurd cc

    unfit_at : (done : Result ⊤ Stop) (said : List ℕ) → Caused done said → end_status done ≡ 5
        → Prints out (end_text said done) → SaysUnfit Asks out × Kept
    unfit_at (Err (stop.Unfit why)) said (inl (unsent, kept)) e printed =
        absurd (command.early (stop.Unfit why) said unsent)
    unfit_at (Err (stop.Unfit why)) said (inr c) e printed = (
      record {
        said = c.before;
        why = why;
        unfit = record { shape = c.shape; link = c.link; asked = c.asked; unfit = c.sent.0 };
        printed =
            subst (λ (before : List ℕ). IsPrinted (before ++ unfit_line why))
            (said_alone said c.before c.behind c.said_is c.sent.2) printed;
      },
      c.sent.1,
    )
    unfit_at _ said c e printed = absurd cc

    write_fault_at : (done : Result ⊤ Stop) (said : List ℕ) → Caused done said
        → (◌≡◌ {A = Result ⊤ Stop} done (Err stop.WriteFault)) ⊎ Rose out.before.faults out.now.faults
        → Rose pix.before.faults pix.now.faults ⊎ Rose out.before.faults out.now.faults
    write_fault_at done said c (inr rose) = inr rose
    write_fault_at (Err stop.WriteFault) said (inl (unsent, kept)) (inl e) =
        absurd (command.early stop.WriteFault said unsent)
    write_fault_at (Err stop.WriteFault) said (inr c) (inl e) = inl c.sent.sent.3
    write_fault_at _ said c (inl e) = absurd cc

  read_fault_at : (done : Result ⊤ Stop) (said : List ℕ) → Caused done said → end_status done ≡ 7
      → Rose src.before.faults src.now.faults × Untouched
  read_fault_at (Err stop.ReadFault) said (inl (unsent, kept)) e = command.unread said unsent kept
  read_fault_at (Err stop.ReadFault) said (inr c) e = absurd c.sent.sent
  read_fault_at _ said c e = absurd cc

  pipe_fault_at : (done : Result ⊤ Stop) (said : List ℕ) → Caused done said → end_status done ≡ 9
      → Rose pipe.before.faults pipe.now.faults
  pipe_fault_at (Err stop.PipeFault) said (inl (unsent, kept)) e = absurd (command.early stop.PipeFault said unsent)
  pipe_fault_at (Err stop.PipeFault) said (inr c) e = c.sent.sent.2
  pipe_fault_at _ said c e = absurd cc

  kept_or_sent_at : CaptureIsOne → (done : Result ⊤ Stop) (said : List ℕ) → Caused done said
      → Kept ⊎ SendsSome Asks pipe pix Kept
  kept_or_sent_at one (Ok done) said c = some_sent Asks pipe pix Kept one (Ok done) said c
  kept_or_sent_at one (Err stop) said (inl (unsent, kept)) = inl kept
  kept_or_sent_at one (Err stop) said (inr c) = some_sent Asks pipe pix Kept one (Err stop) said c

  -- each object that had no fault is calm, where the status tells of none
  module _ (same : Kept → (pipe.now ≡ pipe.before) × (pix.now ≡ pix.before)) where
    abbrev AllCalm : Type 0
    AllCalm =
        (src.now.faults ≡ src.before.faults) × (pipe.now.faults ≡ pipe.before.faults)
        × (pix.now.faults ≡ pix.before.faults)

    kept_calm : src.now.faults ≡ src.before.faults → Kept → AllCalm
    kept_calm calm kept = (
      calm,
      ap (λ (seen : PipeState). seen.faults) (same kept).0,
      ap (λ (seen : SinkSeen). seen.faults) (same kept).1,
    )

    asked_calm : {done : Result ⊤ Stop} {said : List ℕ} → AskedSent Asks pipe pix Kept done said
        → src.now.faults ≡ src.before.faults
    asked_calm c = command.asked_calm c.shape c.link c.before c.asked

    unsent_calm : (stop : Stop) (said : List ℕ) → Unsent stop said → Kept
        → (end_status (Err stop) ≡ 7 → ⊥) → (end_status (Err stop) ≡ 8 → ⊥) → (end_status (Err stop) ≡ 10 → ⊥) → AllCalm
    unsent_calm (stop.Job why) said unsent kept n7 n8 n10 =
        kept_calm (command.refused why said unsent kept).0.calm kept
    unsent_calm (stop.Untrained end) said unsent kept n7 n8 n10 = kept_calm (command.untrained_calm end said unsent) kept
    unsent_calm stop.ReadFault said unsent kept n7 n8 n10 = absurd (n7 refl)
    unsent_calm stop.OutFault said unsent kept n7 n8 n10 = absurd (n8 refl)
    unsent_calm stop.NoMemory said unsent kept n7 n8 n10 = absurd (n10 refl)
    unsent_calm stop said unsent kept n7 n8 n10 = absurd (command.early stop said unsent)

    sent_calm : (done : Result ⊤ Stop) (said : List ℕ) → AskedSent Asks pipe pix Kept done said
        → (end_status done ≡ 8 → ⊥) → (end_status done ≡ 9 → ⊥) → (end_status done ≡ 10 → ⊥) → AllCalm
    sent_calm (Ok done) said c n8 n9 n10 = (asked_calm c, c.sent.sent.2, c.sent.sent.3)
    sent_calm (Err (stop.Unfit why)) said c n8 n9 n10 = kept_calm (asked_calm c) c.sent.1
    sent_calm (Err (stop.BadPixel number value)) said c n8 n9 n10 = (asked_calm c, c.sent.sent.2, c.sent.sent.3)
    sent_calm (Err (stop.PixelsEnded number)) said c n8 n9 n10 = (asked_calm c, c.sent.sent.2, c.sent.sent.3)
    sent_calm (Err stop.WriteFault) said c n8 n9 n10 = absurd (n8 refl)
    sent_calm (Err stop.OutFault) said c n8 n9 n10 = absurd (n8 refl)
    sent_calm (Err stop.PipeFault) said c n8 n9 n10 = absurd (n9 refl)
    sent_calm (Err stop.NoMemory) said c n8 n9 n10 = absurd (n10 refl)
    sent_calm (Err _) said c n8 n9 n10 = absurd c.sent.sent

    calm_at : (done : Result ⊤ Stop) (said : List ℕ) → Caused done said
        → (end_status done ≡ 7 → ⊥) → (end_status done ≡ 8 → ⊥) → (end_status done ≡ 9 → ⊥)
        → (end_status done ≡ 10 → ⊥) → AllCalm
    calm_at (Ok done) said c n7 n8 n9 n10 = sent_calm (Ok done) said c n8 n9 n10
    calm_at (Err stop) said (inl (unsent, kept)) n7 n8 n9 n10 = unsent_calm stop said unsent kept n7 n8 n10
    calm_at (Err stop) said (inr c) n7 n8 n9 n10 = sent_calm (Err stop) said c n8 n9 n10

    pub sends : CaptureIsOne → (out : Step SinkSeen) (status : ℕ) (done : Result ⊤ Stop) (said : List ℕ)
        → Caused done said → CommandPrints out said done status
        → Sends need src Untouched Asks Unsent pipe pix Kept out status
    sends one out status done said caused printed =
        let with_status : (n : ℕ) → status ≡ n → (n ≡ 8 → ⊥) → (n ≡ 10 → ⊥)
        → (end_status done ≡ n) × Prints out (end_text said done) =
        λ n e not_8 not_10. ended_with out said status done n printed e not_8 not_10 in
        let clean : IsClean status → status ≡ end_status done =
        λ c. (ended_whole out said status done printed c.written c.memory).0 in
        let calm : IsClean status → AllCalm =
        λ c. calm_at done said caused (λ e. c.read (clean c ∙ e)) (λ e. c.written (clean c ∙ e))
        (λ e. c.shown (clean c ∙ e)) (λ e. c.memory (clean c ∙ e)) in
        record {
          sent = λ e. let w = with_status 0 e (λ b. cc) (λ b. cc) in sent_at out done said caused w.0 w.1;
          refused = λ e. let w = with_status 3 e (λ b. cc) (λ b. cc) in refused_at out done said caused w.0 w.1;
          unfit = λ e. let w = with_status 5 e (λ b. cc) (λ b. cc) in unfit_at out done said caused w.0 w.1;
          read_fault = λ e. read_fault_at done said caused (with_status 7 e (λ b. cc) (λ b. cc)).0;
          write_fault = λ e. write_fault_at out done said caused (ended_at_8 out said status done printed e);
          pipe_fault = λ e. pipe_fault_at done said caused (with_status 9 e (λ b. cc) (λ b. cc)).0;
          kept_or_sent = kept_or_sent_at one done said caused;
          reads_are_calm = λ c. (calm c).0;
          pipe_is_calm = λ c. (calm c).1;
          pix_is_calm = λ c. (calm c).2;
          writes_are_calm = λ not_8. ended_calm out said status done printed not_8;
          done = done;
          said = said;
          caused = caused;
          printed = printed;
        }
