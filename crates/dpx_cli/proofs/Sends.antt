-- The command `send`, from its steps to its contract.
use Rattle.std.proofs.Common.{◌≡◌, ◌⊎◌, ℕ, List, [], refl, sym, ap, subst, inl, inr}
use Rattle.std.proofs.Common.{Result, Ok, Err, Option, Some, None}
use Rattle.std.specs.Prelude.{⊤, IfSome}
use Rattle.dpx_base.specs.declared.link.Link.{Link}
use Rattle.dpx_base.specs.Pipe.{PipeState}
use Rattle.dpx_base.specs.Seen.{SourceSeen, SinkSeen}
use Rattle.dpx_files.specs.declared.job.Job.{Job as AskedJob}
use Rattle.dpx_files.specs.declared.job.Need.{Need}
use Rattle.dpx_files.specs.declared.job.Need.TheVariants as need
use Rattle.dpx_files.specs.declared.refusal.JobBad.{JobBad}
use Rattle.dpx_files.specs.declared.shape.Shape.{Shape}
use Rattle.dpx_files.specs.Job.{reading, link_asked, shape_asked}
use Rattle.dpx_cli.specs.declared.stop.Stop.{Stop}
use Rattle.dpx_cli.specs.declared.stop.Stop.TheVariants as stop
use Rattle.dpx_cli.specs.Jobs.{HasJob}
use Rattle.dpx_cli.specs.Printing.{StepsDo, StopsAtOnce, CommandPrints}
use Rattle.dpx_cli.specs.Sending.{ShapeSent}
use Rattle.dpx_cli.specs.SendingCommand.{AskedSent, StatusOfShape}
use Rattle.dpx_cli.specs.Send.{IsSendStatus, SendAsks, SendCauses, SendDoes, SendUnsent, StatusOfSend}
use Rattle.dpx_cli.specs.Status.{IsClean}
use Rattle.dpx_cli.specs.Step.{Step}
use Rattle.dpx_cli.specs.Stop.{bad_of}
use Rattle.dpx_cli.proofs.Captures.{CaptureIsOne}
use Rattle.dpx_cli.proofs.Printings.{end_status, ended_status, ended_whole}
use Rattle.dpx_cli.proofs.SendingCommands.{IsEarly, IsSendingCommand, sends, shape_decides}

-- what was decided of a job is decided of the bytes that it was read from
pub read_as : (asked_for : Need) (Decided : Result AskedJob JobBad → Type 0) (left : Option (List ℕ))
    (told : Result AskedJob JobBad) → IfSome left (λ bytes. reading asked_for bytes ≡ told) → Decided told
    → IfSome left (λ bytes. Decided (reading asked_for bytes))
read_as asked_for Decided None told reads is = tt
read_as asked_for Decided (Some bytes) told reads is = subst Decided (sym reads) is

module _ (src : Step SourceSeen) (pipe : Step PipeState) (pix : Step SinkSeen) (Kept : Type 0) where
  unsent_early : (stop : Stop) (said : List ℕ) → SendUnsent src stop said → IsEarly stop
  unsent_early (stop.Job why) said u = tt
  unsent_early stop.ReadFault said u = tt
  unsent_early stop.NoMemory said u = tt
  unsent_early _ said u = absurd u.0

  command : IsSendingCommand need.Send src Kept (SendAsks src) (SendUnsent src) Kept
  command = record {
    early = unsent_early;
    refused = λ why said u kept. (u.0, kept, u.1);
    unread = λ said u kept. (u.0, kept);
    untrained_calm = λ end said u. absurd u.0;
    asked_calm = λ shape link said a. a.has.calm;
  }

  -- the job was read, and its shape sent
  module _ (asked : AskedJob) (has : HasJob need.Send src asked) (shape : Shape)
      (asks : shape_asked asked ≡ Some shape) (link : Link) (over : link_asked asked ≡ Some link) where
    causes : (done : Result ⊤ Stop) (said : List ℕ) → AskedSent (SendAsks src) pipe pix Kept done said
        → SendCauses src pipe pix Kept done said
    causes (Ok done) said c = c
    causes (Err stop) said c = inr c

    pub steps_of_shape : (out : Step SinkSeen) (done : Result ⊤ Stop)
        → StepsDo (ShapeSent shape link pipe pix Kept) out done
        → StepsDo (SendCauses src pipe pix Kept) out done
    steps_of_shape out done s =
        let asks_so : SendAsks src shape link [] =
        record { asked = asked; has = has; asks = asks; over = over; nothing = refl } in
        let sent : AskedSent (SendAsks src) pipe pix Kept done s.said = record {
          shape = shape;
          link = link;
          before = [];
          asked = asks_so;
          behind = s.said;
          sent = s.caused;
          said_is = refl;
        } in
        record { said = s.said; caused = causes done s.said sent; printed = s.printed }

  -- the bytes that were read decide
  asked_decides : {done : Result ⊤ Stop} {said : List ℕ} (status : ℕ)
      → (c : AskedSent (SendAsks src) pipe pix Kept done said)
      → StatusOfShape pipe.before.pixels (Some c.shape) c.link status
      → IfSome src.before.left (λ bytes. StatusOfSend pipe.before.pixels (reading need.Send bytes) status)
  asked_decides status c is =
      read_as need.Send (λ read. StatusOfSend pipe.before.pixels read status) src.before.left (Ok c.asked.asked)
      c.asked.has.reads (rw (c.asked.asks, c.asked.over) is)

  decided_at : (done : Result ⊤ Stop) (said : List ℕ) (status : ℕ) → SendCauses src pipe pix Kept done said
      → status ≡ end_status done → IsClean status
      → IfSome src.before.left (λ bytes. StatusOfSend pipe.before.pixels (reading need.Send bytes) status)
  decided_at (Ok done) said status c is clean =
      asked_decides status c (shape_decides (SendAsks src) pipe pix Kept (Ok done) said status c is clean)
  decided_at (Err stop) said status (inr c) is clean =
      asked_decides status c (shape_decides (SendAsks src) pipe pix Kept (Err stop) said status c is clean)
  decided_at (Err (stop.Job why)) said status (inl (u, kept)) is clean =
      read_as need.Send (λ read. StatusOfSend pipe.before.pixels read status) src.before.left (Err (bad_of why))
      u.0.reads is
  decided_at (Err stop.ReadFault) said status (inl u) is clean = absurd (clean.read is)
  decided_at (Err stop.NoMemory) said status (inl u) is clean = absurd (clean.memory is)
  decided_at (Err _) said status (inl (u, kept)) is clean = absurd u.0

  -- the statuses of the command's ends
  statuses_at : (done : Result ⊤ Stop) (said : List ℕ) (status : ℕ) → SendCauses src pipe pix Kept done said
      → status ≡ end_status done → IsSendStatus status
  statuses_at (Ok done) said status c is = inl is
  statuses_at (Err (stop.Job why)) said status c is = inr (inl is)
  statuses_at (Err (stop.BadPixel number value)) said status c is = inr (inl is)
  statuses_at (Err (stop.PixelsEnded number)) said status c is = inr (inl is)
  statuses_at (Err (stop.Unfit why)) said status c is = inr (inr (inl is))
  statuses_at (Err stop.ReadFault) said status c is = inr (inr (inr (inl is)))
  statuses_at (Err stop.WriteFault) said status c is = inr (inr (inr (inr (inl is))))
  statuses_at (Err stop.OutFault) said status c is = inr (inr (inr (inr (inl is))))
  statuses_at (Err stop.PipeFault) said status c is = inr (inr (inr (inr (inr (inl is)))))
  statuses_at (Err stop.NoMemory) said status c is = inr (inr (inr (inr (inr (inr is)))))
  statuses_at (Err _) said status (inl (u, kept)) is = absurd u.0
  statuses_at (Err _) said status (inr c) is = absurd c.sent.sent

  send_status : (status : ℕ) (done : Result ⊤ Stop) (said : List ℕ) → SendCauses src pipe pix Kept done said
      → (status ≡ end_status done) ⊎ (status ≡ 8) ⊎ (status ≡ 10) → IsSendStatus status
  send_status status done said caused (inl is) = statuses_at done said status caused is
  send_status status done said caused (inr (inl is)) = inr (inr (inr (inr (inl is))))
  send_status status done said caused (inr (inr is)) = inr (inr (inr (inr (inr (inr is)))))

  pub send_does : CaptureIsOne → (Kept → (pipe.now ≡ pipe.before) × (pix.now ≡ pix.before))
      → (out : Step SinkSeen) (status : ℕ) (done : Result ⊤ Stop) (said : List ℕ)
      → SendCauses src pipe pix Kept done said → CommandPrints out said done status
      → SendDoes src pipe pix Kept out status
  send_does one same out status done said caused printed = record {
    sends = sends need.Send src Kept (SendAsks src) (SendUnsent src) pipe pix Kept command same one out status done said
        caused printed;
    statuses = send_status status done said caused (ended_status out said status done printed);
    decided = λ c.
        decided_at done said status caused (ended_whole out said status done printed c.written c.memory).0 c;
  }

  -- there was no memory for the words
  pub unread_words_send : CaptureIsOne → (Kept → (pipe.now ≡ pipe.before) × (pix.now ≡ pix.before))
      → (out : Step SinkSeen) (status : ℕ) → Kept → src.now ≡ src.before → StopsAtOnce out stop.NoMemory status
      → SendDoes src pipe pix Kept out status
  unread_words_send one same out status kept calm p =
      send_does one same out status (Err stop.NoMemory) []
      (inl ((ap (λ (seen : SourceSeen). seen.faults) calm, refl), kept)) p
