-- The command `recv`, from its steps to its contract.
use Rattle.std.proofs.Common.{◌≡◌, ◌≢◌, ◌⊎◌, ◌≤◌, ◌<◌, ◌+◌, ℕ, List, [], ◌∷◌, ◌++◌, length, length-append, take, drop, refl, sym, ap, ◌∙◌}
use Rattle.std.proofs.Common.{subst, arith, inl, inr, append_assoc, Result, Ok, Err, Option, Some, None}
use Rattle.std.specs.Prelude.{⊤, IfSome, IsSomeAnd}
use Rattle.std.proofs.Common.{Bool, true, false, ltb}
use Rattle.std.proofs.Math.Seq.{take-append_seam}
use Rattle.std.proofs.lemmas.Bool.{ltb-true, ltb-false}
use Rattle.std.proofs.lemmas.List.{append-nil}
use Rattle.std.specs.Io.KnownBytes.{Appends, Consumes, IsAtEnd}
use Rattle.dpx_base.specs.declared.link.Link.{Link}
use Rattle.dpx_base.specs.declared.pixel.Pixel.{Pixel}
use Rattle.dpx_base.specs.Capture.{IsCapture, capture_clocks, header_bytes, word_bytes}
use Rattle.dpx_base.specs.Lanes.{lanes_count}
use Rattle.dpx_base.specs.Faults.{Rose}
use Rattle.dpx_base.specs.Plan.{PlanFacts}
use Rattle.dpx_base.specs.Seen.{SourceSeen, SinkSeen}
use Rattle.dpx_files.specs.Header.{header_in}
use Rattle.dpx_files.specs.Laws.{HeadersComeBack}
use Rattle.dpx_base.specs.Slots.{header_start}
use Rattle.dpx_inversion.specs.Laws.{sent_frames}
use Rattle.dpx_parse.specs.Stands.{number_of}
use Rattle.dpx_reception.specs.Due.{Due, lines_due, pixel_records, records_due, whole_frames, whole_lines}
use Rattle.dpx_reception.specs.Laws.{CapturesAreReceived, FaultsStay, IsOneReception, SentIsReceived}
use Rattle.dpx_reception.specs.Reception.{Fault, Reception, no_fault, word_fault, set_fault}
use Rattle.dpx_sink.specs.declared.finish_end.FinishEnd.{FinishEnd}
use Rattle.dpx_sink.specs.declared.finish_end.Received.{Received}
use Rattle.dpx_sink.specs.Laws.{CaptureIsWritten, CapturesAreWritten, IsOneEnd, all_of}
use Rattle.dpx_sink.specs.Receiver.{Counts, EndsAs}
use Rattle.dpx_cli.specs.declared.stop.CaptureBad.{CaptureBad}
use Rattle.dpx_cli.specs.declared.stop.CaptureBad.TheVariants.{Header, Word, Set, Long, Unfinished}
use Rattle.dpx_cli.specs.declared.stop.Stop.{Stop}
use Rattle.dpx_cli.specs.declared.stop.Stop.TheVariants as stop
use Rattle.dpx_cli.specs.Printing.{StopsAtOnce, CommandPrints}
use Rattle.dpx_cli.specs.Receiving.{ReadsNoHeader, longest_capture}
use Rattle.dpx_cli.specs.Recv.{CaptureHasFault, CaptureIsRead, CaptureRefused, GivesBack, IsGoodCapture}
use Rattle.dpx_cli.specs.Recv.{IsRecvStatus, IsSent, RecvCauses, RecvDoes, SaysCaptureRefused, SaysReadFault}
use Rattle.dpx_cli.specs.Recv.{SaysReceived, StatusOfCapture, attributes_lines}
use Rattle.dpx_cli.specs.Status.{IsClean}
use Rattle.dpx_cli.specs.Step.{Step}
use Rattle.dpx_cli.specs.Transfer.{Prints}
use Rattle.dpx_cli.proofs.Printings.{end_status, end_text, ended_at_8, ended_calm, ended_status, ended_whole, ended_with}
use Rattle.dpx_cli.specs.RecvLines.{received_line}

-- what holds of captures and of what is received of them
pub record CaptureLaws : Type 0 where
  pub headers : HeadersComeBack
  pub one_end : IsOneEnd
  pub one_reception : IsOneReception
  pub faults_stay : FaultsStay
  pub received : CapturesAreReceived
  pub written : CapturesAreWritten

-- what was read is a front of all, and all of it where the input has ended
abbrev IsFrontOf : List ℕ → List ℕ → Type 0
IsFrontOf front all = (rest : List ℕ) × (all ≡ front ++ rest)

front_read : (before now : Option (List ℕ)) (front : List ℕ) → Consumes before now front → IfSome before (IsFrontOf front)
front_read None now front c = tt
front_read (Some all) None front c = absurd c
front_read (Some all) (Some rest) front c = (rest, c)

all_read : (before now : Option (List ℕ)) (front : List ℕ) → Consumes before now front → IsAtEnd now
    → IfSome before (λ all. all ≡ front)
all_read None now front c e = tt
all_read (Some all) None front c e = absurd c
all_read (Some all) (Some rest) front c e = c ∙ (ap (λ xs. front ++ xs) e ∙ append-nil front)

on_some : {A : Type 0} (told : Option A) {P Q : A → Type 0} → IfSome told P → ((x : A) → P x → Q x) → IfSome told Q
on_some None h f = tt
on_some (Some x) h f = f x h

module _ (laws : CaptureLaws) (all : List ℕ) where
  -- a capture has one header
  one_header : (link other : Link) (bytes rest : List ℕ) → all ≡ header_bytes link ++ bytes
      → all ≡ header_bytes other ++ rest → (link ≡ other) × (bytes ≡ rest)
  one_header link other bytes rest p q =
      let e : header_bytes link ++ bytes ≡ header_bytes other ++ rest = sym p ∙ q in
      let heads : header_bytes link ≡ header_bytes other = ap (λ xs. take 8 xs) e in
      let told : Some link ≡ Some other =
      sym (laws.headers link) ∙ (ap header_in heads ∙ laws.headers other) in
      (cc, ap (λ xs. drop 8 xs) e)

  -- a capture without a header is not good
  headless : (count : ℕ) (front : List ℕ) → length front ≡ count → count ≤ 8 → (count < 8 → all ≡ front)
      → IsFrontOf front all → (count ≡ 8 → header_in front ≡ None) → IsGoodCapture all → ⊥
  headless count front counted short ended (rest, is) none good = by_count (ltb count 8) refl
    where
      by_count : (b : Bool) → ltb count 8 ≡ b → ⊥
      by_count true e =
          let all_is = ended (ltb-true count 8 e) in
          omega (
            arith,
            ltb-true count 8 e,
            counted,
            ap length all_is,
            ap length good.divided,
            length-append (header_bytes good.link) good.bytes,
          )
      by_count false e =
          let eight : count ≡ 8 = omega (arith, short, ltb-false count 8 e) in
          let both : front ++ rest ≡ header_bytes good.link ++ good.bytes = sym is ∙ good.divided in
          let heads : front ≡ header_bytes good.link =
          sym (take-append_seam front rest) ∙ (ap (λ n. take n (front ++ rest)) (counted ∙ eight) ∙ ap (λ xs. take 8 xs) both) in
          let told : header_in front ≡ Some good.link = ap header_in heads ∙ laws.headers good.link in
          let not_told = none eight in
          absurd cc

  -- nor is one with a fault
  faulty : (link : Link) (bytes rest records text : List ℕ) (fault : Fault) → fault ≢ no_fault
      → all ≡ (header_bytes link ++ bytes) ++ rest → Due link bytes fault records text → IsGoodCapture all → ⊥
  faulty link bytes rest records text fault some is due good =
      let whole : all ≡ header_bytes link ++ (bytes ++ rest) = is ∙ append_assoc (header_bytes link) bytes rest in
      let same = one_header good.link link good.bytes (bytes ++ rest) good.divided whole in
      let counts = good.ends.2 in
      let stays = laws.faults_stay link bytes rest fault due.frames due.tail some due.received in
      let clean : Reception link (bytes ++ rest) no_fault counts.frames counts.tail =
      rw (← same.0, ← same.1) counts.reception in
      some (laws.one_reception link (bytes ++ rest) fault no_fault due.frames counts.frames due.tail counts.tail stays clean).0

  -- nor one that is too long
  too_long : (link : Link) (bytes rest : List ℕ) (byte : ℕ) → 8 + length bytes ≡ longest_capture
      → all ≡ (header_bytes link ++ bytes ++ byte ∷ []) ++ rest → IsGoodCapture all → ⊥
  too_long link bytes rest byte full is good =
      absurd (omega (arith, good.short, full, ap length is, length-append (bytes ++ byte ∷ []) rest, length-append bytes (byte ∷ [])))

  -- nor one that ends otherwise
  unfinished : (link : Link) (bytes : List ℕ) (end : FinishEnd) → all ≡ header_bytes link ++ bytes
      → EndsAs link bytes (Err end) → IsGoodCapture all → ⊥
  unfinished link bytes end is ends good =
      let same = one_header good.link link good.bytes bytes good.divided is in
      let good_end : EndsAs link bytes (Ok good.received) = rw (← same.0, ← same.1) good.ends in
      let clash = laws.one_end link bytes (Err end) (Ok good.received) ends good_end in
      absurd cc

module _ (laws : CaptureLaws) (src : Step SourceSeen) (pix : Step SinkSeen) (PixKept : Type 0) where
  -- a capture that is refused is not good
  abbrev NotGood : List ℕ → Type 0
  NotGood all = IsGoodCapture all → ⊥

  fault_not_good : (text : List ℕ) (fault : Fault) → fault ≢ no_fault → CaptureHasFault src pix text fault
      → IfSome src.before.left NotGood
  fault_not_good text fault some c =
      on_some src.before.left (front_read src.before.left src.now.left _ c.reads.consumed)
      (λ all front. faulty laws all c.link c.bytes front.0 c.takes.records text fault some front.1 c.takes.due)

  header_not_good : (count : ℕ) → ReadsNoHeader src count → IfSome src.before.left NotGood
  header_not_good count n = by_left src.before.left src.now.left n.consumed n.ended
    where
      by_left : (before now : Option (List ℕ)) → Consumes before now n.bytes → (count < 8 → IsAtEnd now)
          → IfSome before NotGood
      by_left None now c e = tt
      by_left (Some all) None c e = absurd c
      by_left (Some all) (Some rest) c e =
          headless laws all count n.bytes n.counted n.short
          (λ less. c ∙ (ap (λ xs. n.bytes ++ xs) (e less) ∙ append-nil n.bytes)) (rest, c) n.none

  refused_not_good : (why : CaptureBad) (text : List ℕ) → CaptureRefused src pix PixKept why text
      → IfSome src.before.left NotGood
  refused_not_good (Header count) text (none, calm, kept, nothing) = header_not_good count none
  refused_not_good (Word bad) text c = fault_not_good text (word_fault bad) (λ e. cc) c
  refused_not_good (Set bad) text c = fault_not_good text (set_fault bad) (λ e. cc) c
  refused_not_good Long text c =
      on_some src.before.left (front_read src.before.left src.now.left _ c.reads.consumed)
      (λ all front. too_long laws all c.link c.bytes front.0 c.reads.byte c.reads.full front.1)
  refused_not_good (Unfinished end) text c =
      on_some src.before.left (all_read src.before.left src.now.left _ c.reads.consumed c.at_end)
      (λ all is. unfinished laws all c.link c.bytes end is c.ends)

  read_is_good : (text : List ℕ) (received : Received) → CaptureIsRead src pix text received
      → IfSome src.before.left IsGoodCapture
  read_is_good text received c =
      on_some src.before.left (all_read src.before.left src.now.left _ c.reads.consumed c.at_end)
      (λ all is. record {
        link = c.link;
        bytes = c.bytes;
        divided = is;
        short = omega (arith, ap length is, c.reads.short, length-append (header_bytes c.link) c.bytes);
        received = received;
        ends = c.ends;
      })

  decided_at : (done : Result ⊤ Stop) (said : List ℕ) (status : ℕ) → RecvCauses src pix PixKept done said
      → status ≡ end_status done → IsClean status → IfSome src.before.left (λ all. StatusOfCapture all status)
  decided_at (Ok done) said status c is clean =
      on_some src.before.left (read_is_good c.text c.received c.read)
      (λ all good. (λ _. is, λ not_good. absurd (not_good good)))
  decided_at (Err (stop.Capture why)) said status c is clean =
      on_some src.before.left (refused_not_good why said c)
      (λ all not_good. (λ good. absurd (not_good good), λ _. is))
  decided_at (Err stop.ReadFault) said status c is clean = absurd (clean.read is)
  decided_at (Err stop.WriteFault) said status c is clean = absurd (clean.written is)
  decided_at (Err stop.OutFault) said status c is clean = absurd (clean.written is)
  decided_at (Err stop.NoMemory) said status c is clean = absurd (clean.memory is)
  decided_at (Err _) said status c is clean = absurd c

  statuses_at : (done : Result ⊤ Stop) (said : List ℕ) (status : ℕ) → RecvCauses src pix PixKept done said
      → status ≡ end_status done → IsRecvStatus status
  statuses_at (Ok done) said status c is = inl is
  statuses_at (Err (stop.Capture why)) said status c is = inr (inl is)
  statuses_at (Err stop.ReadFault) said status c is = inr (inr (inl is))
  statuses_at (Err stop.WriteFault) said status c is = inr (inr (inr (inl is)))
  statuses_at (Err stop.OutFault) said status c is = inr (inr (inr (inl is)))
  statuses_at (Err stop.NoMemory) said status c is = inr (inr (inr (inr is)))
  statuses_at (Err _) said status c is = absurd c

  recv_status : (status : ℕ) (done : Result ⊤ Stop) (said : List ℕ) → RecvCauses src pix PixKept done said
      → (status ≡ end_status done) ⊎ (status ≡ 8) ⊎ (status ≡ 10) → IsRecvStatus status
  recv_status status done said caused (inl is) = statuses_at done said status caused is
  recv_status status done said caused (inr (inl is)) = inr (inr (inr (inl is)))
  recv_status status done said caused (inr (inr is)) = inr (inr (inr (inr is)))

  module _ (out : Step SinkSeen) where
    received_at : (done : Result ⊤ Stop) (said : List ℕ) → RecvCauses src pix PixKept done said → end_status done ≡ 0
        → Prints out (end_text said done) → SaysReceived src pix out
    received_at (Ok done) said c e printed = record {
      text = c.text;
      received = c.received;
      read = c.read;
      printed = subst (λ (text : List ℕ). Prints out text) c.said_is printed;
    }
    received_at (Err stop.Usage) said c e printed = absurd cc
    received_at (Err _) said c e printed = absurd cc

    refused_at : (done : Result ⊤ Stop) (said : List ℕ) → RecvCauses src pix PixKept done said → end_status done ≡ 6
        → Prints out (end_text said done) → SaysCaptureRefused src pix PixKept out
    refused_at (Err (stop.Capture why)) said c e printed =
        record { why = why; text = said; refused = c; printed = printed }
    refused_at _ said c e printed = absurd cc

    read_fault_at : (done : Result ⊤ Stop) (said : List ℕ) → RecvCauses src pix PixKept done said → end_status done ≡ 7
        → Prints out (end_text said done) → SaysReadFault src pix PixKept out
    read_fault_at (Err stop.ReadFault) said c e printed =
        record { text = said; rose = c.0; fails = c.1; printed = printed }
    read_fault_at _ said c e printed = absurd cc

    write_fault_at : (done : Result ⊤ Stop) (said : List ℕ) → RecvCauses src pix PixKept done said
        → (◌≡◌ {A = Result ⊤ Stop} done (Err stop.WriteFault)) ⊎ Rose out.before.faults out.now.faults
        → Rose pix.before.faults pix.now.faults ⊎ Rose out.before.faults out.now.faults
    write_fault_at done said c (inr rose) = inr rose
    write_fault_at (Err stop.WriteFault) said c (inl e) = inl c.takes.failed
    write_fault_at _ said c (inl e) = absurd cc

  module _ (same : PixKept → pix.now ≡ pix.before) where
    abbrev BothCalm : Type 0
    BothCalm = (src.now.faults ≡ src.before.faults) × (pix.now.faults ≡ pix.before.faults)

    refused_calm : (why : CaptureBad) (text : List ℕ) → CaptureRefused src pix PixKept why text → BothCalm
    refused_calm (Header count) text (none, calm, kept, nothing) = (calm, ap (λ (p : SinkSeen). p.faults) (same kept))
    refused_calm (Word bad) text c = (c.calm, c.takes.calm)
    refused_calm (Set bad) text c = (c.calm, c.takes.calm)
    refused_calm Long text c = (c.calm, c.takes.calm)
    refused_calm (Unfinished end) text c = (c.calm, c.takes.calm)

    calm_at : (done : Result ⊤ Stop) (said : List ℕ) (status : ℕ) → RecvCauses src pix PixKept done said
        → status ≡ end_status done → IsClean status → BothCalm
    calm_at (Ok done) said status c is clean = (c.read.calm, c.read.takes.calm)
    calm_at (Err (stop.Capture why)) said status c is clean = refused_calm why said c
    calm_at (Err stop.ReadFault) said status c is clean = absurd (clean.read is)
    calm_at (Err stop.WriteFault) said status c is clean = absurd (clean.written is)
    calm_at (Err stop.OutFault) said status c is clean = absurd (clean.written is)
    calm_at (Err stop.NoMemory) said status c is clean = absurd (clean.memory is)
    calm_at (Err _) said status c is clean = absurd c

  -- what was sent: its bytes behind the header, and what is received of them
  abbrev SentBytes : (p : PlanFacts) (pixels : List Pixel) (all : List ℕ) → IsSent p pixels all → List ℕ
  SentBytes p pixels all s = word_bytes (lanes_count p.link.lanes) (capture_clocks p) s.capture.words

  written : (p : PlanFacts) (pixels : List Pixel) (all : List ℕ) (s : IsSent p pixels all)
      → CaptureIsWritten p pixels (SentBytes p pixels all s)
  written p pixels all s =
      laws.written p pixels (SentBytes p pixels all s) s.planned s.whole
      (subst (λ (bytes : List ℕ). IsCapture p pixels bytes) s.capture.bytes_are s.capture)

  is_received : (p : PlanFacts) (pixels : List Pixel) (all : List ℕ) (s : IsSent p pixels all)
      → SentIsReceived p pixels (SentBytes p pixels all s)
  is_received p pixels all s =
      laws.received p pixels (SentBytes p pixels all s) s.planned s.whole
      (subst (λ (bytes : List ℕ). IsCapture p pixels bytes) s.capture.bytes_are s.capture)

  -- it ends with all frames and lines of the plan
  sent_ends : (p : PlanFacts) (pixels : List Pixel) (all : List ℕ) (s : IsSent p pixels all)
      → EndsAs p.link (SentBytes p pixels all s) (Ok (all_of p))
  sent_ends p pixels all s =
      let bytes = SentBytes p pixels all s in
      let r = is_received p pixels all s in
      let frames = sent_frames p pixels in
      let counted : Received = record {
        frames = number_of (whole_frames frames);
        lines = number_of (whole_lines frames);
        tail_clocks = number_of 0;
      } in
      let counts : Counts p.link bytes counted = record {
        frames = frames;
        tail = 0;
        reception = r.received;
        frames_are = refl;
        lines_are = refl;
        tail_is = refl;
      } in
      let ends : EndsAs p.link bytes (Ok counted) = (r.whole, (header_start p 0, r.lock), counts) in
      subst (λ (end : Result Received FinishEnd). EndsAs p.link bytes end)
      ((written p pixels all s).end (Ok counted) ends) ends

  sent_is_good : (p : PlanFacts) (pixels : List Pixel) (all : List ℕ) → IsSent p pixels all → IsGoodCapture all
  sent_is_good p pixels all s = record {
    link = p.link;
    bytes = SentBytes p pixels all s;
    divided = s.capture.bytes_are;
    short = s.short;
    received = all_of p;
    ends = sent_ends p pixels all s;
  }

  -- what is due of it is one
  module _ (p : PlanFacts) (pixels : List Pixel) (all : List ℕ) (s : IsSent p pixels all) (records text : List ℕ)
      (due : Due p.link (SentBytes p pixels all s) no_fault records text) where
    frames_sent : due.frames ≡ sent_frames p pixels
    frames_sent =
        (laws.one_reception p.link (SentBytes p pixels all s) no_fault no_fault due.frames (sent_frames p pixels) due.tail 0
        due.received (is_received p pixels all s).received).1

    records_sent : records ≡ pixel_records pixels
    records_sent = due.records_are ∙ (ap records_due frames_sent ∙ (is_received p pixels all s).records)

    text_sent : text ≡ attributes_lines p
    text_sent = due.text_is ∙ (ap lines_due frames_sent ∙ (is_received p pixels all s).text)

  -- exactly that is received
  gives_back : (p : PlanFacts) (pixels : List Pixel) (all : List ℕ) (s : IsSent p pixels all) (out : Step SinkSeen)
      (status : ℕ) → status ≡ 0 → (r : SaysReceived src pix out) → all ≡ header_bytes r.read.link ++ r.read.bytes
      → GivesBack p pixels pix out status
  gives_back p pixels all s out status is r reads =
      let w = written p pixels all s in
      let same = one_header laws all r.read.link p.link r.read.bytes (SentBytes p pixels all s) reads s.capture.bytes_are in
      let due_there = subst (λ (l : Link). Due l r.read.bytes no_fault r.read.takes.records r.text) same.0 r.read.takes.due in
      let due = subst (λ (bytes : List ℕ). Due p.link bytes no_fault r.read.takes.records r.text) same.1 due_there in
      let ends_there = subst (λ (l : Link). EndsAs l r.read.bytes (Ok r.received)) same.0 r.read.ends in
      let ends = subst (λ (bytes : List ℕ). EndsAs p.link bytes (Ok r.received)) same.1 ends_there in
      let told : r.received ≡ all_of p = let e = w.end (Ok r.received) ends in cc in
      record {
        ended = is;
        taken =
            subst (λ (records : List ℕ). Appends pix.before.taken pix.now.taken records)
            (records_sent p pixels all s r.read.takes.records r.text due) r.read.takes.taken;
        printed =
            subst (λ (received : Received). Prints out (attributes_lines p ++ received_line received)) told
            (subst (λ (text : List ℕ). Prints out (text ++ received_line r.received))
            (text_sent p pixels all s r.read.takes.records r.text due) r.printed);
      }

  sent_at : (left : Option (List ℕ)) (p : PlanFacts) (pixels : List Pixel) (out : Step SinkSeen) (status : ℕ)
      → IfSome left (λ all. StatusOfCapture all status) → IsSomeAnd left (IsSent p pixels)
      → (status ≡ 0 → (r : SaysReceived src pix out) × IfSome left (λ all. all ≡ header_bytes r.read.link ++ r.read.bytes))
      → GivesBack p pixels pix out status
  sent_at None p pixels out status decided sent received = absurd sent
  sent_at (Some all) p pixels out status decided sent received =
      let is = decided.0 (sent_is_good p pixels all sent) in
      let r = received is in
      gives_back p pixels all sent out status is r.0 r.1

  pub recv_does : (PixKept → pix.now ≡ pix.before) → (out : Step SinkSeen) (status : ℕ) (done : Result ⊤ Stop)
      (said : List ℕ) → RecvCauses src pix PixKept done said → CommandPrints out said done status
      → RecvDoes src pix PixKept out status
  recv_does same out status done said caused printed =
      let with_status : (n : ℕ) → status ≡ n → (n ≡ 8 → ⊥) → (n ≡ 10 → ⊥)
      → (end_status done ≡ n) × Prints out (end_text said done) =
      λ n e not_8 not_10. ended_with out said status done n printed e not_8 not_10 in
      let clean : IsClean status → status ≡ end_status done =
      λ c. (ended_whole out said status done printed c.written c.memory).0 in
      let received : status ≡ 0 → SaysReceived src pix out =
      λ e. let w = with_status 0 e (λ b. cc) (λ b. cc) in received_at out done said caused w.0 w.1 in
      let decided : IsClean status → IfSome src.before.left (λ all. StatusOfCapture all status) =
      λ c. decided_at done said status caused (clean c) c in
      record {
        received = received;
        refused = λ e. let w = with_status 6 e (λ b. cc) (λ b. cc) in refused_at out done said caused w.0 w.1;
        read_fault = λ e. let w = with_status 7 e (λ b. cc) (λ b. cc) in read_fault_at out done said caused w.0 w.1;
        write_fault = λ e. write_fault_at out done said caused (ended_at_8 out said status done printed e);
        statuses = recv_status status done said caused (ended_status out said status done printed);
        decided = decided;
        sent_is_received = λ p pixels sent c.
            sent_at src.before.left p pixels out status (decided c) sent
            (λ e. let r = received e in
            (r, all_read src.before.left src.now.left _ r.read.reads.consumed r.read.at_end));
        reads_are_calm = λ c. (calm_at same done said status caused (clean c) c).0;
        pix_is_calm = λ c. (calm_at same done said status caused (clean c) c).1;
        writes_are_calm = λ not_8. ended_calm out said status done printed not_8;
        done = done;
        said = said;
        caused = caused;
        printed = printed;
      }

  -- there was no memory for the words
  pub unread_words_recv : (PixKept → pix.now ≡ pix.before) → (out : Step SinkSeen) (status : ℕ) → PixKept
      → src.now ≡ src.before → StopsAtOnce out stop.NoMemory status → RecvDoes src pix PixKept out status
  unread_words_recv same out status kept calm p =
      recv_does same out status (Err stop.NoMemory) []
      (inl (ap (λ (seen : SourceSeen). seen.faults) calm, kept, refl)) p
