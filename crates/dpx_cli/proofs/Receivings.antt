-- Pieces of a capture that were received one behind the other.
use Rattle.std.proofs.Common.{◌≡◌, ◌≤◌, ◌+◌, ℕ, List, [], ◌++◌, length, length-append, refl, sym, ap, ◌∙◌, subst, arith, inl, inr}
use Rattle.std.proofs.Common.{append_assoc, ◌∷◌, ◌-◌, Option, Some, Result, Ok, Err}
use Rattle.std.specs.Prelude.{⊤}
use Rattle.std.proofs.lemmas.List.{append-nil}
use Rattle.std.proofs.KnownBytes.{Consumes-kept}
use Rattle.std.specs.Io.KnownBytes.{Appends, Consumes, Keeps}
use Rattle.dpx_base.specs.declared.link.Link.{Link}
use Rattle.dpx_base.specs.Capture.{header_bytes}
use Rattle.dpx_base.specs.Faults.{Rose}
use Rattle.dpx_base.specs.Seen.{SourceSeen, SinkSeen}
use Rattle.dpx_base.specs.Transfer.{AppendsFront}
use Rattle.dpx_base.proofs.Appending.{appends_more, appends_none}
use Rattle.dpx_reception.specs.Due.{Due, PartlyDue}
use Rattle.dpx_reception.specs.Reception.{Fault, no_fault, word_fault, set_fault}
use Rattle.dpx_sink.specs.declared.finish_end.FinishEnd.{FinishEnd}
use Rattle.dpx_sink.specs.declared.finish_end.Received.{Received}
use Rattle.dpx_sink.specs.declared.output.Output.{Output}
use Rattle.dpx_sink.specs.declared.output.Output.TheVariants.{Pixels, Log}
use Rattle.dpx_sink.specs.declared.receiver.Receiver.{Receiver}
use Rattle.dpx_sink.specs.declared.recv_end.RecvEnd.{RecvEnd}
use Rattle.dpx_sink.specs.declared.recv_end.RecvEnd.TheVariants.{Align, Parse, WriteFault}
use Rattle.dpx_sink.specs.Receiver.{EndsAs, Feeds, StandsFor, bytes_fed, failed_output, link_of}
use Rattle.dpx_sink.specs.Writes.{Calm, Sinks, WriteFails, WroteFront, sinks}
use Rattle.dpx_cli.specs.declared.stop.CaptureBad.TheVariants.{Header, Word, Set, Long, Unfinished}
use Rattle.dpx_cli.specs.declared.stop.Stop.{Stop}
use Rattle.dpx_cli.specs.declared.stop.Stop.TheVariants as stop
use Rattle.dpx_cli.specs.Printing.{StepPrints, StepsDo, StepsPrint}
use Rattle.dpx_cli.specs.Receiving.{HasReceived, PieceEnds, PieceFed, PieceRefused, PieceUnwritten, ReadsCapture, ReadsHeader, ReadsNoMore}
use Rattle.dpx_cli.specs.Receiving.{ReadsPiece, StillReceives, longest_capture, stop_of_recv, stop_of_write}
use Rattle.dpx_cli.specs.Recv.{AllReceived, CaptureHasFault, CaptureIsRead, ReadsUpToFault, RecvCauses, TakesDue}
use Rattle.dpx_cli.specs.RecvLines.{received_line}
use Rattle.dpx_cli.specs.Step.{Step, ◌⇒◌}
use Rattle.dpx_cli.specs.Transfer.{Prints, PrintsFront}
use Rattle.dpx_cli.proofs.Captures.{rose_behind}
use Rattle.dpx_cli.proofs.Printings.{breaks_behind, prints_more, prints_nothing}
use Rattle.dpx_cli.proofs.Transfers.{Consumes-more}

-- What a receiver refused stops the command.
module _ (src : Step SourceSeen) (pix out : Step SinkSeen) (receiver : Receiver) (most : ℕ)
    (bytes records text piece : List ℕ) (link : Link) (read : ReadsPiece src most piece) where
  abbrev Ends : Stop → Type 0
  Ends stop = PieceEnds src pix out receiver most bytes records text link (Err stop)

  abbrev Before : Sinks
  Before = sinks pix.before out.before

  abbrev Now : Sinks
  Now = sinks pix.now out.now

  by_output : (failed : Option Output) (output : Output) → failed ≡ Some output
      → WroteFront output Before Now records text (PartlyDue link (bytes ++ piece)) → WriteFails failed Before Now
      → Ends (stop_of_write failed)
  by_output failed Pixels told wrote fails =
      subst (λ (f : Option Output). Ends (stop_of_write f)) (sym told)
      (record { piece = piece; read = read; wrote = wrote; failed = subst (λ (f : Option Output). WriteFails f Before Now) told fails })
  by_output failed Log told wrote fails =
      subst (λ (f : Option Output). Ends (stop_of_write f)) (sym told)
      (record { piece = piece; read = read; wrote = wrote; failed = subst (λ (f : Option Output). WriteFails f Before Now) told fails })

  pub refusal_stops : (end : RecvEnd) → Feeds receiver link Before Now (bytes ++ piece) records text (Err end)
      → ((◌≡◌ {A = Result ⊤ RecvEnd} (Err end) (Err WriteFault) → ⊥) → Calm Before Now)
      → (◌≡◌ {A = Result ⊤ RecvEnd} (Err end) (Err WriteFault) → WriteFails (failed_output receiver) Before Now)
      → Ends (stop_of_recv end (failed_output receiver))
  refusal_stops (Align bad) wrote calm cause =
      record { piece = piece; read = read; wrote = wrote; calm = calm (λ e. cc) }
  refusal_stops (Parse bad) wrote calm cause =
      record { piece = piece; read = read; wrote = wrote; calm = calm (λ e. cc) }
  refusal_stops WriteFault (output, told, wrote) calm cause =
      by_output (failed_output receiver) output told wrote (cause refl)

-- a front of more bytes behind those that were taken
front_behind : (before middle now : Option (List ℕ)) (xs ys : List ℕ) → Appends before middle xs
    → AppendsFront middle now ys → AppendsFront before now (xs ++ ys)
front_behind before middle now xs ys taken f = record {
  front = xs ++ f.front;
  rest = f.rest;
  divided = ap (λ zs. xs ++ zs) f.divided ∙ sym (append_assoc xs f.front f.rest);
  taken = appends_more before middle now xs f.front taken f.taken;
}

module _ (link : Link) (src src_one src_now : SourceSeen) (pix pix_one pix_now out out_one out_now : SinkSeen)
    (receiver receiver_now : Receiver) (most : ℕ) (bytes : List ℕ)
    (h : HasReceived link (src ⇒ src_one) (pix ⇒ pix_one) (out ⇒ out_one) receiver bytes) where
  -- one more piece was fed
  pub piece_behind : (count : ℕ) → link_of receiver_now ≡ link_of receiver
      → (f : PieceFed (src_one ⇒ src_now) (pix_one ⇒ pix_now) (out_one ⇒ out_now) receiver_now most bytes h.records h.text
      count)
      → HasReceived link (src ⇒ src_now) (pix ⇒ pix_now) (out ⇒ out_now) receiver_now (bytes ++ f.piece)
  piece_behind count same f = record {
    records = h.records ++ f.wrote.more_records;
    text = h.text ++ f.wrote.more_text;
    stands = f.wrote.so;
    over = same ∙ h.over;
    fed = omega (arith, f.fed, f.counted, length-append bytes f.piece);
    consumed = Consumes-more _ _ _ (header_bytes link ++ bytes) f.piece h.consumed f.read.consumed;
    taken = appends_more _ _ _ h.records f.wrote.more_records h.taken f.wrote.pix_took;
    printed = prints_more h.printed (record { taken = f.wrote.log_took; calm = f.calm.log });
    src_calm = f.read.calm ∙ h.src_calm;
    pix_calm = f.calm.pix ∙ h.pix_calm;
  }

  module _ (PixKept : Type 0) (short : 8 + length bytes + most ≤ longest_capture) where
    abbrev Stops : Stop → Type 0
    Stops stop = StepsDo (RecvCauses (src ⇒ src_now) (pix ⇒ pix_now) PixKept) (out ⇒ out_now) (Err stop)

    reads_more : (piece : List ℕ) → ReadsPiece (src_one ⇒ src_now) most piece
        → ReadsCapture (src ⇒ src_now) link (bytes ++ piece)
    reads_more piece read = record {
      consumed = Consumes-more _ _ _ (header_bytes link ++ bytes) piece h.consumed read.consumed;
      short = omega (arith, short, read.few, length-append bytes piece);
    }

    printed_more : (text : List ℕ) → Appends out_one.taken out_now.taken text → out_now.faults ≡ out_one.faults
        → Prints (out ⇒ out_now) (h.text ++ text)
    printed_more text taken calm = prints_more h.printed (record { taken = taken; calm = calm })

    -- what was printed is all that the steps printed, where the report did not fail
    abbrev StepsPrintAll : Stop → Type 0
    StepsPrintAll stop = (text : List ℕ) → Prints (out ⇒ out_now) text → StepsPrint (out ⇒ out_now) text (Err stop)

    abbrev Refused : Fault → Type 0
    Refused fault =
        PieceRefused (src_one ⇒ src_now) (pix_one ⇒ pix_now) (out_one ⇒ out_now) receiver_now most bytes h.records h.text link
        fault

    -- it was refused: what is due of the bytes before the fault was taken
    refused : (fault : Fault) (r : Refused fault)
        → CaptureHasFault (src ⇒ src_now) (pix ⇒ pix_now) (h.text ++ r.wrote.more_text) fault
    refused fault r = record {
      link = link;
      bytes = bytes ++ r.piece;
      reads = reads_more r.piece r.read;
      takes = record {
        records = h.records ++ r.wrote.more_records;
        due = r.wrote.so;
        taken = appends_more _ _ _ h.records r.wrote.more_records h.taken r.wrote.pix_took;
        calm = r.calm.pix ∙ h.pix_calm;
      };
      calm = r.read.calm ∙ h.src_calm;
    }

    refused_stops : (fault : Fault) (stop : Stop)
        → ((text : List ℕ) → CaptureHasFault (src ⇒ src_now) (pix ⇒ pix_now) text fault
        → RecvCauses (src ⇒ src_now) (pix ⇒ pix_now) PixKept (Err stop) text)
        → StepsPrintAll stop → Refused fault → Stops stop
    refused_stops fault stop causes prints r = record {
      said = h.text ++ r.wrote.more_text;
      caused = causes _ (refused fault r);
      printed = prints (h.text ++ r.wrote.more_text) (printed_more r.wrote.more_text r.wrote.log_took r.calm.log);
    }

    -- it was not read: what is due of the bytes before was taken
    unread : Keeps src_one.left src_now.left → Rose src_one.faults src_now.faults → pix_now ≡ pix_one
        → out_now ≡ out_one → Stops stop.ReadFault
    unread kept rose same_pix same_out =
        let up_to : ReadsUpToFault (src ⇒ src_now) (pix ⇒ pix_now) h.text = record {
          link = link;
          bytes = bytes;
          reads = record {
            consumed = Consumes-kept _ _ _ (header_bytes link ++ bytes) h.consumed kept;
            short = omega (arith, short);
          };
          takes = record {
            records = h.records;
            due = subst (λ (l : Link). Due l bytes no_fault h.records h.text) h.over h.stands.due;
            taken = subst (λ (p : SinkSeen). Appends pix.taken p.taken h.records) (sym same_pix) h.taken;
            calm = ap (λ (p : SinkSeen). p.faults) same_pix ∙ h.pix_calm;
          };
        } in
        record {
          said = h.text;
          caused = (rose_behind h.src_calm rose, inr up_to);
          printed = subst (λ (o : SinkSeen). Prints (out ⇒ o) h.text) (sym same_out) h.printed;
        }

    -- what is due of some sets of it was to be written, and a write failed
    unwritten_pixels : PieceUnwritten (src_one ⇒ src_now) (pix_one ⇒ pix_now) (out_one ⇒ out_now) receiver_now most bytes
        h.records h.text link Pixels → Stops stop.WriteFault
    unwritten_pixels u = record {
      said = h.text ++ u.wrote.more_text;
      caused = record {
        link = link;
        bytes = bytes ++ u.piece;
        reads = reads_more u.piece u.read;
        takes = record {
          records = h.records ++ u.wrote.more_records;
          partly = u.wrote.so;
          taken = front_behind _ _ _ h.records u.wrote.more_records h.taken u.wrote.pix_took;
          failed = rose_behind h.pix_calm u.failed.0.rose;
        };
        calm = u.read.calm ∙ h.src_calm;
      };
      printed = printed_more u.wrote.more_text u.wrote.log_took u.failed.1;
    }

    unwritten_text : PieceUnwritten (src_one ⇒ src_now) (pix_one ⇒ pix_now) (out_one ⇒ out_now) receiver_now most bytes
        h.records h.text link Log → Stops stop.OutFault
    unwritten_text u =
        let f = u.wrote.log_took in
        let front : PrintsFront (out_one ⇒ out_now) u.wrote.more_text = record {
          front = f.front;
          rest = f.rest;
          divided = f.divided;
          taken = f.taken;
          failed = u.failed.0.rose;
        } in
        record {
          said = h.text ++ u.wrote.more_text;
          caused = inl (record {
            link = link;
            bytes = bytes ++ u.piece;
            reads = reads_more u.piece u.read;
            takes = record {
              records = h.records ++ u.wrote.more_records;
              partly = u.wrote.so;
              taken = appends_more _ _ _ h.records u.wrote.more_records h.taken u.wrote.pix_took;
              calm = u.failed.1 ∙ h.pix_calm;
            };
            calm = u.read.calm ∙ h.src_calm;
          });
          printed = breaks_behind h.printed front;
        }

    pub piece_stops : (stop : Stop)
        → PieceEnds (src_one ⇒ src_now) (pix_one ⇒ pix_now) (out_one ⇒ out_now) receiver_now most bytes h.records h.text link
        (Err stop) → Stops stop
    piece_stops (stop.Capture (Word bad)) r = refused_stops (word_fault bad) (stop.Capture (Word bad)) (λ text c. c) (λ text p. p) r
    piece_stops (stop.Capture (Set bad)) r = refused_stops (set_fault bad) (stop.Capture (Set bad)) (λ text c. c) (λ text p. p) r
    piece_stops stop.ReadFault (kept, rose, same_pix, same_out) = unread kept rose same_pix same_out
    piece_stops stop.WriteFault u = unwritten_pixels u
    piece_stops stop.OutFault u = unwritten_text u
    piece_stops (stop.Capture _) none = absurd none
    piece_stops _ none = absurd none

-- Nothing was received yet.
module _ (src src_now : SourceSeen) (pix out : SinkSeen) (PixKept : Type 0) (kept : PixKept) where
  abbrev AtOnce : Stop → Type 0
  AtOnce stop = StepsDo (RecvCauses (src ⇒ src_now) (pix ⇒ pix) PixKept) (out ⇒ out) (Err stop)

  pub no_memory : src_now.faults ≡ src.faults → AtOnce stop.NoMemory
  no_memory calm =
      record { said = []; caused = inl (calm, kept, refl); printed = prints_nothing out out refl }

  pub header_stops : (stop : Stop) → ReadsHeader (src ⇒ src_now) (Err stop) → AtOnce stop
  header_stops (stop.Capture (Header count)) (none, calm) =
      record { said = []; caused = (none, calm, kept, refl); printed = prints_nothing out out refl }
  header_stops stop.ReadFault (part, rose) =
      record { said = []; caused = (rose, inl (part, kept, refl)); printed = prints_nothing out out refl }
  header_stops stop.NoMemory calm = no_memory calm
  header_stops (stop.Capture _) none = absurd none
  header_stops _ none = absurd none

pub starts : (link : Link) (src src_now : SourceSeen) (pix out : SinkSeen) (receiver : Receiver)
    → StandsFor receiver [] [] [] → link_of receiver ≡ link → bytes_fed receiver ≡ 0
    → ReadsHeader (src ⇒ src_now) (Ok link)
    → StillReceives link (src ⇒ src_now) (pix ⇒ pix) (out ⇒ out) receiver 1099511627768
starts link src src_now pix out receiver stands over fed (consumed, calm) = record {
  bytes = [];
  received = record {
    records = [];
    text = [];
    stands = stands;
    over = over;
    fed = fed;
    consumed = consumed;
    taken = appends_none pix.taken;
    printed = prints_nothing out out refl;
    src_calm = calm;
    pix_calm = refl;
  };
  left_is = refl;
}

-- So far this was received, and then one more piece was read.
module _ (link : Link) (src src_one src_now : SourceSeen) (pix pix_one pix_now out out_one out_now : SinkSeen)
    (receiver receiver_now : Receiver) (left : ℕ)
    (s : StillReceives link (src ⇒ src_one) (pix ⇒ pix_one) (out ⇒ out_one) receiver left) where
  abbrev Fed : (most count : ℕ) → Type 0
  Fed most count =
      PieceFed (src_one ⇒ src_now) (pix_one ⇒ pix_now) (out_one ⇒ out_now) receiver_now most s.bytes s.received.records
      s.received.text count

  more : (most count : ℕ) → link_of receiver_now ≡ link_of receiver → (f : Fed most count)
      → HasReceived link (src ⇒ src_now) (pix ⇒ pix_now) (out ⇒ out_now) receiver_now (s.bytes ++ f.piece)
  more most count same f =
      piece_behind link src src_one src_now pix pix_one pix_now out out_one out_now receiver receiver_now most s.bytes
      s.received count same f

  pub goes_on : (most count : ℕ) → link_of receiver_now ≡ link_of receiver → Fed most count → count ≤ left
      → StillReceives (link_of receiver_now) (src ⇒ src_now) (pix ⇒ pix_now) (out ⇒ out_now) receiver_now (left - count)
  goes_on most count same f within =
      let on : StillReceives link (src ⇒ src_now) (pix ⇒ pix_now) (out ⇒ out_now) receiver_now (left - count) = record {
        bytes = s.bytes ++ f.piece;
        received = more most count same f;
        left_is = omega (arith, s.left_is, f.counted, within, length-append s.bytes f.piece);
      } in
      subst
      (λ (l : Link). StillReceives l (src ⇒ src_now) (pix ⇒ pix_now) (out ⇒ out_now) receiver_now (left - count))
      (sym (same ∙ s.received.over)) on

  pub ended : (most count : ℕ) → count ≡ 0 → link_of receiver_now ≡ link_of receiver → Fed most count
      → AllReceived (src ⇒ src_now) (pix ⇒ pix_now) (out ⇒ out_now) receiver_now
  ended most count none same f = record {
    link = link;
    bytes = s.bytes ++ f.piece;
    received = more most count same f;
    short = omega (arith, s.left_is, f.counted, none, length-append s.bytes f.piece);
    at_end = f.at_end none;
  }

  pub stops : (PixKept : Type 0) (most : ℕ) (stop : Stop)
      → PieceEnds (src_one ⇒ src_now) (pix_one ⇒ pix_now) (out_one ⇒ out_now) receiver_now most s.bytes s.received.records
      s.received.text link (Err stop) → most ≤ left
      → StepsDo (RecvCauses (src ⇒ src_now) (pix ⇒ pix_now) PixKept) (out ⇒ out_now) (Err stop)
  stops PixKept most stop e within =
      piece_stops link src src_one src_now pix pix_one pix_now out out_one out_now receiver receiver_now most s.bytes
      s.received PixKept (omega (arith, s.left_is, within)) stop e

-- As much was received as a capture has at most.
module _ (link : Link) (src src_one src_now : SourceSeen) (pix pix_now out out_now : SinkSeen) (receiver : Receiver)
    (s : StillReceives link (src ⇒ src_one) (pix ⇒ pix_now) (out ⇒ out_now) receiver 0) where
  due_of : Due link s.bytes no_fault s.received.records s.received.text
  due_of = subst (λ (l : Link). Due l s.bytes no_fault s.received.records s.received.text) s.received.over
      s.received.stands.due

  takes : TakesDue (pix ⇒ pix_now) link s.bytes no_fault s.received.text
  takes = record {
    records = s.received.records;
    due = due_of;
    taken = s.received.taken;
    calm = s.received.pix_calm;
  }

  pub no_more : ReadsNoMore (src_one ⇒ src_now) (Ok tt)
      → AllReceived (src ⇒ src_now) (pix ⇒ pix_now) (out ⇒ out_now) receiver
  no_more (consumed, at_end, calm) =
      let h = s.received in
      let all = Consumes-more _ _ _ (header_bytes link ++ s.bytes) [] h.consumed consumed in
      record {
        link = link;
        bytes = s.bytes;
        received = record {
          records = h.records;
          text = h.text;
          stands = h.stands;
          over = h.over;
          fed = h.fed;
          consumed = subst (λ (bytes : List ℕ). Consumes src.left src_now.left bytes)
              (append-nil (header_bytes link ++ s.bytes)) all;
          taken = h.taken;
          printed = h.printed;
          src_calm = calm ∙ h.src_calm;
          pix_calm = h.pix_calm;
        };
        short = omega (arith, s.left_is);
        at_end = at_end;
      }

  pub too_much : (PixKept : Type 0) (stop : Stop) → ReadsNoMore (src_one ⇒ src_now) (Err stop)
      → StepsDo (RecvCauses (src ⇒ src_now) (pix ⇒ pix_now) PixKept) (out ⇒ out_now) (Err stop)
  too_much PixKept (stop.Capture Long) ((byte, consumed), calm) = record {
    said = s.received.text;
    caused = record {
      link = link;
      bytes = s.bytes;
      reads = record {
        byte = byte;
        consumed = Consumes-more _ _ _ (header_bytes link ++ s.bytes) (byte ∷ []) s.received.consumed consumed;
        full = omega (arith, s.left_is);
      };
      takes = takes;
      calm = calm ∙ s.received.src_calm;
    };
    printed = s.received.printed;
  }
  too_much PixKept stop.ReadFault (kept, rose) = record {
    said = s.received.text;
    caused = (
      rose_behind s.received.src_calm rose,
      inr (record {
        link = link;
        bytes = s.bytes;
        reads = record {
          consumed = Consumes-kept _ _ _ (header_bytes link ++ s.bytes) s.received.consumed kept;
          short = omega (arith, s.left_is);
        };
        takes = takes;
      }),
    );
    printed = s.received.printed;
  }
  too_much PixKept (stop.Capture _) none = absurd none
  too_much PixKept _ none = absurd none

-- All was received, and how that ended is printed.
module _ (src : Step SourceSeen) (pix : Step SinkSeen) (PixKept : Type 0) (out out_one out_now : SinkSeen)
    (receiver : Receiver) (r : AllReceived src pix (out ⇒ out_one) receiver) where
  all_takes : TakesDue pix r.link r.bytes no_fault r.received.text
  all_takes = record {
    records = r.received.records;
    due = subst (λ (l : Link). Due l r.bytes no_fault r.received.records r.received.text) r.received.over
        r.received.stands.due;
    taken = r.received.taken;
    calm = r.received.pix_calm;
  }

  reads : ReadsCapture src r.link r.bytes
  reads = record { consumed = r.received.consumed; short = r.short }

  is_read : (received : Received) → EndsAs r.link r.bytes (Ok received) → CaptureIsRead src pix r.received.text received
  is_read received ends = record {
    link = r.link;
    bytes = r.bytes;
    reads = reads;
    at_end = r.at_end;
    takes = all_takes;
    ends = ends;
    calm = r.received.src_calm;
  }

  pub reported : (received : Received) (result : Result ⊤ Stop) → EndsAs r.link r.bytes (Ok received)
      → StepPrints (out_one ⇒ out_now) (received_line received) result
      → StepsDo (RecvCauses src pix PixKept) (out ⇒ out_now) result
  reported received (Ok done) ends printed = record {
    said = r.received.text ++ received_line received;
    caused = record { text = r.received.text; received = received; read = is_read received ends; said_is = refl };
    printed = prints_more r.received.printed printed;
  }
  reported received (Err stop.OutFault) ends front = record {
    said = r.received.text ++ received_line received;
    caused = inr (record { text = r.received.text; received = received; read = is_read received ends; said_is = refl });
    printed = breaks_behind r.received.printed front;
  }
  reported received (Err stop.NoMemory) ends same = record {
    said = r.received.text;
    caused = inr (record { received = received; read = is_read received ends });
    printed = subst (λ (o : SinkSeen). Prints (out ⇒ o) r.received.text) (sym same) r.received.printed;
  }
  reported received (Err _) ends none = absurd none

  pub unfinished : (end : FinishEnd) → EndsAs r.link r.bytes (Err end)
      → StepsDo (RecvCauses src pix PixKept) (out ⇒ out_one) (Err (stop.Capture (Unfinished end)))
  unfinished end ends = record {
    said = r.received.text;
    caused = record {
      link = r.link;
      bytes = r.bytes;
      reads = reads;
      at_end = r.at_end;
      takes = all_takes;
      ends = ends;
      calm = r.received.src_calm;
    };
    printed = r.received.printed;
  }
