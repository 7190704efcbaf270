-- The command `recv`: this project's own. `src` is the source of the capture, `pix` the sink of the records of pixels,
-- `out` the sink of the lines of attributes and of the report; `PixKept` is the fact that the sink of the records is as
-- it was.
use Rattle.std.specs.Prelude.{◌≡◌, ◌≢◌, ◌⊎◌, ℕ, ◌+◌, ◌≤◌, List, [], ◌++◌, length, replicate}
use Rattle.std.specs.Prelude.{IfSome, IsSomeAnd, Result, Ok, Err, ⊤}
use Rattle.std.specs.List.{flat_map}
use Rattle.std.specs.Io.KnownBytes.{Appends, IsAtEnd}
use Rattle.dpx_base.specs.declared.link.Link.{Link}
use Rattle.dpx_base.specs.declared.pixel.Pixel.{Pixel}
use Rattle.dpx_base.specs.Capture.{IsCapture, header_bytes}
use Rattle.dpx_base.specs.Faults.{Rose}
use Rattle.dpx_base.specs.Plan.{PlanFacts, IsPlan}
use Rattle.dpx_base.specs.Seen.{SourceSeen, SinkSeen}
use Rattle.dpx_base.specs.Transfer.{AppendsFront}
use Rattle.dpx_inversion.specs.Laws.{AreWhole}
use Rattle.dpx_msa.specs.Reading.{attributes_of}
use Rattle.dpx_reception.specs.Due.{pixel_records, attributes_line, Due, PartlyDue}
use Rattle.dpx_reception.specs.Reception.{Fault, no_fault, word_fault, set_fault}
use Rattle.dpx_sink.specs.declared.finish_end.FinishEnd.{FinishEnd}
use Rattle.dpx_sink.specs.declared.finish_end.Received.{Received}
use Rattle.dpx_sink.specs.declared.receiver.Receiver.{Receiver}
use Rattle.dpx_sink.specs.Laws.{all_of}
use Rattle.dpx_sink.specs.Receiver.{EndsAs}
use Rattle.dpx_cli.specs.declared.stop.CaptureBad.{CaptureBad}
use Rattle.dpx_cli.specs.declared.stop.CaptureBad.TheVariants.{Header, Word, Set, Long, Unfinished}
use Rattle.dpx_cli.specs.declared.stop.Stop.{Stop}
use Rattle.dpx_cli.specs.declared.stop.Stop.TheVariants as stop
use Rattle.dpx_cli.specs.Printing.{CommandPrints, StepsDo}
use Rattle.dpx_cli.specs.Receiving.{HasReceived, ReadsCapture, ReadsNoHeader, ReadsPartOfHeader, ReadsTooMuch, SrcIsCalm}
use Rattle.dpx_cli.specs.Receiving.{longest_capture}
use Rattle.dpx_cli.specs.RecvLines.{received_line}
use Rattle.dpx_cli.specs.Status.{IsClean}
use Rattle.dpx_cli.specs.Step.{Step}
use Rattle.dpx_cli.specs.Stop.{capture_line, read_fault_line}
use Rattle.dpx_cli.specs.Transfer.{Prints}

module _ (pix : Step SinkSeen) (link : Link) (bytes : List ℕ) where
  -- The bytes have this first fault, or none. The records that are due of them were taken, and this text is.
  pub record TakesDue (fault : Fault) (text : List ℕ) : Type 0 where
    pub records : List ℕ
    pub due : Due link bytes fault records text
    pub taken : Appends pix.before.taken pix.now.taken records
    pub calm : pix.now.faults ≡ pix.before.faults

  -- The records and the text are due of some first sets of the bytes, before any fault. The records were taken.
  pub record TakesPart (text : List ℕ) : Type 0 where
    pub records : List ℕ
    pub partly : PartlyDue link bytes records text
    pub taken : Appends pix.before.taken pix.now.taken records
    pub calm : pix.now.faults ≡ pix.before.faults

  -- A write of these records failed: a front of them was taken.
  pub record TakesFront (text : List ℕ) : Type 0 where
    pub records : List ℕ
    pub partly : PartlyDue link bytes records text
    pub taken : AppendsFront pix.before.taken pix.now.taken records
    pub failed : Rose pix.before.faults pix.now.faults

module _ (src : Step SourceSeen) (pix : Step SinkSeen) where
  -- The capture was read to its end and has no fault, and this is all that is received of it.
  pub record CaptureIsRead (text : List ℕ) (received : Received) : Type 0 where
    pub link : Link
    pub bytes : List ℕ
    pub reads : ReadsCapture src link bytes
    pub at_end : IsAtEnd src.now.left
    pub takes : TakesDue pix link bytes no_fault text
    pub ends : EndsAs link bytes (Ok received)
    pub calm : SrcIsCalm src

  -- The bytes have this first fault, and what stands before it was received.
  pub record CaptureHasFault (text : List ℕ) (fault : Fault) : Type 0 where
    pub link : Link
    pub bytes : List ℕ
    pub reads : ReadsCapture src link bytes
    pub takes : TakesDue pix link bytes fault text
    pub calm : SrcIsCalm src

  pub record CaptureIsLong (text : List ℕ) : Type 0 where
    pub link : Link
    pub bytes : List ℕ
    pub reads : ReadsTooMuch src link bytes
    pub takes : TakesDue pix link bytes no_fault text
    pub calm : SrcIsCalm src

  pub record CaptureIsUnfinished (text : List ℕ) (end : FinishEnd) : Type 0 where
    pub link : Link
    pub bytes : List ℕ
    pub reads : ReadsCapture src link bytes
    pub at_end : IsAtEnd src.now.left
    pub takes : TakesDue pix link bytes no_fault text
    pub ends : EndsAs link bytes (Err end)
    pub calm : SrcIsCalm src

  -- A read failed behind a header. All that is due of the bytes before it was received, and they have no fault.
  pub record ReadsUpToFault (text : List ℕ) : Type 0 where
    pub link : Link
    pub bytes : List ℕ
    pub reads : ReadsCapture src link bytes
    pub takes : TakesDue pix link bytes no_fault text

  -- a write of the records failed, or one of the text; what is due of some sets of the bytes was received before it
  pub record PixelsFail (text : List ℕ) : Type 0 where
    pub link : Link
    pub bytes : List ℕ
    pub reads : ReadsCapture src link bytes
    pub takes : TakesFront pix link bytes text
    pub calm : SrcIsCalm src

  pub record TextFails (text : List ℕ) : Type 0 where
    pub link : Link
    pub bytes : List ℕ
    pub reads : ReadsCapture src link bytes
    pub takes : TakesPart pix link bytes text
    pub calm : SrcIsCalm src

  -- the report of a capture that was read
  pub record ReportsReceived (said : List ℕ) : Type 0 where
    pub text : List ℕ
    pub received : Received
    pub read : CaptureIsRead text received
    pub said_is : said ≡ text ++ received_line received

  -- there was no memory for that report
  pub record ReadUnreported (text : List ℕ) : Type 0 where
    pub received : Received
    pub read : CaptureIsRead text received

  module _ (PixKept : Type 0) where
    -- why a capture is refused, behind this text
    abbrev pub CaptureRefused : CaptureBad → List ℕ → Type 0
    CaptureRefused (Header count) text = ReadsNoHeader src count × SrcIsCalm src × PixKept × (text ≡ [])
    CaptureRefused (Word bad) text = CaptureHasFault text (word_fault bad)
    CaptureRefused (Set bad) text = CaptureHasFault text (set_fault bad)
    CaptureRefused Long text = CaptureIsLong text
    CaptureRefused (Unfinished end) text = CaptureIsUnfinished text end

    -- a read failed, behind this text
    abbrev pub ReadingFails : List ℕ → Type 0
    ReadingFails text = (ReadsPartOfHeader src × PixKept × (text ≡ [])) ⊎ ReadsUpToFault text

    -- Each end of the command's steps with its cause, with what they printed, and with what the sink of the records took.
    abbrev pub RecvCauses : Result ⊤ Stop → List ℕ → Type 0
    RecvCauses (Ok done) said = ReportsReceived said
    RecvCauses (Err (stop.Capture why)) said = CaptureRefused why said
    RecvCauses (Err stop.ReadFault) said = Rose src.before.faults src.now.faults × ReadingFails said
    RecvCauses (Err stop.WriteFault) said = PixelsFail said
    RecvCauses (Err stop.OutFault) said = TextFails said ⊎ ReportsReceived said
    RecvCauses (Err stop.NoMemory) said = (SrcIsCalm src × PixKept × (said ≡ [])) ⊎ ReadUnreported said
    RecvCauses (Err other) said = ⊥

-- The capture was read to its end, and all of it was fed to a receiver that has not refused; or that stopped.
pub record AllReceived (src : Step SourceSeen) (pix out : Step SinkSeen) (receiver : Receiver) : Type 0 where
  pub link : Link
  pub bytes : List ℕ
  pub received : HasReceived link src pix out receiver bytes
  pub short : 8 + length bytes ≤ longest_capture
  pub at_end : IsAtEnd src.now.left

abbrev pub ReceiveEnds : Step SourceSeen → Step SinkSeen → Type 0 → Step SinkSeen → Result Receiver Stop → Type 0
ReceiveEnds src pix PixKept out (Ok receiver) = AllReceived src pix out receiver
ReceiveEnds src pix PixKept out (Err stop) = StepsDo (RecvCauses src pix PixKept) out (Err stop)

-- the capture was read, and how much was received is printed behind the attributes
pub record SaysReceived (src : Step SourceSeen) (pix out : Step SinkSeen) : Type 0 where
  pub text : List ℕ
  pub received : Received
  pub read : CaptureIsRead src pix text received
  pub printed : Prints out (text ++ received_line received)

-- the capture was refused, and that is printed behind the attributes
pub record SaysCaptureRefused (src : Step SourceSeen) (pix : Step SinkSeen) (PixKept : Type 0) (out : Step SinkSeen)
    : Type 0 where
  pub why : CaptureBad
  pub text : List ℕ
  pub refused : CaptureRefused src pix PixKept why text
  pub printed : Prints out (text ++ capture_line why)

-- a read failed, and that is printed behind the attributes
pub record SaysReadFault (src : Step SourceSeen) (pix : Step SinkSeen) (PixKept : Type 0) (out : Step SinkSeen)
    : Type 0 where
  pub text : List ℕ
  pub rose : Rose src.before.faults src.now.faults
  pub fails : ReadingFails src pix PixKept text
  pub printed : Prints out (text ++ read_fault_line)

-- a capture that is read to its end without a fault
pub record IsGoodCapture (all : List ℕ) : Type 0 where
  pub link : Link
  pub bytes : List ℕ
  pub divided : all ≡ header_bytes link ++ bytes
  pub short : length all ≤ longest_capture
  pub received : Received
  pub ends : EndsAs link bytes (Ok received)

-- the status by the capture's bytes
abbrev pub StatusOfCapture : List ℕ → ℕ → Type 0
StatusOfCapture all status = (IsGoodCapture all → status ≡ 0) × ((IsGoodCapture all → ⊥) → status ≡ 6)

-- these are the bytes of what a plan that fits sends of all its pixels, all in range, and not too many
pub record IsSent (p : PlanFacts) (pixels : List Pixel) (all : List ℕ) : Type 0 where
  pub planned : IsPlan p
  pub whole : AreWhole p pixels
  pub capture : IsCapture p pixels all
  pub short : length all ≤ longest_capture

-- one line for each frame, with the attributes of the plan's mode
abbrev pub attributes_lines : PlanFacts → List ℕ
attributes_lines p = flat_map (λ line. line) (replicate p.frames (attributes_line (attributes_of p.mode p.link)))

-- exactly the pixels and the attributes that were sent
pub record GivesBack (p : PlanFacts) (pixels : List Pixel) (pix out : Step SinkSeen) (status : ℕ) : Type 0 where
  pub ended : status ≡ 0
  pub taken : Appends pix.before.taken pix.now.taken (pixel_records pixels)
  pub printed : Prints out (attributes_lines p ++ received_line (all_of p))

-- there is no other
abbrev pub IsRecvStatus : ℕ → Type 0
IsRecvStatus n = (n ≡ 0) ⊎ (n ≡ 6) ⊎ (n ≡ 7) ⊎ (n ≡ 8) ⊎ (n ≡ 10)

module _ (src : Step SourceSeen) (pix : Step SinkSeen) (PixKept : Type 0) where
  -- What the command does, status by status.
  pub record RecvDoes (out : Step SinkSeen) (status : ℕ) : Type 0 where
    -- 0: the capture was read to its end
    pub received : status ≡ 0 → SaysReceived src pix out
    -- 6: it is refused; what is due of it was received all the same
    pub refused : status ≡ 6 → SaysCaptureRefused src pix PixKept out
    -- 7: a read failed; what is due of the bytes before was received; 8: a write failed
    pub read_fault : status ≡ 7 → SaysReadFault src pix PixKept out
    pub write_fault : status ≡ 8
        → Rose pix.before.faults pix.now.faults ⊎ Rose out.before.faults out.now.faults
    pub statuses : IsRecvStatus status
    -- where no fault was met and there was memory, the bytes decide the status
    pub decided : IsClean status → IfSome src.before.left (λ all. StatusOfCapture all status)
    -- what was sent is received
    pub sent_is_received : (p : PlanFacts) (pixels : List Pixel) → IsSomeAnd src.before.left (IsSent p pixels)
        → IsClean status → GivesBack p pixels pix out status
    -- no counted fault is passed over
    pub reads_are_calm : IsClean status → src.now.faults ≡ src.before.faults
    pub pix_is_calm : IsClean status → pix.now.faults ≡ pix.before.faults
    pub writes_are_calm : status ≢ 8 → out.now.faults ≡ out.before.faults
    -- what was printed, with what cause, whatever the status
    pub done : Result ⊤ Stop
    pub said : List ℕ
    pub caused : RecvCauses src pix PixKept done said
    pub printed : CommandPrints out said done status
