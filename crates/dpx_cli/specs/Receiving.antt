-- Receiving as steps of a command: this project's own. `src` is the source of the capture, `pix` the sink of the records
-- of pixels, `out` the sink of the lines of attributes and of the report.
use Rattle.std.specs.Prelude.{◌≡◌, ℕ, ◌+◌, ◌<◌, ◌≤◌, ◌^◌, List, [], ◌∷◌, ◌++◌, length, Option, Some, None, Result, Ok, Err, ⊤}
use Rattle.std.specs.Io.KnownBytes.{Appends, Consumes, IsAtEnd, Keeps}
use Rattle.dpx_base.specs.declared.link.Link.{Link}
use Rattle.dpx_base.specs.Capture.{header_bytes}
use Rattle.dpx_base.specs.Faults.{Rose}
use Rattle.dpx_base.specs.Seen.{SourceSeen, SinkSeen}
use Rattle.dpx_files.specs.Header.{header_in}
use Rattle.dpx_reception.specs.Due.{Due, PartlyDue}
use Rattle.dpx_reception.specs.Reception.{Fault, word_fault, set_fault}
use Rattle.dpx_sink.specs.declared.output.Output.{Output}
use Rattle.dpx_sink.specs.declared.output.Output.TheVariants.{Pixels, Log}
use Rattle.dpx_sink.specs.declared.receiver.Receiver.{Receiver}
use Rattle.dpx_sink.specs.declared.recv_end.RecvEnd.{RecvEnd}
use Rattle.dpx_sink.specs.declared.recv_end.RecvEnd.TheVariants.{Align, Parse, WriteFault}
use Rattle.dpx_sink.specs.Receiver.{StandsFor, link_of, bytes_fed}
use Rattle.dpx_sink.specs.Writes.{Calm, OneFailed, Wrote, WroteFront, sinks}
use Rattle.dpx_cli.specs.declared.stop.CaptureBad.TheVariants.{Header, Word, Set, Long}
use Rattle.dpx_cli.specs.declared.stop.Stop.{Stop}
use Rattle.dpx_cli.specs.declared.stop.Stop.TheVariants as stop
use Rattle.dpx_cli.specs.Step.{Step}
use Rattle.dpx_cli.specs.Transfer.{Prints, ReadsFewer}

-- how many bytes of a capture are read at most, header included, and how many in one read
abbrev pub longest_capture : ℕ
longest_capture = 2 ^ 40

-- what a receiver's refusal stops a command with: a fault of the capture, or a write that failed
abbrev pub stop_of_write : Option Output → Stop
stop_of_write (Some Log) = stop.OutFault
stop_of_write (Some Pixels) = stop.WriteFault
stop_of_write None = stop.WriteFault

abbrev pub stop_of_recv : RecvEnd → Option Output → Stop
stop_of_recv (Align bad) output = stop.Capture (Word bad)
stop_of_recv (Parse bad) output = stop.Capture (Set bad)
stop_of_recv WriteFault output = stop_of_write output

module _ (src : Step SourceSeen) where
  abbrev pub SrcIsCalm : Type 0
  SrcIsCalm = src.now.faults ≡ src.before.faults

  -- So many bytes were read, which are no header: all eight, or fewer, and then the input ended.
  pub record ReadsNoHeader (count : ℕ) : Type 0 where
    pub bytes : List ℕ
    pub consumed : Consumes src.before.left src.now.left bytes
    pub counted : length bytes ≡ count
    pub short : count ≤ 8
    pub ended : count < 8 → IsAtEnd src.now.left
    pub none : count ≡ 8 → header_in bytes ≡ None

  -- less than a header was read
  abbrev pub ReadsPartOfHeader : Type 0
  ReadsPartOfHeader = ReadsFewer 8 src.before.left src.now.left

  -- the header of this link was read, or there is none
  abbrev pub ReadsHeader : Result Link Stop → Type 0
  ReadsHeader (Ok link) = Consumes src.before.left src.now.left (header_bytes link) × SrcIsCalm
  ReadsHeader (Err (stop.Capture (Header count))) = ReadsNoHeader count × SrcIsCalm
  ReadsHeader (Err stop.ReadFault) = ReadsPartOfHeader × Rose src.before.faults src.now.faults
  ReadsHeader (Err stop.NoMemory) = SrcIsCalm
  ReadsHeader (Err other) = ⊥

  -- a link's header was read, and these bytes behind it
  pub record ReadsCapture (link : Link) (bytes : List ℕ) : Type 0 where
    pub consumed : Consumes src.before.left src.now.left (header_bytes link ++ bytes)
    pub short : 8 + length bytes ≤ longest_capture

  -- so many as a capture has at most, and one more
  pub record ReadsTooMuch (link : Link) (bytes : List ℕ) : Type 0 where
    pub byte : ℕ
    pub consumed : Consumes src.before.left src.now.left (header_bytes link ++ bytes ++ byte ∷ [])
    pub full : 8 + length bytes ≡ longest_capture

  -- a read handed over this piece, of so many bytes at most
  pub record ReadsPiece (most : ℕ) (piece : List ℕ) : Type 0 where
    pub consumed : Consumes src.before.left src.now.left piece
    pub few : length piece ≤ most
    pub calm : SrcIsCalm

  -- nothing is left to be read; or there is one byte more
  abbrev pub ReadsNoMore : Result ⊤ Stop → Type 0
  ReadsNoMore (Ok done) = Consumes src.before.left src.now.left [] × IsAtEnd src.now.left × SrcIsCalm
  ReadsNoMore (Err (stop.Capture Long)) = ((byte : ℕ) × Consumes src.before.left src.now.left (byte ∷ [])) × SrcIsCalm
  ReadsNoMore (Err stop.ReadFault) = Keeps src.before.left src.now.left × Rose src.before.faults src.now.faults
  ReadsNoMore (Err other) = ⊥

-- A piece of at most so many bytes was read, and fed to a receiver that stood for these bytes, records and text.
module _ (src : Step SourceSeen) (pix out : Step SinkSeen) (receiver : Receiver) (most : ℕ)
    (bytes records text : List ℕ) where
  pub record PieceFed (count : ℕ) : Type 0 where
    pub piece : List ℕ
    pub read : ReadsPiece src most piece
    pub counted : length piece ≡ count
    pub at_end : count ≡ 0 → IsAtEnd src.now.left
    pub wrote : Wrote (sinks pix.before out.before) (sinks pix.now out.now) records text
        (StandsFor receiver (bytes ++ piece))
    pub calm : Calm (sinks pix.before out.before) (sinks pix.now out.now)
    pub fed : bytes_fed receiver ≡ length bytes + count

  pub record PieceRefused (link : Link) (fault : Fault) : Type 0 where
    pub piece : List ℕ
    pub read : ReadsPiece src most piece
    pub wrote : Wrote (sinks pix.before out.before) (sinks pix.now out.now) records text
        (Due link (bytes ++ piece) fault)
    pub calm : Calm (sinks pix.before out.before) (sinks pix.now out.now)

  pub record PieceUnwritten (link : Link) (output : Output) : Type 0 where
    pub piece : List ℕ
    pub read : ReadsPiece src most piece
    pub wrote : WroteFront output (sinks pix.before out.before) (sinks pix.now out.now) records text
        (PartlyDue link (bytes ++ piece))
    pub failed : OneFailed output (sinks pix.before out.before) (sinks pix.now out.now)

  abbrev pub PieceEnds : Link → Result ℕ Stop → Type 0
  PieceEnds link (Ok count) = PieceFed count
  PieceEnds link (Err (stop.Capture (Word bad))) = PieceRefused link (word_fault bad)
  PieceEnds link (Err (stop.Capture (Set bad))) = PieceRefused link (set_fault bad)
  PieceEnds link (Err stop.WriteFault) = PieceUnwritten link Pixels
  PieceEnds link (Err stop.OutFault) = PieceUnwritten link Log
  PieceEnds link (Err stop.ReadFault) =
      Keeps src.before.left src.now.left × Rose src.before.faults src.now.faults × (pix.now ≡ pix.before)
      × (out.now ≡ out.before)
  PieceEnds link (Err other) = ⊥

-- The header of this link was read, and behind it these bytes, which a receiver was fed and has not refused. The records
-- that are due of them were taken, and the text is printed.
pub record HasReceived (link : Link) (src : Step SourceSeen) (pix out : Step SinkSeen) (receiver : Receiver)
    (bytes : List ℕ) : Type 0 where
  pub records : List ℕ
  pub text : List ℕ
  pub stands : StandsFor receiver bytes records text
  pub over : link_of receiver ≡ link
  pub fed : bytes_fed receiver ≡ length bytes
  pub consumed : Consumes src.before.left src.now.left (header_bytes link ++ bytes)
  pub taken : Appends pix.before.taken pix.now.taken records
  pub printed : Prints out text
  pub src_calm : SrcIsCalm src
  pub pix_calm : pix.now.faults ≡ pix.before.faults

-- the same, and so many bytes more may be read
pub record StillReceives (link : Link) (src : Step SourceSeen) (pix out : Step SinkSeen) (receiver : Receiver)
    (left : ℕ) : Type 0 where
  pub bytes : List ℕ
  pub received : HasReceived link src pix out receiver bytes
  pub left_is : 8 + length bytes + left ≡ longest_capture
