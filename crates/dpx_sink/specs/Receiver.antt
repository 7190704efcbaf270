-- What a receiver stands for, and answers: this project's own.
use Rattle.std.specs.Prelude.{ℕ, ◌≡◌, ◌<◌, ◌*◌, ◌^◌, ⊤, List, Option, Some, None, Result, Ok, Err}
use Rattle.dpx_base.specs.Lanes.{lanes_count}
use Rattle.dpx_base.specs.declared.link.Link.{Link}
use Rattle.dpx_grammar.specs.Accepted.{Frame}
use Rattle.dpx_parse.specs.Stands.{number_of}
use Rattle.dpx_reception.specs.Bytes.{clocks_in, left_over}
use Rattle.dpx_reception.specs.Due.{whole_frames, whole_lines, Due, PartlyDue}
use Rattle.dpx_reception.specs.Reception.{no_fault, word_fault, set_fault, Reception, Locks}
use Rattle.dpx_sink.specs.Clocks.{HasTaken, bytes_in}
use Rattle.dpx_sink.specs.Writes.{Sinks, Wrote, WroteFront}
use Rattle.dpx_sink.specs.declared.finish_end.FinishEnd.{FinishEnd}
use Rattle.dpx_sink.specs.declared.finish_end.FinishEnd.TheVariants.{Truncated, NoLock}
use Rattle.dpx_sink.specs.declared.finish_end.Received.{Received}
use Rattle.dpx_sink.specs.declared.output.Output.{Output}
use Rattle.dpx_sink.specs.declared.receiver.Receiver.{Receiver}
use Rattle.dpx_sink.specs.declared.recv_end.RecvEnd.{RecvEnd}
use Rattle.dpx_sink.specs.declared.recv_end.RecvEnd.TheVariants.{Align, Parse, WriteFault}
use Rattle.dpx_sink.specs.declared.refusal.Refusal.{Refusal}
use Rattle.dpx_sink.specs.declared.refusal.Refusal.TheVariants.{Word, Set, Write}

-- the link that it reads, and how many bytes it was fed
abbrev pub link_of : Receiver → Link
link_of r = r.clocks.link

abbrev pub bytes_fed : Receiver → ℕ
bytes_fed r = bytes_in r.clocks

-- the bytes of 2^62 clocks
abbrev pub most_bytes : Link → ℕ
most_bytes link = 2 ^ 62 * (2 * lanes_count link.lanes)

-- it has refused nothing
abbrev pub IsOpen : Receiver → Type 0
IsOpen r = r.refused ≡ None

-- a refusal as callers see it
abbrev pub end_of : Refusal → RecvEnd
end_of (Word bad) = Align bad
end_of (Set bad) = Parse bad
end_of (Write output) = WriteFault

abbrev pub end_told : Option Refusal → Option RecvEnd
end_told None = None
end_told (Some refusal) = Some (end_of refusal)

-- it has refused for this reason
abbrev pub HasRefused : Receiver → RecvEnd → Type 0
HasRefused r end = end_told r.refused ≡ Some end

-- the output that a write failed at
abbrev pub output_told : Option Refusal → Option Output
output_told (Some (Write output)) = Some output
output_told _ = None

abbrev pub failed_output : Receiver → Option Output
failed_output r = output_told r.refused

-- It was fed these bytes behind a header, in any pieces, and refused nothing. They have no fault, and these records and
-- this text are all that is due of them.
pub record StandsFor (r : Receiver) (bytes records text : List ℕ) : Type 0 where
  pub taken : HasTaken r.clocks bytes records text
  pub is_open : IsOpen r
  pub due : Due (link_of r) bytes no_fault records text

-- What was written of these bytes, behind these records and this text, by the answer: all that is due of them, at their
-- first fault too; where a write failed, a front of what is due of some of their first sets, and all of it at the other
-- output. At Ok the receiver stands for them.
abbrev pub Feeds : Receiver → Link → (before now : Sinks) → (bytes records text : List ℕ) → Result ⊤ RecvEnd → Type 0
Feeds r link before now bytes records text (Ok done) = Wrote before now records text (StandsFor r bytes)
Feeds r link before now bytes records text (Err (Align bad)) =
    Wrote before now records text (Due link bytes (word_fault bad))
Feeds r link before now bytes records text (Err (Parse bad)) =
    Wrote before now records text (Due link bytes (set_fault bad))
Feeds r link before now bytes records text (Err WriteFault) =
    (output : Output) × (failed_output r ≡ Some output)
    × WroteFront output before now records text (PartlyDue link bytes)

-- what is received of these bytes, counted as far as 64 bits go
pub record Counts (link : Link) (bytes : List ℕ) (received : Received) : Type 0 where
  pub frames : List Frame
  pub tail : ℕ
  pub reception : Reception link bytes no_fault frames tail
  pub frames_are : received.frames ≡ number_of (whole_frames frames)
  pub lines_are : received.lines ≡ number_of (whole_lines frames)
  pub tail_is : received.tail_clocks ≡ number_of tail

-- The end of bytes without a fault: some of an unfinished clock are left; else the lanes lock nowhere; else they were
-- received.
abbrev pub EndsAs : Link → (bytes : List ℕ) → Result Received FinishEnd → Type 0
EndsAs link bytes (Err (Truncated clock left)) =
    (0 < left_over (lanes_count link.lanes) bytes) × (left ≡ left_over (lanes_count link.lanes) bytes)
    × (clock ≡ clocks_in (lanes_count link.lanes) bytes)
EndsAs link bytes (Err (NoLock clocks)) =
    (left_over (lanes_count link.lanes) bytes ≡ 0) × Locks link bytes None
    × (clocks ≡ clocks_in (lanes_count link.lanes) bytes)
EndsAs link bytes (Ok received) =
    (left_over (lanes_count link.lanes) bytes ≡ 0) × ((clock : ℕ) × Locks link bytes (Some clock))
    × Counts link bytes received
