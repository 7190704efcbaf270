-- What two sinks took: one of records of pixels, one of lines of text.
use Rattle.std.specs.Prelude.{◌≡◌, ℕ, ◌≤◌, List, ◌++◌, Option, Some, None, Result, Ok, Err}
use Rattle.std.specs.Io.KnownBytes.{Appends}
use Rattle.dpx_align.specs.declared.align_bad.AlignBad.{AlignBad}
use Rattle.dpx_base.specs.Faults.{Rose}
use Rattle.dpx_base.specs.Seen.{SinkSeen}
use Rattle.dpx_base.specs.Transfer.{AppendsFront}
use Rattle.dpx_parse.specs.declared.bad.ParseBad.{ParseBad}
use Rattle.dpx_sink.specs.declared.output.Output.{Output}
use Rattle.dpx_sink.specs.declared.output.Output.TheVariants.{Pixels, Log}
use Rattle.dpx_sink.specs.declared.refusal.Refusal.{Refusal}
use Rattle.dpx_sink.specs.declared.refusal.Refusal.TheVariants.{Word, Set, Write}

-- what contracts see of both
pub record Sinks : Type 0 where
  pub pix : SinkSeen
  pub log : SinkSeen

abbrev pub sinks : SinkSeen → SinkSeen → Sinks
sinks pix log = record { pix = pix; log = log }

-- Behind these records and this text the sinks took some more of each, and of the whole of both R holds.
pub record Wrote (before now : Sinks) (records text : List ℕ) (R : List ℕ → List ℕ → Type 0) : Type 0 where
  pub more_records : List ℕ
  pub more_text : List ℕ
  pub pix_took : Appends before.pix.taken now.pix.taken more_records
  pub log_took : Appends before.log.taken now.log.taken more_text
  pub so : R (records ++ more_records) (text ++ more_text)

-- The output that a write failed at took a front of these bytes, the other one all.
abbrev pub PixelsTook : (failed : Output) → (before now : Option (List ℕ)) → List ℕ → Type 0
PixelsTook Pixels before now bytes = AppendsFront before now bytes
PixelsTook Log before now bytes = Appends before now bytes

abbrev pub LogTook : (failed : Output) → (before now : Option (List ℕ)) → List ℕ → Type 0
LogTook Pixels before now bytes = Appends before now bytes
LogTook Log before now bytes = AppendsFront before now bytes

-- Behind them some more records and some more text were to be written, and a write failed; of the whole of both R
-- holds.
pub record WroteFront (failed : Output) (before now : Sinks) (records text : List ℕ) (R : List ℕ → List ℕ → Type 0)
    : Type 0 where
  pub more_records : List ℕ
  pub more_text : List ℕ
  pub pix_took : PixelsTook failed before.pix.taken now.pix.taken more_records
  pub log_took : LogTook failed before.log.taken now.log.taken more_text
  pub so : R (records ++ more_records) (text ++ more_text)

-- no count of faults changed
pub record Calm (before now : Sinks) : Type 0 where
  pub pix : now.pix.faults ≡ before.pix.faults
  pub log : now.log.faults ≡ before.log.faults

-- a count rose
pub record HasFailed (before now : SinkSeen) : Type 0 where
  pub kept : before.faults ≤ now.faults
  pub rose : Rose before.faults now.faults

-- the count of the output that a write failed at rose, and the other one's is as it was
abbrev pub OneFailed : (failed : Output) → (before now : Sinks) → Type 0
OneFailed Pixels before now = HasFailed before.pix now.pix × (now.log.faults ≡ before.log.faults)
OneFailed Log before now = HasFailed before.log now.log × (now.pix.faults ≡ before.pix.faults)

-- what a refusal leaves of the counts
abbrev pub LeavesCounts : Refusal → (before now : Sinks) → Type 0
LeavesCounts (Word bad) before now = Calm before now
LeavesCounts (Set bad) before now = Calm before now
LeavesCounts (Write failed) before now = OneFailed failed before now

-- there is an output that a write failed at
abbrev pub WriteFails : Option Output → (before now : Sinks) → Type 0
WriteFails None before now = ⊥
WriteFails (Some failed) before now = OneFailed failed before now

-- What was written before a refusal: all that was due by a bad word or a refused set, also where a count rose earlier;
-- where a write failed a front of it.
abbrev pub Refused : (before now : Sinks) → (records text : List ℕ) → (word : AlignBad → List ℕ → List ℕ → Type 0)
    → (set : ParseBad → List ℕ → List ℕ → Type 0) → (part : List ℕ → List ℕ → Type 0) → Refusal → Type 0
Refused before now records text word set part (Word bad) = Wrote before now records text (word bad)
Refused before now records text word set part (Set bad) = Wrote before now records text (set bad)
Refused before now records text word set part (Write output) = WroteFront output before now records text part

-- what was written, by the answer
abbrev pub Went : {T : Type 0} → (before now : Sinks) → (records text : List ℕ) → (ok : T → List ℕ → List ℕ → Type 0)
    → (word : AlignBad → List ℕ → List ℕ → Type 0) → (set : ParseBad → List ℕ → List ℕ → Type 0)
    → (part : List ℕ → List ℕ → Type 0) → Result T Refusal → Type 0
Went before now records text ok word set part (Ok x) = Wrote before now records text (ok x)
Went before now records text ok word set part (Err refusal) = Refused before now records text word set part refusal
