-- Which status was read last, and with which drive in force: this project's own.
use Rattle.std.specs.Prelude.{◌≡◌, ◌⊎◌, ℕ, List, ◌++◌, Ok, ⊤}
use Rattle.dpx_base.specs.declared.aux_port.Entry.{Entry}
use Rattle.dpx_base.specs.declared.lanes.Lanes.{Lanes}
use Rattle.dpx_aux.specs.Asked.{AsksNone, reads_of, writes_of}
use Rattle.dpx_dpcd.specs.declared.pattern.Pattern.{Pattern}
use Rattle.dpx_dpcd.specs.declared.status.Drive.{Drive}
use Rattle.dpx_dpcd.specs.declared.status.Status6.{Status6}
use Rattle.dpx_dpcd.specs.RegisterMap.{lane0_1_status, training_lane0_set}
use Rattle.dpx_dpcd.specs.Registers.{ReadsStatus}
use Rattle.dpx_phase.specs.declared.phase_end.PhaseEnd.{PhaseEnd}
use Rattle.dpx_phase.specs.declared.phase_end.PhaseEnd.TheVariants.{Done, Failed, Lost, Aux}
use Rattle.dpx_phase.specs.Phase.{Adjusts, ReadsLater, Starts}

-- none of the six registers of the status is read
abbrev pub ReadsNoStatus : List Entry → Type 0
ReadsNoStatus = AsksNone (reads_of lane0_1_status 6)

-- none of the four registers of the drive is written
abbrev pub WritesNoDrive : List Entry → Type 0
WritesNoDrive = AsksNone (writes_of training_lane0_set 4)

-- this status is the last one that was read
pub record IsLastRead (status : Status6) (history : List Entry) : Type 0 where
  pub before : List Entry
  pub read : List Entry
  pub after : List Entry
  pub joined : history ≡ before ++ (read ++ after)
  pub given : ReadsStatus (Ok status) read
  pub unread : ReadsNoStatus after

-- the drive of the lanes in use was written, alone or behind a pattern, and acknowledged
abbrev pub WritesDrive : Lanes → Drive → List Entry → Type 0
WritesDrive lanes drive history =
    Adjusts lanes drive.registers (Ok tt) history
    ⊎ ((chosen : Pattern) × Starts lanes chosen drive.registers (Ok tt) history)

-- This drive is in force: it was the last one that was written. Right behind it this status was read, as the last one.
pub record IsLastReadWith (lanes : Lanes) (drive : Drive) (status : Status6) (history : List Entry) : Type 0 where
  pub before : List Entry
  pub write : List Entry
  pub pause : ℕ
  pub read : List Entry
  pub after : List Entry
  pub joined : history ≡ before ++ (write ++ (read ++ after))
  pub written : WritesDrive lanes drive write
  pub given : ReadsLater pause (Ok status) read
  pub unread : ReadsNoStatus after
  pub unwritten : WritesNoDrive after

-- what an end of a phase says was read last, and the drive that it says was in force then
abbrev pub EndIsRead : Lanes → PhaseEnd → List Entry → Type 0
EndIsRead lanes (Done drive last) history = IsLastReadWith lanes drive last history
EndIsRead lanes (Failed last cause) history = IsLastRead last history
EndIsRead lanes (Lost last) history = IsLastRead last history
EndIsRead lanes (Aux why) history = ⊤
