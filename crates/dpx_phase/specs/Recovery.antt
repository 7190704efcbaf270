-- Clock recovery: VESA DisplayPort 1.4a, link training, in outline. The wait is this project's own.
use Rattle.std.specs.Prelude.{◌≡◌, ℕ, ◌*◌, true, false, List, ⊤}
use Rattle.dpx_base.specs.declared.aux_port.Entry.{Entry}
use Rattle.dpx_base.specs.declared.lanes.Lanes.{Lanes}
use Rattle.dpx_base.specs.declared.link.Link.{Link}
use Rattle.dpx_aux.specs.Asking.{asks_at_most}
use Rattle.dpx_dpcd.specs.declared.pattern.Pattern.TheVariants.{Tps1}
use Rattle.dpx_dpcd.specs.Status.{cr_done}
use Rattle.dpx_phase.specs.declared.phase_end.PhaseEnd.{PhaseEnd}
use Rattle.dpx_phase.specs.declared.phase_end.PhaseEnd.TheVariants.{Done, Failed, Lost, Aux}
use Rattle.dpx_phase.specs.Drives.{no_drive}
use Rattle.dpx_phase.specs.Endings.{recovery_reads, recovery_ends}
use Rattle.dpx_phase.specs.Phase.{Phase, Takes, phase_transactions}

-- clock recovery waits for 100 microseconds before each read
abbrev pub recovery : Lanes → Phase
recovery lanes = record { lanes = lanes; pause = 100; ending = recovery_ends lanes }

-- what clock recovery gives and asks: training pattern 1, and no drive
unfoldable pub Recovery : Link → PhaseEnd → List Entry → Type 0
Recovery link = Takes (recovery link.lanes) Tps1 no_drive

-- how many asks it takes at most
abbrev pub recovery_asks : ℕ
recovery_asks = asks_at_most * phase_transactions recovery_reads

-- what an end of clock recovery says of the last status
abbrev pub EndsRecovery : Lanes → PhaseEnd → Type 0
EndsRecovery lanes (Done drive last) = cr_done lanes last.bytes ≡ true
EndsRecovery lanes (Failed last cause) = cr_done lanes last.bytes ≡ false
EndsRecovery lanes (Lost last) = ⊥
EndsRecovery lanes (Aux why) = ⊤
