-- Channel equalisation: VESA DisplayPort 1.4a, link training, in outline. The waits are this project's own.
use Rattle.std.specs.Prelude.{◌≡◌, ℕ, ◌*◌, ◌==◌, true, false, min, if◌then◌else◌, List, ⊤}
use Rattle.dpx_base.specs.declared.aux_port.Entry.{Entry}
use Rattle.dpx_base.specs.declared.lanes.Lanes.{Lanes}
use Rattle.dpx_base.specs.declared.link.Link.{Link}
use Rattle.dpx_aux.specs.Asking.{asks_at_most}
use Rattle.dpx_dpcd.specs.declared.pattern.Pattern.{Pattern}
use Rattle.dpx_dpcd.specs.declared.status.Drive.{Drive}
use Rattle.dpx_dpcd.specs.Status.{cr_done, eq_done, AllLanesDone}
use Rattle.dpx_phase.specs.declared.phase_end.PhaseEnd.{PhaseEnd}
use Rattle.dpx_phase.specs.declared.phase_end.PhaseEnd.TheVariants.{Done, Failed, Lost, Aux}
use Rattle.dpx_phase.specs.declared.phase_end.FailCause.TheVariants.{Reads}
use Rattle.dpx_phase.specs.Endings.{equalisation_reads, equalisation_ends}
use Rattle.dpx_phase.specs.Phase.{Phase, Takes, phase_transactions}

-- channel equalisation begins with the drive that recovery ended with
abbrev pub equalisation : Lanes → List ℕ → ℕ → Phase
equalisation lanes drive pause = record { lanes = lanes; pause = pause; ending = equalisation_ends lanes drive }

-- the microseconds before a read in equalisation: 400, or so many times 4000, at most four times
abbrev pub pause_of : ℕ → ℕ
pause_of interval = if interval == 0 then 400 else 4000 * min interval 4

-- what channel equalisation gives and asks
unfoldable pub Equalisation : Link → Pattern → Drive → ℕ → PhaseEnd → List Entry → Type 0
Equalisation link chosen drive interval =
    Takes (equalisation link.lanes drive.registers (pause_of interval)) chosen drive.registers

-- how many asks it takes at most
abbrev pub equalisation_asks : ℕ
equalisation_asks = asks_at_most * phase_transactions equalisation_reads

-- what an end of channel equalisation says of the last status
abbrev pub EndsEqualisation : Lanes → PhaseEnd → Type 0
EndsEqualisation lanes (Done drive last) = AllLanesDone lanes last
EndsEqualisation lanes (Failed last cause) =
    (cause ≡ Reads) × (cr_done lanes last.bytes ≡ true) × (eq_done lanes last.bytes ≡ false)
EndsEqualisation lanes (Lost last) = cr_done lanes last.bytes ≡ false
EndsEqualisation lanes (Aux why) = ⊤
