-- Where a training stands, what it does next, and what follows: this project's own. What is left of a training there
-- is the definition's, in Remainder.
use Rattle.std.specs.Prelude.{ℕ, ◌+◌, ◌≤◌, nat_le, if◌then◌else◌, List, [], ◌∷◌, Option, Some, None, Result}
use Rattle.std.specs.Prelude.{Ok, Err, ⊤}
use Rattle.dpx_base.specs.declared.lanes.Lanes.{Lanes}
use Rattle.dpx_base.specs.declared.link.Link.{Link}
use Rattle.dpx_base.specs.Rate.{rate_code}
use Rattle.dpx_aux.specs.declared.request.Request.TheVariants.{Read, Write}
use Rattle.dpx_aux.specs.declared.transaction.AuxEnd.{AuxEnd}
use Rattle.dpx_aux.specs.Request.{IsValid}
use Rattle.dpx_dpcd.specs.declared.caps.Caps.{Caps}
use Rattle.dpx_dpcd.specs.declared.caps.CapsBad.{CapsBad}
use Rattle.dpx_dpcd.specs.declared.pattern.Pattern.{Pattern}
use Rattle.dpx_dpcd.specs.declared.pattern.Pattern.TheVariants.{Tps1}
use Rattle.dpx_dpcd.specs.declared.status.Drive.{Drive}
use Rattle.dpx_dpcd.specs.declared.status.Status6.{Status6}
use Rattle.dpx_dpcd.specs.Caps.{has_extended, caps_read, caps_start, caps_pattern}
use Rattle.dpx_dpcd.specs.Pattern.{pattern_register}
use Rattle.dpx_dpcd.specs.RegisterMap.{dpcd_rev, dp13_dpcd_rev, link_bw_set, downspread_ctrl, training_pattern_set}
use Rattle.dpx_dpcd.specs.RegisterMap.{training_lane0_set, lane0_1_status, set_power}
use Rattle.dpx_dpcd.specs.Status.{status_level}
use Rattle.dpx_phase.specs.declared.phase_end.PhaseEnd.{PhaseEnd}
use Rattle.dpx_phase.specs.declared.phase_end.PhaseEnd.TheVariants.{Done, Failed, Lost, Aux}
use Rattle.dpx_phase.specs.declared.recovery.Level.{Level}
use Rattle.dpx_phase.specs.Drives.{no_drive, used, same_swings}
use Rattle.dpx_phase.specs.Endings.{recovery_reads, equalisation_reads, recovery_end, equalisation_end}
use Rattle.dpx_phase.specs.Equalisation.{pause_of}
use Rattle.dpx_link.specs.declared.attempt.AttemptEnd.{AttemptEnd}
use Rattle.dpx_link.specs.declared.attempt.AttemptEnd.TheVariants.{Unrecovered}
use Rattle.dpx_link.specs.declared.fallback.Next.{Next}
use Rattle.dpx_link.specs.declared.fallback.Next.TheVariants as next
use Rattle.dpx_link.specs.declared.train_end.Verdict.TheVariants.{CapsRefused}
use Rattle.dpx_link.specs.Attempt.{equalised, lanes_byte}
use Rattle.dpx_link.specs.Fallback.{next_of}
use Rattle.dpx_judge.specs.declared.awaited.Awaited.{Awaited}
use Rattle.dpx_judge.specs.declared.awaited.Awaited.TheVariants.{Ask}
use Rattle.dpx_judge.specs.declared.awaited.Awaited.TheVariants as awaited
use Rattle.dpx_judge.specs.declared.behind.Behind.{Behind}
use Rattle.dpx_judge.specs.declared.behind.Behind.TheVariants.{Go, Stop}
use Rattle.dpx_judge.specs.declared.step.Act.{Act}
use Rattle.dpx_judge.specs.declared.step.Act.TheVariants as act
use Rattle.dpx_judge.specs.declared.step.Attempt.{Attempt}
use Rattle.dpx_judge.specs.declared.step.Step.{Step}
use Rattle.dpx_judge.specs.declared.step.Step.TheVariants.{BaseBlock, ExtendedField, Power, Configuration, Coding}
use Rattle.dpx_judge.specs.declared.step.Step.TheVariants.{Recovery, Equalisation, Close}

abbrev pub read : ℕ → ℕ → Awaited
read address count = Ask (Read address count)

abbrev pub write : ℕ → List ℕ → Awaited
write address bytes = Ask (Write address bytes)

-- what a phase does
abbrev pub phase_awaits : Act → Lanes → Pattern → List ℕ → ℕ → Awaited
phase_awaits act.Start lanes chosen drive pause =
    write training_pattern_set (pattern_register chosen ∷ used lanes drive)
phase_awaits act.Wait lanes chosen drive pause = awaited.Wait pause
phase_awaits act.Read lanes chosen drive pause = read lane0_1_status 6
phase_awaits act.Adjust lanes chosen drive pause = write training_lane0_set (used lanes drive)

-- what a training does at a step
abbrev pub awaits : Step → Awaited
awaits BaseBlock = read dpcd_rev 16
awaits ExtendedField = read dp13_dpcd_rev 16
awaits (Power caps) = write set_power (0x01 ∷ [])
awaits (Configuration attempt) = write link_bw_set (rate_code attempt.link.rate ∷ lanes_byte attempt.link ∷ [])
awaits (Coding attempt) = write downspread_ctrl (0x00 ∷ 0x01 ∷ [])
awaits (Recovery attempt act level number) = phase_awaits act attempt.link.lanes Tps1 level.drive.registers 100
awaits (Equalisation attempt act drive number) =
    phase_awaits act attempt.link.lanes (caps_pattern attempt.caps) drive.registers (pause_of attempt.caps.interval)
awaits (Close verdict) = write training_pattern_set (0x00 ∷ [])

-- it can be asked
abbrev pub IsAskable : Awaited → Type 0
IsAskable (awaited.Wait micros) = ⊤
IsAskable (Ask request) = IsValid request

-- how many bytes an acknowledgement brings there
abbrev pub brings_in : Act → ℕ
brings_in act.Start = 0
brings_in act.Wait = 0
brings_in act.Read = 6
brings_in act.Adjust = 0

abbrev pub brings : Step → ℕ
brings BaseBlock = 16
brings ExtendedField = 16
brings (Power caps) = 0
brings (Configuration attempt) = 0
brings (Coding attempt) = 0
brings (Recovery attempt act level number) = brings_in act
brings (Equalisation attempt act drive number) = brings_in act
brings (Close verdict) = 0

-- the number of the status that a phase is at; how many it reads at most; how many drives are alike
abbrev pub number_of : Step → ℕ
number_of BaseBlock = 0
number_of ExtendedField = 0
number_of (Power caps) = 0
number_of (Configuration attempt) = 0
number_of (Coding attempt) = 0
number_of (Recovery attempt act level number) = number
number_of (Equalisation attempt act drive number) = number
number_of (Close verdict) = 0

abbrev pub reads_of : Step → ℕ
reads_of BaseBlock = 0
reads_of ExtendedField = 0
reads_of (Power caps) = 0
reads_of (Configuration attempt) = 0
reads_of (Coding attempt) = 0
reads_of (Recovery attempt act level number) = recovery_reads
reads_of (Equalisation attempt act drive number) = equalisation_reads
reads_of (Close verdict) = 0

abbrev pub alike_of : Step → ℕ
alike_of BaseBlock = 0
alike_of ExtendedField = 0
alike_of (Power caps) = 0
alike_of (Configuration attempt) = 0
alike_of (Coding attempt) = 0
alike_of (Recovery attempt act level number) = level.alike
alike_of (Equalisation attempt act drive number) = 0
alike_of (Close verdict) = 0

-- the counts of a phase are within their bounds
abbrev pub IsSound : Step → Type 0
IsSound step = (number_of step ≤ reads_of step) × (alike_of step ≤ number_of step)

abbrev pub IsReached : Behind → Type 0
IsReached (Go step) = IsSound step
IsReached (Stop outcome) = ⊤

-- behind the capabilities
abbrev pub capable : Result Caps CapsBad → Behind
capable (Ok caps) = Go (Power caps)
capable (Err why) = Stop (Ok (CapsRefused why))

abbrev pub behind_base_block : List ℕ → Behind
behind_base_block block = if has_extended block then Go ExtendedField else capable (caps_read block)

-- behind an attempt that ended so
abbrev pub led_to : Attempt → Next → Behind
led_to attempt (next.Try link) =
    Go (Configuration (record { caps = attempt.caps; first = attempt.first; link = link }))
led_to attempt (next.Stop verdict) = Go (Close verdict)

abbrev pub behind_attempt : Attempt → AttemptEnd → Behind
behind_attempt attempt end = led_to attempt (next_of attempt.first attempt.link end)

abbrev pub attempted : Attempt → Result AttemptEnd AuxEnd → Behind
attempted attempt (Ok end) = behind_attempt attempt end
attempted attempt (Err why) = Stop (Err why)

-- behind clock recovery
abbrev pub recovered : Attempt → PhaseEnd → Behind
recovered attempt (Done drive last) = Go (Equalisation attempt act.Start drive 1)
recovered attempt (Failed last cause) = behind_attempt attempt (Unrecovered last)
recovered attempt (Lost last) = behind_attempt attempt (Unrecovered last)
recovered attempt (Aux why) = Stop (Err why)

-- the drive that a status asks for, and how many drives up to it are alike
abbrev pub next_level : Lanes → Level → Status6 → Level
next_level lanes level status = record {
  drive = record { registers = status_level lanes status.bytes };
  alike = if same_swings lanes level.drive.registers (status_level lanes status.bytes) then level.alike + 1 else 1;
}

abbrev pub recovery_found : Attempt → Level → ℕ → Status6 → Option PhaseEnd → Behind
recovery_found attempt level number status (Some end) = recovered attempt end
recovery_found attempt level number status None =
    Go (Recovery attempt act.Adjust (next_level attempt.link.lanes level status) (number + 1))

abbrev pub behind_recovery_status : Attempt → Level → ℕ → Status6 → Behind
behind_recovery_status attempt level number status =
    recovery_found attempt level number status
    (recovery_end attempt.link.lanes (nat_le 5 level.alike) number level.drive.registers status)

abbrev pub behind_recovery : Attempt → Act → Level → ℕ → List ℕ → Behind
behind_recovery attempt act.Start level number bytes = Go (Recovery attempt act.Wait level number)
behind_recovery attempt act.Wait level number bytes = Go (Recovery attempt act.Read level number)
behind_recovery attempt act.Read level number bytes =
    behind_recovery_status attempt level number (record { bytes = bytes })
behind_recovery attempt act.Adjust level number bytes = Go (Recovery attempt act.Wait level number)

-- the drive that a status asks for
abbrev pub next_drive : Lanes → Drive → Status6 → Drive
next_drive lanes drive status = record { registers = status_level lanes status.bytes }

abbrev pub equalisation_found : Attempt → Drive → ℕ → Status6 → Option PhaseEnd → Behind
equalisation_found attempt drive number status (Some end) = attempted attempt (equalised end)
equalisation_found attempt drive number status None =
    Go (Equalisation attempt act.Adjust (next_drive attempt.link.lanes drive status) (number + 1))

abbrev pub behind_equalisation_status : Attempt → Drive → ℕ → Status6 → Behind
behind_equalisation_status attempt drive number status =
    equalisation_found attempt drive number status
    (equalisation_end attempt.link.lanes number drive.registers status)

abbrev pub behind_equalisation : Attempt → Act → Drive → ℕ → List ℕ → Behind
behind_equalisation attempt act.Start drive number bytes = Go (Equalisation attempt act.Wait drive number)
behind_equalisation attempt act.Wait drive number bytes = Go (Equalisation attempt act.Read drive number)
behind_equalisation attempt act.Read drive number bytes =
    behind_equalisation_status attempt drive number (record { bytes = bytes })
behind_equalisation attempt act.Adjust drive number bytes = Go (Equalisation attempt act.Wait drive number)

-- the start of clock recovery
abbrev pub first_level : Level
first_level = record { drive = record { registers = no_drive }; alike = 1 }

-- what follows a step in a training of the top configuration, where these bytes were brought
abbrev pub what_follows : Link → Step → List ℕ → Behind
what_follows top BaseBlock bytes = behind_base_block bytes
what_follows top ExtendedField bytes = capable (caps_read bytes)
what_follows top (Power caps) bytes =
    Go (Configuration (record { caps = caps; first = caps_start caps top; link = caps_start caps top }))
what_follows top (Configuration attempt) bytes = Go (Coding attempt)
what_follows top (Coding attempt) bytes = Go (Recovery attempt act.Start first_level 1)
what_follows top (Recovery attempt act level number) bytes = behind_recovery attempt act level number bytes
what_follows top (Equalisation attempt act drive number) bytes = behind_equalisation attempt act drive number bytes
what_follows top (Close verdict) bytes = Stop (Ok verdict)
