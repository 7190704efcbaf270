-- Where the two phases end, over the list of the statuses read, counted from 1: VESA DisplayPort 1.4a, link training,
-- in outline. How often a status is read, and the order of the conditions, are this project's own.
use Rattle.std.specs.Prelude.{◌≡◌, ℕ, ◌+◌, ◌-◌, ◌<◌, ◌≤◌, ◌==◌, ◌&&◌, Bool, not, nat_le, if◌then◌else◌, List, []}
use Rattle.std.specs.Prelude.{length, get_or, Option, Some, None}
use Rattle.dpx_base.specs.declared.lanes.Lanes.{Lanes}
use Rattle.dpx_dpcd.specs.declared.status.Status6.{Status6}
use Rattle.dpx_dpcd.specs.Status.{cr_done, eq_done}
use Rattle.dpx_phase.specs.declared.phase_end.PhaseEnd.{PhaseEnd}
use Rattle.dpx_phase.specs.declared.phase_end.PhaseEnd.TheVariants.{Done, Failed, Lost}
use Rattle.dpx_phase.specs.declared.phase_end.FailCause.TheVariants.{MaxSwing, SameSwing, Reads}
use Rattle.dpx_phase.specs.Drives.{no_drive, drive_after, at_full_swing, same_swings}

-- how many statuses a phase reads at most
abbrev pub recovery_reads : ℕ
recovery_reads = 10

abbrev pub equalisation_reads : ℕ
equalisation_reads = 5

-- the status that was read as the nth
abbrev pub status_at : List Status6 → ℕ → Status6
status_at statuses n = get_or statuses (n - 1) (record { bytes = [] })

-- the drive after so many statuses and the next drive have equal swings
abbrev pub alike_after : Lanes → List ℕ → List Status6 → ℕ → Bool
alike_after lanes first statuses count =
    same_swings lanes (drive_after lanes first statuses count) (drive_after lanes first statuses (count + 1))

-- The drives in force at the last five of n statuses have equal swings.
unfoldable pub five_alike : Lanes → List ℕ → List Status6 → ℕ → Bool
five_alike lanes first statuses n =
    nat_le 5 n
    && alike_after lanes first statuses (n - 5)
    && alike_after lanes first statuses (n - 4)
    && alike_after lanes first statuses (n - 3)
    && alike_after lanes first statuses (n - 2)

-- the first of recovery's four conditions that holds, and the end that it is
abbrev pub first_of_four : (recovered full alike tenth : Bool) → List ℕ → Status6 → Option PhaseEnd
first_of_four recovered full alike tenth drive last =
    if recovered then Some (Done (record { registers = drive }) last)
    else if full then Some (Failed last MaxSwing)
    else if alike then Some (Failed last SameSwing)
    else if tenth then Some (Failed last Reads)
    else None

-- how recovery ends at its nth status, if it does, with this drive in force
abbrev pub recovery_end : Lanes → (alike : Bool) → ℕ → List ℕ → Status6 → Option PhaseEnd
recovery_end lanes alike n drive last =
    first_of_four (cr_done lanes last.bytes) (at_full_swing lanes drive) alike (n == recovery_reads) drive last

-- Clock recovery at the nth status: it has the clocks; or every lane in use was at full swing; or five drives in a row
-- had equal swings; or it is the tenth.
unfoldable pub recovery_ends : Lanes → List Status6 → ℕ → Option PhaseEnd
recovery_ends lanes statuses n =
    recovery_end lanes (five_alike lanes no_drive statuses n) n
    (drive_after lanes no_drive statuses (n - 1)) (status_at statuses n)

-- the first of equalisation's three conditions that holds, and the end that it is
abbrev pub first_of_three : (recovered equalised fifth : Bool) → List ℕ → Status6 → Option PhaseEnd
first_of_three recovered equalised fifth drive last =
    if not recovered then Some (Lost last)
    else if equalised then Some (Done (record { registers = drive }) last)
    else if fifth then Some (Failed last Reads)
    else None

-- how equalisation ends at its nth status, if it does, with this drive in force
abbrev pub equalisation_end : Lanes → ℕ → List ℕ → Status6 → Option PhaseEnd
equalisation_end lanes n drive last =
    first_of_three (cr_done lanes last.bytes) (eq_done lanes last.bytes) (n == equalisation_reads) drive last

-- Channel equalisation at the nth status, where it began with this drive: clock recovery is lost; or the lanes are
-- equalised and aligned; or it is the fifth.
unfoldable pub equalisation_ends : Lanes → List ℕ → List Status6 → ℕ → Option PhaseEnd
equalisation_ends lanes first statuses n =
    equalisation_end lanes n (drive_after lanes first statuses (n - 1)) (status_at statuses n)

-- at none of these statuses a condition holds
abbrev pub EndsNothing : (List Status6 → ℕ → Option PhaseEnd) → List Status6 → Type 0
EndsNothing ending statuses = (n : ℕ) → 1 ≤ n → n ≤ length statuses → ending statuses n ≡ None

-- a phase ends at the last of these statuses, and at no earlier one
pub record EndsAt (ending : List Status6 → ℕ → Option PhaseEnd) (statuses : List Status6) (end : PhaseEnd)
    : Type 0 where
  pub some : 1 ≤ length statuses
  pub last : ending statuses (length statuses) ≡ Some end
  pub earlier : (n : ℕ) → 1 ≤ n → n < length statuses → ending statuses n ≡ None
