-- The drives of a training phase, each a list of register bytes, lane 0 first: VESA DisplayPort 1.4a, DPCD 00103 to
-- 00106.
use Rattle.std.specs.Prelude.{ℕ, ◌%◌, ◌==◌, Bool, List, [], ◌∷◌, map, take, get_or, slice_index}
use Rattle.dpx_base.specs.declared.lanes.Lanes.{Lanes}
use Rattle.dpx_base.specs.Lanes.{lanes_count, every_lane}
use Rattle.dpx_dpcd.specs.declared.status.Status6.{Status6}
use Rattle.dpx_dpcd.specs.Status.{status_level}

-- no swing and no emphasis on any lane
abbrev pub no_drive : List ℕ
no_drive = 0 ∷ 0 ∷ 0 ∷ 0 ∷ []

-- the bytes of the lanes in use
abbrev pub used : Lanes → List ℕ → List ℕ
used lanes drive = take (lanes_count lanes) drive

-- the drive that a phase starts with, and then the level of each status
abbrev pub drives : Lanes → List ℕ → List Status6 → List (List ℕ)
drives lanes first statuses = first ∷ map (λ status. status_level lanes status.bytes) statuses

-- the drive that is in force after so many statuses
abbrev pub drive_after : Lanes → List ℕ → List Status6 → ℕ → List ℕ
drive_after lanes first statuses count = get_or (drives lanes first statuses) count no_drive

-- the voltage swing of a lane: bits 1:0 of its byte
abbrev pub swing : List ℕ → ℕ → ℕ
swing drive lane = slice_index drive lane % 4

-- every lane in use has swing 3
abbrev pub at_full_swing : Lanes → List ℕ → Bool
at_full_swing lanes drive = every_lane lanes (λ lane. swing drive lane == 3)

-- two drives have equal swings, lane by lane; their emphasis may differ
abbrev pub same_swings : Lanes → List ℕ → List ℕ → Bool
same_swings lanes a b = every_lane lanes (λ lane. swing a lane == swing b lane)
