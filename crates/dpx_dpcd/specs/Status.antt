-- Link status and drive: VESA DisplayPort 1.4a, DPCD 00202 to 00207 and 00103 to 00106, over six status bytes. That
-- swing goes before pre-emphasis, and when a maximum counts as reached, is this project's own.
use Rattle.std.specs.Prelude.{ℕ, ◌+◌, ◌-◌, ◌*◌, ◌/◌, ◌%◌, ◌^◌, ◌==◌, ◌&&◌, Bool, min, nat_lt, if◌then◌else◌, List, []}
use Rattle.std.specs.Prelude.{◌∷◌, slice_index, ◌≡◌, true}
use Rattle.dpx_base.specs.declared.lanes.Lanes.{Lanes}
use Rattle.dpx_base.specs.Lanes.{lanes_count, every_lane}
use Rattle.dpx_dpcd.specs.declared.status.Status6.{Status6}

-- the four bits of a lane in two bytes from this place on: the lower lane has the low ones
abbrev pub nibble : List ℕ → ℕ → ℕ → ℕ
nibble status place lane = slice_index status (place + lane / 2) / 16 ^ (lane % 2) % 16

-- a lane's status has these lowest bits: 1, or 1 and 2 and 4, or all of them
abbrev pub has_bits : ℕ → List ℕ → ℕ → Bool
has_bits bits status lane = nibble status 0 lane % (bits + 1) == bits

-- every lane in use has recovered its clock: bit 0
unfoldable pub cr_done : Lanes → List ℕ → Bool
cr_done lanes status = every_lane lanes (has_bits 1 status)

-- Every lane in use has clock recovery, equalisation and symbol lock, bits 0 to 2; and bit 0 of 00204 says that they
-- are aligned.
unfoldable pub eq_done : Lanes → List ℕ → Bool
eq_done lanes status = every_lane lanes (has_bits 7 status) && (slice_index status 2 % 2 == 1)

-- the status shows every lane in use done
pub record AllLanesDone (lanes : Lanes) (status : Status6) : Type 0 where
  pub recovered : cr_done lanes status.bytes ≡ true
  pub equalised : eq_done lanes status.bytes ≡ true

-- The byte for a swing and the emphasis asked for beside it. The emphasis is at most 3 less the swing; bit 2 says
-- that the swing is 3, bit 5 that the emphasis is 3 less the swing.
abbrev pub register_byte : ℕ → ℕ → ℕ
register_byte swing asked =
    swing + 8 * min asked (3 - swing)
    + (if swing == 3 then 4 else 0) + (if min asked (3 - swing) == 3 - swing then 32 else 0)

-- what a lane asks for: swing in bits 1:0, emphasis in bits 3:2; 00 where it is not in use
abbrev pub lane_level : Lanes → List ℕ → ℕ → ℕ
lane_level lanes status lane =
    if nat_lt lane (lanes_count lanes) then register_byte (nibble status 4 lane % 4) (nibble status 4 lane / 4) else 0

-- the drive bytes that a status asks for
unfoldable pub status_level : Lanes → List ℕ → List ℕ
status_level lanes status =
    lane_level lanes status 0 ∷ lane_level lanes status 1 ∷ lane_level lanes status 2 ∷ lane_level lanes status 3 ∷ []
