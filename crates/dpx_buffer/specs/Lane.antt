-- What waits on a lane: this project's own.
use Rattle.std.specs.Prelude.{ℕ, ◌+◌, ◌*◌, ◌<◌, ◌≤◌, ◌≡◌, List, [], ◌∷◌, ◌++◌, length, All, slice_index_or}
use Rattle.dpx_pack.specs.Bits.{bits_of_bytes}

-- the bits of a lane that are no whole byte yet, and the bytes that wait
pub record LaneState : Type 0 where
  pub bits : List ℕ
  pub waiting : List ℕ

abbrev pub empty_lane : LaneState
empty_lane = record { bits = []; waiting = [] }

abbrev pub lane_of : List LaneState → (lane : ℕ) → LaneState
lane_of lanes lane = slice_index_or lanes lane empty_lane

-- how many bytes may wait on a lane
abbrev pub ring_capacity : ℕ
ring_capacity = 40

-- The bytes that so many further bits make whole fit the ring; so do those that end a line.
abbrev pub HasRoomFor : (bits : ℕ) → LaneState → Type 0
HasRoomFor bits lane = 8 * length lane.waiting + length lane.bits + bits < 8 * ring_capacity + 8

abbrev pub HasRoomToFinish : LaneState → Type 0
HasRoomToFinish lane = 8 * length lane.waiting + length lane.bits ≤ 8 * ring_capacity

-- bits came behind a lane's, and what they made whole waits
pub record Packs (more : List ℕ) (before after : LaneState) : Type 0 where
  pub bytes : List ℕ
  pub small : All (λ byte. byte < 256) bytes
  pub waiting : after.waiting ≡ before.waiting ++ bytes
  pub bits : before.bits ++ more ≡ bits_of_bytes bytes ++ after.bits
  pub short : length after.bits < 8

-- the first byte of a lane was taken
pub record IsTaken (before : LaneState) (byte : ℕ) (after : LaneState) : Type 0 where
  pub waiting : before.waiting ≡ byte ∷ after.waiting
  pub bits : after.bits ≡ before.bits
