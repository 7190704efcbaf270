-- Room for a batch.
use Rattle.std.specs.Prelude.{◌≡◌, ℕ, ◌≤◌, length, vec_capacity}
use Rattle.dpx_lane.specs.declared.lane_rows.LaneRows.TheInside.{Inside}

-- each row has room for 8,192 clocks, and they are equally long
pub record HasRoom (r : Inside) : Type 0 where
  pub first : 8192 ≤ vec_capacity r.first
  pub second : 8192 ≤ vec_capacity r.second
  pub third : 8192 ≤ vec_capacity r.third
  pub fourth : 8192 ≤ vec_capacity r.fourth
  pub within : length r.first.items ≤ 8192
  pub as_second : length r.second.items ≡ length r.first.items
  pub as_third : length r.third.items ≡ length r.first.items
  pub as_fourth : length r.fourth.items ≡ length r.first.items
