-- The registers of a sink, by the standard's names: VESA DisplayPort 1.4a, DPCD.
use Rattle.std.specs.Prelude.{ℕ}

-- the first of the receiver capabilities, and of their extended field
abbrev pub dpcd_rev : ℕ
dpcd_rev = 0x00000

abbrev pub dp13_dpcd_rev : ℕ
dp13_dpcd_rev = 0x02200

-- the configuration of the link
abbrev pub link_bw_set : ℕ
link_bw_set = 0x00100

abbrev pub lane_count_set : ℕ
lane_count_set = 0x00101

abbrev pub training_pattern_set : ℕ
training_pattern_set = 0x00102

abbrev pub training_lane0_set : ℕ
training_lane0_set = 0x00103

abbrev pub downspread_ctrl : ℕ
downspread_ctrl = 0x00107

-- the status of the lanes, and the drive that they ask for
abbrev pub lane0_1_status : ℕ
lane0_1_status = 0x00202

abbrev pub lane2_3_status : ℕ
lane2_3_status = 0x00203

abbrev pub lane_align_status_updated : ℕ
lane_align_status_updated = 0x00204

abbrev pub adjust_request_lane0_1 : ℕ
adjust_request_lane0_1 = 0x00206

abbrev pub adjust_request_lane2_3 : ℕ
adjust_request_lane2_3 = 0x00207

abbrev pub set_power : ℕ
set_power = 0x00600
