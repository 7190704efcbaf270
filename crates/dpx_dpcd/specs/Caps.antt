-- Receiver capabilities: VESA DisplayPort 1.4a, DPCD 00000 to 0000F. The order of the refusals is this project's own.
use Rattle.std.specs.Prelude.{ℕ, ◌/◌, ◌%◌, ◌==◌, ◌&&◌, Bool, nat_lt, nat_le, if◌then◌else◌, List, slice_index, Option, Some}
use Rattle.std.specs.Prelude.{None, Result, Ok, Err}
use Rattle.dpx_base.specs.declared.rate.Rate.{Rate}
use Rattle.dpx_base.specs.declared.lanes.Lanes.{Lanes}
use Rattle.dpx_base.specs.declared.link.Link.{Link}
use Rattle.dpx_base.specs.Rate.{rate_code, rate_from_code}
use Rattle.dpx_base.specs.Lanes.{lanes_count, lanes_from_count}
use Rattle.dpx_dpcd.specs.declared.caps.Caps.{Caps}
use Rattle.dpx_dpcd.specs.declared.caps.CapsBad.{CapsBad}
use Rattle.dpx_dpcd.specs.declared.caps.CapsBad.TheVariants.{BadLanes, BadRate}
use Rattle.dpx_dpcd.specs.declared.pattern.Pattern.{Pattern}
use Rattle.dpx_dpcd.specs.declared.pattern.Pattern.TheVariants.{Tps2, Tps3, Tps4}

-- bit 7 of byte 0E: there is an extended field
abbrev pub has_extended : List ℕ → Bool
has_extended block = nat_le 0x80 (slice_index block 0x0e)

-- the rate is the last to be looked at
abbrev pub caps_at_rate : List ℕ → Lanes → Option Rate → Result Caps CapsBad
caps_at_rate block lanes None = Err (BadRate (slice_index block 1))
caps_at_rate block lanes (Some rate) =
    Ok (record {
      rate = rate;
      lanes = lanes;
      enhanced = nat_le 0x80 (slice_index block 2);
      tps3 = slice_index block 2 / 0x40 % 2 == 1;
      tps4 = nat_le 0x80 (slice_index block 3);
      interval = slice_index block 0x0e % 0x80;
    })

-- the lanes are looked at before the rate
abbrev pub caps_on_lanes : List ℕ → Option Lanes → Result Caps CapsBad
caps_on_lanes block None = Err (BadLanes (slice_index block 2))
caps_on_lanes block (Some lanes) = caps_at_rate block lanes (rate_from_code (slice_index block 1))

-- what a block of sixteen bytes says, or the first refusal: the lanes, bits 4:0 of byte 2; the rate. Enhanced framing is
-- bit 7 of byte 2, and no block is refused for want of it.
abbrev pub caps_read : List ℕ → Result Caps CapsBad
caps_read block = caps_on_lanes block (lanes_from_count (slice_index block 2 % 0x20))

-- the lower of two rates, the fewer of two lane counts
abbrev pub lower_rate : Rate → Rate → Rate
lower_rate a b = if nat_lt (rate_code a) (rate_code b) then a else b

abbrev pub fewer_lanes : Lanes → Lanes → Lanes
fewer_lanes a b = if nat_lt (lanes_count a) (lanes_count b) then a else b

-- the first configuration of a training; its framing is enhanced where the sink and the source both know it
abbrev pub caps_start : Caps → Link → Link
caps_start caps top =
    record {
      rate = lower_rate caps.rate top.rate;
      lanes = fewer_lanes caps.lanes top.lanes;
      enhanced = caps.enhanced && top.enhanced;
    }

-- the highest pattern for equalisation that the sink knows: this project's own
abbrev pub caps_pattern : Caps → Pattern
caps_pattern caps = if caps.tps4 then Tps4 else if caps.tps3 then Tps3 else Tps2
