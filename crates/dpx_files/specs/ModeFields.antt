-- The mode of a job. The limits are this project's own.
use Rattle.std.specs.Prelude.{ℕ, ◌+◌, ◌-◌, ◌≤◌, ◌==◌, Bool, false, min, if◌then◌else◌, Option, Some, None}
use Rattle.std.specs.Prelude.{option_and_then, Result, Ok}
use Rattle.serde_json.specs.Data.{Data}
use Rattle.serde_json.specs.Find.{get}
use Rattle.dpx_base.specs.declared.depth.Depth.{Depth}
use Rattle.dpx_base.specs.declared.depth.Depth.TheVariants.{Six, Eight, Ten, Twelve, Sixteen}
use Rattle.dpx_base.specs.Mode.{ModeFacts}
use Rattle.dpx_files.specs.declared.mode_fields.Extent.{Extent}
use Rattle.dpx_files.specs.declared.mode_fields.Syncs.{Syncs}
use Rattle.dpx_files.specs.declared.refusal.Field.{Field}
use Rattle.dpx_files.specs.declared.refusal.Field.TheVariants as field
use Rattle.dpx_files.specs.Refusal.{wanted, field_name, ◌>>=◌}
use Rattle.dpx_files.specs.Members.{whole_number, flag_of, ranged, or_default}

-- the pixels of a line and the lines of a frame, and both again with the blank ones
unfoldable pub extent_of : Data → Result Extent Field
extent_of mode = do
  width ← ranged field.Width 16 8192 mode
  height ← ranged field.Height 1 8192 mode
  htotal ← ranged field.Htotal (width + 1) 65535 mode
  vtotal ← ranged field.Vtotal (height + 2) 65535 mode
  Ok (record { width = width; height = height; htotal = htotal; vtotal = vtotal })

-- the sync pulses and where they start, in the blank that this extent leaves
unfoldable pub syncs_of : Extent → Data → Result Syncs Field
syncs_of extent mode = do
  hsw ← ranged field.Hsw 1 (min 32767 (extent.htotal - extent.width)) mode
  hstart ← ranged field.Hstart hsw (extent.htotal - extent.width) mode
  vsw ← ranged field.Vsw 1 (min 32767 (extent.vtotal - extent.height)) mode
  vstart ← ranged field.Vstart vsw (extent.vtotal - extent.height) mode
  Ok (record { hsw = hsw; hstart = hstart; vsw = vsw; vstart = vstart })

-- a polarity: 0 or 1, the bit as it is sent, or 0
abbrev pub polarity_of : Field → Data → Result Bool Field
polarity_of field mode = or_default field flag_of false (get (field_name field) mode)

-- the depth of so many bits
abbrev pub depth_from : ℕ → Option Depth
depth_from bits =
    if bits == 6 then Some Six
    else if bits == 8 then Some Eight
    else if bits == 10 then Some Ten
    else if bits == 12 then Some Twelve
    else if bits == 16 then Some Sixteen
    else None

-- `depth`: 6, 8, 10, 12 or 16
abbrev pub depth_of : Data → Result Depth Field
depth_of mode =
    wanted field.Depth (option_and_then depth_from (option_and_then whole_number (get (field_name field.Depth) mode)))

-- the fields of a mode, in their order
unfoldable pub mode_of : Data → Result ModeFacts Field
mode_of mode = do
  extent ← extent_of mode
  syncs ← syncs_of extent mode
  hsp ← polarity_of field.Hsp mode
  vsp ← polarity_of field.Vsp mode
  clock_khz ← ranged field.Clock 1 1440000 mode
  depth ← depth_of mode
  Ok (record {
    width = extent.width;
    height = extent.height;
    htotal = extent.htotal;
    vtotal = extent.vtotal;
    hsw = syncs.hsw;
    hstart = syncs.hstart;
    vsw = syncs.vsw;
    vstart = syncs.vstart;
    hsp = hsp;
    vsp = vsp;
    clock_khz = clock_khz;
    depth = depth;
  })

-- the ranges that these are read in
pub record IsExtent (extent : Extent) : Type 0 where
  pub width : (16 ≤ extent.width) × (extent.width ≤ 8192)
  pub height : (1 ≤ extent.height) × (extent.height ≤ 8192)
  pub htotal : (extent.width + 1 ≤ extent.htotal) × (extent.htotal ≤ 65535)
  pub vtotal : (extent.height + 2 ≤ extent.vtotal) × (extent.vtotal ≤ 65535)

pub record AreSyncs (extent : Extent) (syncs : Syncs) : Type 0 where
  pub hsw : (1 ≤ syncs.hsw) × (syncs.hsw ≤ min 32767 (extent.htotal - extent.width))
  pub hstart : (syncs.hsw ≤ syncs.hstart) × (syncs.hstart ≤ extent.htotal - extent.width)
  pub vsw : (1 ≤ syncs.vsw) × (syncs.vsw ≤ min 32767 (extent.vtotal - extent.height))
  pub vstart : (syncs.vsw ≤ syncs.vstart) × (syncs.vstart ≤ extent.vtotal - extent.height)
