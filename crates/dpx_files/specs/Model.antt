-- A modelled sink: this project's own.
use Rattle.std.specs.Prelude.{ℕ, nat_lt, if◌then◌else◌, List, codes, Option, Some, None, option_and_then, replicate}
use Rattle.std.specs.Prelude.{Result, Ok}
use Rattle.std.specs.Result.{result_ok}
use Rattle.serde_json.specs.Data.{Data}
use Rattle.serde_json.specs.Find.{get, as_str}
use Rattle.hex.specs.Hex.{decode_sized}
use Rattle.dpx_dpcd.specs.declared.plan.SinkPlan.{SinkPlan}
use Rattle.dpx_dpcd.specs.declared.plan.SinkPlan.TheVariants as plan
use Rattle.dpx_dpcd.specs.Cell.{CellFacts}
use Rattle.dpx_dpcd.specs.Channel.{good_cell}
use Rattle.dpx_files.specs.declared.refusal.Field.{Field}
use Rattle.dpx_files.specs.declared.refusal.Field.TheVariants as field
use Rattle.dpx_files.specs.Refusal.{wanted, ◌>>=◌}
use Rattle.dpx_files.specs.Members.{whole_number, object_in, or_default}
use Rattle.dpx_files.specs.Channel.{channel_of}

-- sixteen registers: 32 hexadecimal digits of either case
abbrev pub block_from : List ℕ → Option (List ℕ)
block_from text = result_ok (decode_sized text 16)

-- a block of registers is a text
abbrev pub block_of : Data → Option (List ℕ)
block_of value = option_and_then block_from (as_str value)

-- `caps`: sixteen registers
abbrev pub caps_of : Data → Result (List ℕ) Field
caps_of model = wanted field.Caps (option_and_then block_of (get (codes "caps") model))

-- `extended`: sixteen registers, or as `caps`
abbrev pub extended_of : Data → List ℕ → Result (List ℕ) Field
extended_of model caps = or_default field.Extended block_of caps (get (codes "extended") model)

-- 0 to 255
abbrev pub byte_from : ℕ → Option ℕ
byte_from number = if nat_lt number 256 then Some number else None

-- a byte is a number
abbrev pub byte_of : Data → Option ℕ
byte_of value = option_and_then byte_from (whole_number value)

-- `defers`: a byte, or 0
abbrev pub defers_of : Data → Result ℕ Field
defers_of model = or_default field.Defers byte_of 0 (get (codes "defers") model)

-- `channel`: an object, or every lane is good at every rate
abbrev pub channel_in : Data → Result (List CellFacts) Field
channel_in model = or_default field.Channel channel_of (replicate 16 good_cell) (get (codes "channel") model)

-- `model`: an object with all of these
unfoldable pub model_of : Data → Result SinkPlan Field
model_of value = do
  model ← object_in field.Model (Some value)
  caps ← caps_of model
  extended ← extended_of model caps
  defers ← defers_of model
  channel ← channel_in model
  Ok (plan.Model caps extended defers channel)
