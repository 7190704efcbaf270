-- What a job sends: this project's own.
use Rattle.std.specs.Prelude.{◌≤◌, codes, Result, Ok}
use Rattle.serde_json.specs.Data.{Data}
use Rattle.serde_json.specs.Find.{get}
use Rattle.dpx_base.specs.Mode.{IsLegal}
use Rattle.dpx_files.specs.declared.refusal.Field.{Field}
use Rattle.dpx_files.specs.declared.refusal.Field.TheVariants as field
use Rattle.dpx_files.specs.declared.shape.Shape.{Shape}
use Rattle.dpx_files.specs.Refusal.{◌>>=◌}
use Rattle.dpx_files.specs.Members.{object_in, ranged_or}
use Rattle.dpx_files.specs.ModeFields.{mode_of}

-- `mode`: an object with the fields of a mode, and behind them `frames`, or one, and `unit`, or 64
unfoldable pub shape_of : Data → Result Shape Field
shape_of root = do
  member ← object_in field.Mode (get (codes "mode") root)
  mode ← mode_of member
  frames ← ranged_or field.Frames 1 1 65535 member
  unit ← ranged_or field.Unit 64 32 64 member
  Ok (record { mode = mode; frames = frames; unit = unit })

-- what every shape that is read keeps to
pub record IsShape (shape : Shape) : Type 0 where
  pub mode : IsLegal shape.mode
  pub frames : (1 ≤ shape.frames) × (shape.frames ≤ 65535)
  pub unit : (32 ≤ shape.unit) × (shape.unit ≤ 64)
