-- A mode that is read has the fields that it was read from.
use Rattle.std.proofs.Common.{◌≡◌}
use Rattle.std.specs.Prelude.{Option, Some, None, Ok}
use Rattle.dpx_base.specs.declared.raw_mode.ModeField.{ModeField}
use Rattle.dpx_base.specs.Mode.{ModeFacts}
use Rattle.dpx_base.specs.RawMode.{answered}

pub read_as : (mode facts : ModeFacts) (first : Option ModeField) → Ok mode ≡ answered facts first → mode ≡ facts
read_as mode facts None e = cc
read_as mode facts (Some field) e = cc
