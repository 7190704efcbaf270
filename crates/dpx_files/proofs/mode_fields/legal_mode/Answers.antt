use Rattle.dpx_files.proofs.Modes.{read_as}
use Rattle.dpx_files.proofs.mode_fields.legal_mode.Goals as goal

pub returns : goal.returns
returns c = read_as _ _ _ c.in-Ok.ensures.value
