use Rattle.std.proofs.Common.{sym, ap, ◌∙◌, length}
use Rattle.dpx_pack.proofs.LowBytes.{length-low_bytes, low_bytes_small}
use Rattle.dpx_pack.proofs.packed_bytes.PackedBytes.len.Goals as goal

pub returns-clause-length : goal.returns-clause-length
returns-clause-length c =
    c.from.ensures ∙ (sym (length-low_bytes c.self.inside.count c.self.inside.value) ∙ ap length c.self.view_is)

pub returns-clause-bytes : goal.returns-clause-bytes
returns-clause-bytes c = rw (← c.self.view_is) (low_bytes_small c.self.inside.count c.self.inside.value)
