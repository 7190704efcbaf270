-- What contracts see of a scan's fields.
use Rattle.dpx_base.specs.declared.scan.Scan.TheInside.{Inside}
use Rattle.dpx_base.specs.Scan.{Scanned}

abbrev pub scanned : Inside → Scanned
scanned s = record { mode = s.mode; frames = s.frames; tick = s.tick }
