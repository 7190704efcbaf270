-- What contracts see of a beam's fields.
use Rattle.dpx_base.specs.declared.beam.Beam.TheInside.{Inside}
use Rattle.dpx_base.specs.Scan.{Beaming}

abbrev pub beaming : Inside → Beaming
beaming b = record {
  shown = record { mode = b.mode; link = b.link; frames = b.frames };
  clock = b.clock;
}
