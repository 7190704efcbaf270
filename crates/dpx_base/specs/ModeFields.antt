-- A mode's fields, and what contracts see of them.
use Rattle.dpx_base.specs.declared.mode.Mode.TheInside.{Inside}
use Rattle.dpx_base.specs.Mode.{ModeFacts}

abbrev pub facts_in : Inside → ModeFacts
facts_in m = record {
  width = m.width;
  height = m.height;
  htotal = m.htotal;
  vtotal = m.vtotal;
  hsw = m.hsw;
  hstart = m.hstart;
  vsw = m.vsw;
  vstart = m.vstart;
  hsp = m.hsp;
  vsp = m.vsp;
  clock_khz = m.clock_khz;
  depth = m.depth;
}

abbrev pub fields_of : ModeFacts → Inside
fields_of m = record {
  width = m.width;
  height = m.height;
  htotal = m.htotal;
  vtotal = m.vtotal;
  hsw = m.hsw;
  hstart = m.hstart;
  vsw = m.vsw;
  vstart = m.vstart;
  hsp = m.hsp;
  vsp = m.vsp;
  clock_khz = m.clock_khz;
  depth = m.depth;
}
