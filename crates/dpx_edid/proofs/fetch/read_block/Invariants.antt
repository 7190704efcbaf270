use Rattle.std.proofs.Common.{◌-◌, length}
use Rattle.dpx_edid.proofs.Reading.{ReadSoFar}
use Rattle.dpx_edid.proofs.fetch.read_block.Given as goal

abbrev pub invariant-loop-port : goal.invariant-loop-port
invariant-loop-port g l = ReadSoFar l.got.items (g.P.AuxPort.state l.fn.port) (g.P.AuxPort.state l.port)

abbrev pub decreases-loop-port : goal.decreases-loop-port
decreases-loop-port g l = 128 - length l.got.items
