use Rattle.std.proofs.Common.{◌≤◌, ◌%◌, ◌+◌, arith}
use Rattle.std.proofs.lemmas.Grind.{common_steps}
use Rattle.dpx_pack.proofs.LowBits.{length-low_bits}
use Rattle.dpx_pack.proofs.Taken.{pushes}
use Rattle.dpx_pack.proofs.packer.Packer.pack.Goals as goal

pub returns-clause-left : goal.returns-clause-left
returns-clause-left g c =
    rw (length-low_bits ((c.self.inside.left + g.row.C + g.row.C + g.row.C) % 8) _) (omega arith)

pub returns-clause-bits : goal.returns-clause-bits
returns-clause-bits g c = grind (arith, common_steps)

pub returns-clause-places : goal.returns-clause-places
returns-clause-places g c pixels is =
    let some : 1 ≤ g.row.C = omega (arith, c.requires.width.0) in
    (pushes g.row.C pixels c.args.pixel _ _ _ some is
    (returns-clause-bits g c) c.of_bits.ensures.bytes (returns-clause-left g c)).bytes_are

pub returns-clause-stands : goal.returns-clause-stands
returns-clause-stands g c pixels is =
    let some : 1 ≤ g.row.C = omega (arith, c.requires.width.0) in
    (pushes g.row.C pixels c.args.pixel _ _ _ some is
    (returns-clause-bits g c) c.of_bits.ensures.bytes (returns-clause-left g c)).left_are
