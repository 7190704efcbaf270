use Rattle.std.proofs.Common.{◌∙◌, length, ap, arith, length-append}
use Rattle.dpx_buffer.proofs.Ring.{push_few}
use Rattle.dpx_buffer.proofs.lane.Lane.push.Goals as goal

pub put_behind-requires : goal.put_behind-requires
put_behind-requires g c =
    omega (
      arith,
      c.self.invariant.0,
      push_few g.row.C c.args.pixel c.self.inside.packer c.pack-bytes.new.self c.pack-bytes.result
          (length c.self.inside.waiting.items) (rw (← c.self.view_is) at c.requires.room) c.pack-bytes.ensures.bits,
    )

pub invariant_of-self : goal.invariant_of-self
invariant_of-self g c =
    let few = push_few g.row.C c.args.pixel c.self.inside.packer c.pack-bytes.new.self c.pack-bytes.result
    (length c.self.inside.waiting.items) (rw (← c.self.view_is) at c.requires.room) c.pack-bytes.ensures.bits in (
      ap (λ b. b.capacity) c.put_behind.ensures ∙ c.self.invariant.0,
      omega (
        arith,
        few,
        ap (λ b. length b.items) c.put_behind.ensures,
        length-append c.self.inside.waiting.items c.pack-bytes.result,
      ),
      c.pack-bytes.ensures.left,
    )
