use Rattle.std.proofs.Common.{◌≡◌, ◌≤◌, ◌+◌, ◌++◌, ℕ, List, length, sym, ap, arith, ◌∙◌, take}
use Rattle.std.proofs.lemmas.List.{append-nil}
use Rattle.dpx_buffer.specs.Lane.{ring_capacity}
use Rattle.dpx_buffer.proofs.Ring.{taken_all, finish_few}
use Rattle.dpx_buffer.proofs.lane.Lane.finish_line.Goals as goal

pub returns-clause-packs : goal.returns-clause-packs
returns-clause-packs g c =
    let old : List ℕ = c.self.inside.waiting.items in
    let bytes : List ℕ = c.finish_line-bytes.result.items in
    let few : length old + length bytes ≤ ring_capacity =
    finish_few c.self.inside.packer bytes (length old) c.self.invariant.2
    (rw (← c.self.view_is) at c.requires.room) c.finish_line-bytes.ensures.bits in
    let taken : take c.fill_from_slice.result c.as_slice.result.now ≡ bytes =
    taken_all c.fill_from_slice.result c.self.inside.waiting.capacity old c.as_slice.result.now bytes
    c.fill_from_slice.ensures.count c.self.invariant.0 c.as_slice.ensures.value few in
    rw (← c.self.view_is, c.fill_from_slice.ensures.items)
    (record {
      bytes = bytes;
      small = c.finish_line-bytes.ensures.bytes;
      waiting = ap (λ xs. old ++ xs) taken;
      bits = rw c.finish_line-bytes.ensures.empty (c.finish_line-bytes.ensures.bits ∙ sym (append-nil _));
      short = rw c.finish_line-bytes.ensures.empty (omega arith);
    })
