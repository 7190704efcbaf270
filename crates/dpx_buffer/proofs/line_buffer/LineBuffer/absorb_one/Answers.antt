use Rattle.std.proofs.Common.{◌+◌, ◌++◌, ◌∙◌, [], ◌∷◌, length, arith, ap, length-append}
use Rattle.dpx_base.specs.Lanes.{lanes_count}
use Rattle.dpx_buffer.specs.Inside.{state_of}
use Rattle.dpx_buffer.specs.Seen.{lanes_in}
use Rattle.dpx_buffer.proofs.Room.{has_room, holds_inside, push_range, line_room, finish_room, group_room}
use Rattle.dpx_buffer.proofs.Room.{inside_line, full_group}
use Rattle.dpx_buffer.proofs.Ways.{TakesOn, stays_open, packs_group, ends_line}
use Rattle.dpx_buffer.proofs.line_buffer.LineBuffer.absorb_one.Goals as goal

-- The line ends.

pub push_group-requires-clause-room : goal.push_group-requires-clause-room
push_group-requires-clause-room c =
    rw c.self.invariant.depth (line_room (state_of c.self.inside) c.args.pixel
    (has_room c.self.view_is c.self.invariant.reached c.requires.range c.requires.room)
    (c.if-column-width.true ∙ (c.width.ensures.value ∙ ap (λ m. m.width) c.mode.ensures.value)))

pub finish_lines-requires : goal.finish_lines-requires
finish_lines-requires c =
    finish_room (state_of c.self.inside) c.args.pixel (lanes_in c.push_group.new.self)
    (has_room c.self.view_is c.self.invariant.reached c.requires.range c.requires.room)
    (c.if-column-width.true ∙ (c.width.ensures.value ∙ ap (λ m. m.width) c.mode.ensures.value))
    c.push_group.ensures.count (rw (c.push.ensures, c.self.invariant.depth) at c.push_group.ensures.each)

ended : (c : goal.After-self-1) → TakesOn (state_of c.self.inside) c.args.pixel
    (record (state_of c.self.inside) { lanes = lanes_in c.finish_lines.new.self; group = []; column = 0 })
ended c =
    ends_line (state_of c.self.inside) c.args.pixel (lanes_in c.push_group.new.self)
    (lanes_in c.finish_lines.new.self)
    (has_room c.self.view_is c.self.invariant.reached c.requires.range c.requires.room)
    (c.if-column-width.true ∙ (c.width.ensures.value ∙ ap (λ m. m.width) c.mode.ensures.value))
    c.push_group.ensures.count (rw (c.push.ensures, c.self.invariant.depth) at c.push_group.ensures.each)
    c.finish_lines.ensures.count c.finish_lines.ensures.each

pub invariant_of-self : goal.invariant_of-self
invariant_of-self c = record {
  depth = c.finish_lines.ensures.depth ∙ (c.push_group.ensures.depth ∙ c.self.invariant.depth);
  reached = rw c.clear.ensures (ended c).reached;
}

pub returns-then-column-width-clause-holds : goal.returns-then-column-width-clause-holds
returns-then-column-width-clause-holds c = λ pixels taken h.
    rw c.clear.ensures ((ended c).holds pixels taken (holds_inside c.self.view_is h))

-- The group stays open.

opened : (c : goal.Then-len-from) → TakesOn (state_of c.self.inside) c.args.pixel
    (record (state_of c.self.inside) {
      group = c.self.inside.group ++ c.args.pixel ∷ [];
      column = c.self.inside.column + 1;
    })
opened c =
    stays_open (state_of c.self.inside) c.args.pixel
    (has_room c.self.view_is c.self.invariant.reached c.requires.range c.requires.room)
    (inside_line (state_of c.self.inside) c.width.result c.self.invariant.reached
    (c.width.ensures.value ∙ ap (λ m. m.width) c.mode.ensures.value) c.if-column-width.false)
    (omega (
      arith,
      c.if-len-from.true,
      c.len.ensures.length,
      c.from.ensures,
      c.count.ensures,
      ap (λ link. lanes_count link.lanes) c.link.ensures,
      ap length c.push.ensures,
      length-append c.self.inside.group (c.args.pixel ∷ []),
    ))

pub invariant_of-self-then-len-from : goal.invariant_of-self-then-len-from
invariant_of-self-then-len-from c = record {
  depth = c.self.invariant.depth;
  reached = rw c.push.ensures (opened c).reached;
}

pub returns-then-len-from-clause-holds : goal.returns-then-len-from-clause-holds
returns-then-len-from-clause-holds c = λ pixels taken h.
    rw c.push.ensures ((opened c).holds pixels taken (holds_inside c.self.view_is h))

-- The group is packed.

pub push_group-requires-2-clause-range : goal.push_group-requires-2-clause-range
push_group-requires-2-clause-range c =
    rw (c.push.ensures, c.self.invariant.depth) (push_range (state_of c.self.inside) c.args.pixel
    (has_room c.self.view_is c.self.invariant.reached c.requires.range c.requires.room))

pub push_group-requires-2-clause-room : goal.push_group-requires-2-clause-room
push_group-requires-2-clause-room c =
    rw c.self.invariant.depth (group_room (state_of c.self.inside) c.args.pixel
    (has_room c.self.view_is c.self.invariant.reached c.requires.range c.requires.room)
    (inside_line (state_of c.self.inside) c.width.result c.self.invariant.reached
    (c.width.ensures.value ∙ ap (λ m. m.width) c.mode.ensures.value) c.if-column-width.false)
    (full_group (state_of c.self.inside) c.self.invariant.reached (omega (
      arith,
      c.if-len-from.false,
      c.len.ensures.length,
      c.from.ensures,
      c.count.ensures,
      ap (λ link. lanes_count link.lanes) c.link.ensures,
      ap length c.push.ensures,
      length-append c.self.inside.group (c.args.pixel ∷ []),
    ))))

full : (c : goal.After-clear-2) → TakesOn (state_of c.self.inside) c.args.pixel
    (record (state_of c.self.inside) {
      lanes = lanes_in c.push_group-2.new.self;
      group = [];
      column = c.self.inside.column + 1;
    })
full c =
    packs_group (state_of c.self.inside) c.args.pixel (lanes_in c.push_group-2.new.self)
    (has_room c.self.view_is c.self.invariant.reached c.requires.range c.requires.room)
    (inside_line (state_of c.self.inside) c.width.result c.self.invariant.reached
    (c.width.ensures.value ∙ ap (λ m. m.width) c.mode.ensures.value) c.if-column-width.false)
    (full_group (state_of c.self.inside) c.self.invariant.reached (omega (
      arith,
      c.if-len-from.false,
      c.len.ensures.length,
      c.from.ensures,
      c.count.ensures,
      ap (λ link. lanes_count link.lanes) c.link.ensures,
      ap length c.push.ensures,
      length-append c.self.inside.group (c.args.pixel ∷ []),
    )))
    c.push_group-2.ensures.count (rw (c.push.ensures, c.self.invariant.depth) at c.push_group-2.ensures.each)

pub invariant_of-self-2 : goal.invariant_of-self-2
invariant_of-self-2 c = record {
  depth = c.push_group-2.ensures.depth ∙ c.self.invariant.depth;
  reached = rw c.clear-2.ensures (full c).reached;
}

pub returns-clause-holds : goal.returns-clause-holds
returns-clause-holds c = λ pixels taken h.
    rw c.clear-2.ensures ((full c).holds pixels taken (holds_inside c.self.view_is h))
