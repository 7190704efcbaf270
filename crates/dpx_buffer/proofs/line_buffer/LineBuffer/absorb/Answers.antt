use Rattle.std.proofs.Common.{◌≡◌, ◌+◌, ◌-◌, ℕ, length, refl, arith, ◌∙◌}
use Rattle.std.proofs.lemmas.List.{append-nil, take_all}
use Rattle.dpx_base.specs.Mode.{depth_bits}
use Rattle.dpx_base.specs.Unpacking.{InRange}
use Rattle.dpx_timing.proofs.Sizes.{plan_possible}
use Rattle.dpx_buffer.proofs.Taken.{one_more_taken, pixel_in}
use Rattle.dpx_buffer.proofs.Shift.{first_room, room_left, room_seen}
use Rattle.dpx_buffer.proofs.line_buffer.LineBuffer.absorb.Goals as goal

pub loop-place-init : goal.loop-place-init
loop-place-init c =
    let e : length c.args.arrivals.now - 0 ≡ length c.args.arrivals.now = omega arith in
    record {
      plan = refl;
      room = λ pixels taken h.
          rw e (room_seen c.args.self.now pixels taken (length c.args.arrivals.now)
          (plan_possible _ c.reached.ensures.planned) h c.requires.room);
      holds = λ pixels taken h. rw append-nil h;
    }

pub absorb_one-requires-clause-range : goal.absorb_one-requires-clause-range
absorb_one-requires-clause-range c =
    rw c.loop-place.invariant.plan (pixel_in (InRange (depth_bits c.args.self.now.plan.mode.depth)) c.args.arrivals.now
    c.loop-place.place c.get.result c.requires.range
    c.get.ensures)

pub absorb_one-requires-clause-room : goal.absorb_one-requires-clause-room
absorb_one-requires-clause-room c =
    first_room c.loop-place.self (length c.args.arrivals.now - c.loop-place.place) c.reached-in-loop-place.ensures
    (omega (arith, c.loop-place-test.true, c.len-place-end.ensures.length)) c.loop-place.invariant.room

pub loop-place-preserved : goal.loop-place-preserved
loop-place-preserved c =
    let left : ℕ = length c.args.arrivals.now - c.loop-place.place in
    let e : length c.args.arrivals.now - (c.loop-place.place + 1) ≡ left - 1 = omega arith in
    record {
      plan = c.absorb_one.ensures.plan ∙ c.loop-place.invariant.plan;
      room = rw e (room_left c.loop-place.self c.absorb_one.new.self c.get.result left
          c.reached-in-loop-place.ensures c.absorb_one.ensures.plan
          (omega (arith, c.loop-place-test.true, c.len-place-end.ensures.length)) c.loop-place.invariant.room
          c.absorb_one.ensures.holds);
      holds = λ pixels taken h.
          rw (one_more_taken c.args.arrivals.now pixels c.loop-place.place c.get.result c.get.ensures)
          (c.absorb_one.ensures.holds _ _ (c.loop-place.invariant.holds pixels taken h));
    }

pub returns-clause-holds : goal.returns-clause-holds
returns-clause-holds c = λ pixels taken h.
    rw (take_all c.loop-place.place c.args.arrivals.now
    (omega (arith, c.loop-place-test.false, c.len-place-end.ensures.length)))
    at (c.loop-place.invariant.holds pixels taken h)
