use Rattle.std.proofs.Common.{ap, arith, ◌∙◌}
use Rattle.dpx_base.specs.Mode.{ModeFacts}
use Rattle.dpx_source.specs.Inside.{state_of}
use Rattle.dpx_source.proofs.Absorbs.{absorbing, absorbs_range, absorbs_room, absorbs_stands, absorbs_ticker, given_now}
use Rattle.dpx_source.proofs.ticker.Ticker.absorb.Goals as goal

pub absorb-requires-clause-range : goal.absorb-requires-clause-range
absorb-requires-clause-range c =
    let a = c.self.inside in
    absorbs_range (state_of a) c.args.arrivals.now c.depth.result a.absorbed c.first_bad.result c.self.invariant.ticker
    (c.depth.ensures.value ∙ ap (λ (m : ModeFacts). m.depth) c.mode.ensures.value) c.first_bad.ensures
    c.in_default-first_bad.is

pub absorb-requires-clause-room : goal.absorb-requires-clause-room
absorb-requires-clause-room c =
    let a = c.self.inside in
    let absorbs =
    absorbing a c.args.self.now c.args.arrivals.now c.self.view_is c.self.invariant c.in_default.is c.requires.given
    c.requires.arrivals in
    absorbs_room (state_of a) c.args.arrivals.now absorbs

pub invariant_of-self-2 : goal.invariant_of-self-2
invariant_of-self-2 c =
    let a = c.self.inside in
    let absorbs =
    absorbing a c.args.self.now c.args.arrivals.now c.self.view_is c.self.invariant c.in_default.is c.requires.given
    c.requires.arrivals in
    rw c.len.ensures.length
    (record {
      ticker = absorbs_ticker (state_of a) c.args.arrivals.now c.absorb.new.self absorbs
          (omega (arith, c.len.ensures.length, c.len.ensures.few)) c.absorb.ensures.plan c.absorb.ensures.holds;
      schedule = c.self.invariant.schedule
          ∙ ap (λ z. record { plan = a.plan; clock = z }) (given_now (state_of a) absorbs.given);
      framing = c.self.invariant.framing;
    })

pub returns-clause-stands : goal.returns-clause-stands
returns-clause-stands c = λ pixels h.
    let a = c.self.inside in
    let absorbs =
    absorbing a c.args.self.now c.args.arrivals.now c.self.view_is c.self.invariant c.in_default.is c.requires.given
    c.requires.arrivals in
    rw c.len.ensures.length
    (absorbs_stands (state_of a) c.args.arrivals.now pixels c.absorb.new.self absorbs c.absorb.ensures.plan
    c.absorb.ensures.holds (rw c.self.view_is h))
