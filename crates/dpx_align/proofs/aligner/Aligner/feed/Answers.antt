use Rattle.std.proofs.Common.{sym, ap, ◌∙◌, arith, refl, map, take, List, [], Some}
use Rattle.dpx_base.specs.Lanes.{lanes_count}
use Rattle.dpx_base.specs.declared.sym.Sym.{Sym}
use Rattle.dpx_align.specs.Search.{decoded}
use Rattle.dpx_align.proofs.Fed.{none_of, fed_stays, fed_none, fed_some}
use Rattle.dpx_align.proofs.Teams.{take_rows, at_most_on}
use Rattle.dpx_align.proofs.aligner.Aligner.feed.Goals as goal

pub returns-then-is_some-clause-fed : goal.returns-then-is_some-clause-fed
returns-then-is_some-clause-fed g c words plain w = (
  [],
  fed_stays c.args.self.now _ words c.args.rows.now.rows plain c.len-next.result refl refl refl refl
      (sym c.is_some.ensures ∙ c.if-is_some.true) (c.len-next.ensures.lanes ∙ ap lanes_count c.requires.lanes)
      (λ j l. c.len-next.ensures.even j (omega (arith, l, c.len-next.ensures.lanes)) ∙ sym c.len-next.ensures.value) w,
)

pub run-requires-clause-takes : goal.run-requires-clause-takes
run-requires-clause-takes g c κs within =
    take_rows c.args.self.now.team.states c.args.rows.now.rows c.args.self.now.clocks c.args.rows.now.clocks
    c.args.self.now.reads (λ j l. c.len-next.ensures.even j (omega (arith, l, c.len-next.ensures.lanes))) c.requires.few

pub invariant_of-self-in-None : goal.invariant_of-self-in-None
invariant_of-self-in-None g c = record {
  lanes = c.take.ensures.lanes ∙ (c.args.self.now.lanes ∙ sym (ap lanes_count c.run.ensures.lanes));
  taken =
      omega (
        arith,
        c.take.ensures.taken,
        c.args.self.now.taken,
        c.len.ensures.value,
        c.run.ensures.clocks,
        c.len-next.ensures.value,
      );
  few = omega (arith, c.requires.few, c.len-next.ensures.value);
  reads = λ j s k.
      let most =
      at_most_on c.args.self.now.team.states c.args.rows.now.rows c.run.new.self.states c.run.new.rows.rows
      c.args.self.now.clocks c.args.rows.now.clocks c.run.ensures.does c.args.self.now.reads
      (λ i l. c.len-next.ensures.even i (omega (arith, l, c.len-next.ensures.lanes))) j s k in
      omega (arith, most, c.len-next.ensures.value);
}

pub invariant_of-self-in-Some : goal.invariant_of-self-in-Some
invariant_of-self-in-Some g c = record {
  lanes = c.take-in-Some.ensures.lanes ∙ (c.args.self.now.lanes ∙ sym (ap lanes_count c.run.ensures.lanes));
  taken =
      omega (
        arith,
        c.take-in-Some.ensures.taken,
        c.args.self.now.taken,
        c.clocks_before-count.ensures,
        c.len-in-Some.ensures.value,
        c.run.ensures.clocks,
        c.len-next.ensures.value,
      );
  few = omega (arith, c.requires.few, c.len-next.ensures.value);
  reads = λ j s k.
      let most =
      at_most_on c.args.self.now.team.states c.args.rows.now.rows c.run.new.self.states c.run.new.rows.rows
      c.args.self.now.clocks c.args.rows.now.clocks c.run.ensures.does c.args.self.now.reads
      (λ i l. c.len-next.ensures.even i (omega (arith, l, c.len-next.ensures.lanes))) j s k in
      omega (arith, most, c.len-next.ensures.value);
}

pub returns-in-None-clause-fed : goal.returns-in-None-clause-fed
returns-in-None-clause-fed g c words plain w =
    let outs = c.run.new.rows.rows in
    let next = c.len-next.result in
    let count = c.len.result in (
      map (λ (row : List Sym). take count row) (decoded outs),
      fed_none c.args.self.now _ words c.args.rows.now.rows outs plain next count c.run.ensures.lanes refl
          (none_of c.args.self.now.bad (sym c.is_some.ensures ∙ c.if-is_some.false)) refl
          (c.len.ensures.value ∙ (c.run.ensures.clocks ∙ sym c.len-next.ensures.value)) c.run.ensures.does
          (c.len-next.ensures.lanes ∙ ap lanes_count c.requires.lanes)
          (λ j l. c.len-next.ensures.even j (omega (arith, l, c.len-next.ensures.lanes)) ∙ sym c.len-next.ensures.value)
          c.in-None.ensures (c.take.ensures.state plain w.taken) w,
    )

pub returns-in-Some-clause-fed : goal.returns-in-Some-clause-fed
returns-in-Some-clause-fed g c words plain w =
    let outs = c.run.new.rows.rows in
    let next = c.len-next.result in
    let count = c.clocks_before-count.result in (
      map (λ (row : List Sym). take count row) (decoded outs),
      fed_some c.args.self.now _ words c.args.rows.now.rows outs plain next c.len-in-Some.result count c.in-Some.lane
          c.in-Some.fault c.run.ensures.lanes (ap Some c.align_bad.ensures)
          (none_of c.args.self.now.bad (sym c.is_some.ensures ∙ c.if-is_some.false)) refl
          (c.len-in-Some.ensures.value ∙ (c.run.ensures.clocks ∙ sym c.len-next.ensures.value))
          c.clocks_before-count.ensures c.run.ensures.does (c.len-next.ensures.lanes ∙ ap lanes_count c.requires.lanes)
          (λ j l. c.len-next.ensures.even j (omega (arith, l, c.len-next.ensures.lanes)) ∙ sym c.len-next.ensures.value)
          c.in-Some.ensures (c.take-in-Some.ensures.state plain w.taken) w,
    )
