use Rattle.dpx_base.specs.Plan.{PlanFacts, IsPlan, clocks}
use Rattle.dpx_timing.proofs.Holds.{schedule}
use Rattle.dpx_timing.proofs.numbers.Numbers.plan.Goals as goal

abbrev facts : goal.After-clocks → PlanFacts
facts c = record { mode = c.args.mode.now; link = c.args.link; unit = c.args.unit; frames = c.args.frames }

planned : (c : goal.After-clocks) → IsPlan (facts c)
planned c = record {
  mode = c.vtotal.ensures.legal;
  unit = c.requires.unit;
  frames = c.requires.frames;
  fits = rw c.requires.same at c.requires.fits;
}

pub invariant_of-result : goal.invariant_of-result
unfolding clocks
invariant_of-result c = record {
  planned = planned c;
  symbols_is = rw c.requires.same at c.symbols.ensures.value;
  n_is = rw c.requires.same at c.n.ensures.value;
  m_is = rw c.requires.same at c.m.ensures.value;
  delay_is = rw c.requires.same at c.delay.ensures.value;
  line_end_is = rw c.requires.same at c.line_end.ensures.value;
  bound_is = rw c.requires.same at c.bound.ensures.value;
  clocks_small = c.clocks.ensures.small;
  bound_small = c.bound.ensures.small;
  clocks_is = rw (c.requires.same, c.from.ensures, c.from-2.ensures, c.vtotal.ensures.value) at c.clocks.ensures.value;
}

pub returns-clause-planned : goal.returns-clause-planned
returns-clause-planned c = planned c

pub returns-clause-schedule : goal.returns-clause-schedule
returns-clause-schedule c = schedule (facts c) (planned c)
