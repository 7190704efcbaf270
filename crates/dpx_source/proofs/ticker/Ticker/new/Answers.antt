use Rattle.dpx_source.proofs.News.{new_stands, new_ticker}
use Rattle.dpx_source.proofs.ticker.Ticker.new.Goals as goal

pub invariant_of-result : goal.invariant_of-result
invariant_of-result c = record {
  ticker = new_ticker c.args.plan.now c.in_ok-buffer.buffer c.clocks-clocks.ensures.planned c.in_ok-buffer.ensures.plan
      c.in_ok-buffer.ensures.holds (rw c.clocks-clocks.ensures.value at c.clocks-clocks.ensures.small);
  schedule = c.new-2.ensures;
  framing = c.new-3.ensures;
}

pub returns-clause-stands : goal.returns-clause-stands
returns-clause-stands c =
    new_stands c.args.plan.now c.in_ok-buffer.buffer c.clocks-clocks.ensures.planned c.in_ok-buffer.ensures.plan
    c.in_ok-buffer.ensures.holds
