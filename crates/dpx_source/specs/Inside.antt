-- How a ticker keeps what is seen of it.
use Rattle.std.specs.Prelude.{◌≡◌}
use Rattle.dpx_source.specs.declared.ticker.Ticker.TheInside.{Inside}
use Rattle.dpx_source.specs.Framing.{IsFraming}
use Rattle.dpx_source.specs.Ticker.{TickerState, IsTicker, sets_given}

abbrev pub state_of : Inside → TickerState
state_of a = record {
  plan = a.plan;
  clock = a.clock;
  given = a.given;
  absorbed = a.absorbed;
  buffer = a.buffer;
  refusal = a.refusal;
}

pub record IsInside (a : Inside) : Type 0 where
  pub ticker : IsTicker (state_of a)
  pub schedule : a.schedule ≡ record { plan = a.plan; clock = sets_given (state_of a) }
  pub framing : IsFraming a.plan a.framing
