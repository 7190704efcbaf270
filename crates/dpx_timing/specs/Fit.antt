-- Which modes fit a link: this project's own.
use Rattle.std.specs.Prelude.{ℕ, ◌+◌, ◌*◌, if◌then◌else◌, nat_lt, Option, Some, None, Result, Ok, Err}
use Rattle.dpx_base.specs.Plan.{PlanFacts, timing}
use Rattle.dpx_base.specs.Timing.{Timing, n, m, line_end, delay, gap}
use Rattle.dpx_timing.specs.declared.fitting.Unfit.{Unfit}
use Rattle.dpx_timing.specs.declared.fitting.Unfit.TheVariants.{TooFast, TooSlow, NoRoom}

-- clocks that a line needs: its symbols, the next line's delay, the longest group and block, and BE
abbrev pub room_needed : Timing → ℕ
room_needed r = line_end r + delay r + 17

-- whether lines have fewer clocks than they need
unfoldable pub no_room_of : Timing → Option Unfit
no_room_of r = if nat_lt (gap r) (room_needed r) then Some (NoRoom (gap r) (room_needed r)) else None

-- the first reason why a line does not fit
unfoldable pub unfit_of : Timing → Option Unfit
unfit_of r =
    if nat_lt (m r) (n r) then Some (TooFast (n r) (m r))
    else if nat_lt (r.unit * n r) (m r) then Some (TooSlow (n r) (m r) r.unit)
    else no_room_of r

-- the plan where there is no such reason
abbrev pub planned_unless : Option Unfit → PlanFacts → Result PlanFacts Unfit
planned_unless None p = Ok p
planned_unless (Some unfit) p = Err unfit

abbrev pub fit_of : PlanFacts → Result PlanFacts Unfit
fit_of p = planned_unless (unfit_of (timing p)) p
