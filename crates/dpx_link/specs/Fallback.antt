-- Which configuration is tried next: this project's own order. Lanes never rise, and with equal lanes the rate falls.
use Rattle.std.specs.Prelude.{◌≡◌, ℕ, ◌<◌, ◌≤◌, Option, Some, None, ⊤}
use Rattle.dpx_base.specs.declared.rate.Rate.{Rate}
use Rattle.dpx_base.specs.declared.rate.Rate.TheVariants.{Rbr, Hbr, Hbr2, Hbr3}
use Rattle.dpx_base.specs.declared.lanes.Lanes.{Lanes}
use Rattle.dpx_base.specs.declared.lanes.Lanes.TheVariants.{One, Two, Four}
use Rattle.dpx_base.specs.declared.link.Link.{Link}
use Rattle.dpx_dpcd.specs.declared.status.Status6.{Status6}
use Rattle.dpx_link.specs.declared.attempt.AttemptEnd.{AttemptEnd}
use Rattle.dpx_link.specs.declared.attempt.AttemptEnd.TheVariants.{Done, Unrecovered, Unequalised}
use Rattle.dpx_link.specs.declared.train_end.Verdict.TheVariants.{Trained, NotTrained}
use Rattle.dpx_link.specs.declared.fallback.Next.{Next}
use Rattle.dpx_link.specs.declared.fallback.Next.TheVariants.{Try, Stop}

-- the next lower rate
abbrev pub slower_than : Rate → Option Rate
slower_than Rbr = None
slower_than Hbr = Some Rbr
slower_than Hbr2 = Some Hbr
slower_than Hbr3 = Some Hbr2

-- half the lanes
abbrev pub half_of : Lanes → Option Lanes
half_of One = None
half_of Two = Some One
half_of Four = Some Two

-- a configuration with another rate, or with other lanes
abbrev pub at_rate : Link → Option Rate → Option Link
at_rate link None = None
at_rate link (Some rate) = Some (record { rate = rate; lanes = link.lanes; enhanced = link.enhanced })

abbrev pub on_lanes : Link → Option Lanes → Option Link
on_lanes link None = None
on_lanes link (Some lanes) = Some (record { rate = link.rate; lanes = lanes; enhanced = link.enhanced })

-- the first of two that there is
abbrev pub or_else : Option Link → Option Link → Option Link
or_else (Some link) other = Some link
or_else None other = other

-- Where clock recovery failed, or was lost: the next lower rate; at RBR half the lanes, at the first rate again.
abbrev pub after_failed_recovery : Link → Link → Option Link
after_failed_recovery first link =
    or_else (at_rate link (slower_than link.rate))
    (on_lanes (record { rate = first.rate; lanes = link.lanes; enhanced = link.enhanced }) (half_of link.lanes))

-- where equalisation failed: half the lanes; on one lane the next lower rate
abbrev pub after_failed_equalisation : Link → Option Link
after_failed_equalisation link = or_else (on_lanes link (half_of link.lanes)) (at_rate link (slower_than link.rate))

-- a configuration to try, or none is left
abbrev pub fall_back : Status6 → Option Link → Next
fall_back last None = Stop (NotTrained last)
fall_back last (Some link) = Try link

-- what follows an attempt on a configuration that ended so, in a training that began with `first`
abbrev pub next_of : Link → Link → AttemptEnd → Next
next_of first link (Done drive last) = Stop (Trained link drive last)
next_of first link (Unrecovered last) = fall_back last (after_failed_recovery first link)
next_of first link (Unequalised last) = fall_back last (after_failed_equalisation link)

-- rates and lanes in their order
abbrev pub rate_rank : Rate → ℕ
rate_rank Rbr = 0
rate_rank Hbr = 1
rate_rank Hbr2 = 2
rate_rank Hbr3 = 3

abbrev pub lanes_rank : Lanes → ℕ
lanes_rank One = 0
lanes_rank Two = 1
lanes_rank Four = 2

-- lanes never rise, and with equal lanes the rate falls
abbrev pub Falls : Link → Next → Type 0
Falls link (Try next) =
    (lanes_rank next.lanes ≤ lanes_rank link.lanes)
    × (lanes_rank next.lanes ≡ lanes_rank link.lanes → rate_rank next.rate < rate_rank link.rate)
Falls link (Stop verdict) = ⊤
