-- What the machine does with a set.
use Rattle.std.specs.Prelude.{◌/◌, Bool, List, Option, Some, None, Result, Ok, Err}
use Rattle.dpx_base.specs.declared.lanes.Lanes.{Lanes}
use Rattle.dpx_base.specs.declared.sym.Sym.{Sym}
use Rattle.dpx_base.specs.Lanes.{lanes_count}
use Rattle.dpx_parse.specs.declared.bad.ParseWhy.{ParseWhy}
use Rattle.dpx_parse.specs.declared.bad.ParseWhy.TheVariants.{Mixed}
use Rattle.dpx_parse.specs.declared.machine.Core.{Core}
use Rattle.dpx_parse.specs.declared.event.Event.{Event}
use Rattle.dpx_parse.specs.declared.kind.Kind.{Kind}
use Rattle.dpx_parse.specs.declared.state.State.{State}
use Rattle.dpx_parse.specs.declared.state.State.TheVariants.{Start}
use Rattle.dpx_parse.specs.declared.state.Mark.{Mark}
use Rattle.dpx_base.specs.Symbols.{bytes_of}
use Rattle.dpx_parse.specs.Kind.{kind_of}
use Rattle.dpx_parse.specs.State.{next, unframed, open_after}
use Rattle.dpx_parse.specs.Counts.{no_counts, after, fault_by, event_by}

abbrev pub new_core : Lanes → Bool → Core
new_core lanes enhanced = record { lanes = lanes; enhanced = enhanced; state = Start; counts = no_counts; unended = 0 }

pub record Taken : Type 0 where
  pub core : Core
  pub event : Event

abbrev pub by_fault : Core → List Sym → Mark → State → Option ParseWhy → Result Taken ParseWhy
by_fault c set mark state (Some why) = Err why
by_fault c set mark state None = Ok (record {
  core = record c {
    state = state;
    counts = after (lanes_count c.lanes) c.counts mark (bytes_of set);
    unended =
        open_after state c.unended;
  };
  event = event_by (lanes_count c.lanes) c.counts mark (bytes_of set);
})

abbrev pub by_next : Core → List Sym → Kind → Option (Mark × State) → Result Taken ParseWhy
by_next c set kind None = Err (unframed c.state kind)
by_next c set kind (Some to) = by_fault c set to.0 to.1 (fault_by (lanes_count c.lanes) c.counts to.0 (bytes_of set))

abbrev pub by_kind : Core → List Sym → Option Kind → Result Taken ParseWhy
by_kind c set None = Err Mixed
by_kind c set (Some kind) = by_next c set kind
    (next c.enhanced (12 / lanes_count c.lanes) (36 / lanes_count c.lanes) c.state kind)

abbrev pub taken_by : Core → List Sym → Result Taken ParseWhy
taken_by c set = by_kind c set (kind_of set)
