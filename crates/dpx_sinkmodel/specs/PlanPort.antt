-- What contracts see of a port that is loaded with a plan: this project's own.
use Rattle.std.specs.Prelude.{ℕ, ◌+◌, ◌-◌, List, length, Some}
use Rattle.dpx_base.specs.declared.aux_port.Answer.{Answer}
use Rattle.dpx_base.specs.declared.aux_port.Entry.{Entry}
use Rattle.dpx_base.specs.Port.{PortState}
use Rattle.dpx_dpcd.specs.declared.plan.SinkPlan.{SinkPlan}
use Rattle.dpx_sinkmodel.specs.declared.plan_port.PlanPort.{PlanPort}
use Rattle.dpx_sinkmodel.specs.Loaded.{plan_loaded, answers_next}
use Rattle.dpx_sinkmodel.specs.History.{told_while, entries_at_most}

-- its plan is always told
abbrev pub state_of : PlanPort → PortState SinkPlan
state_of port = record {
  asked = port.asked;
  history = told_while port.kept port.entries.items;
  plan = Some (plan_loaded port.loaded);
  room = entries_at_most - length port.entries.items;
  asked_in_all = port.asked_before + port.asked;
}

-- the entries that it keeps
abbrev pub entries_of : PlanPort → List Entry
entries_of port = port.entries.items

-- what it answers to the bytes that come next, ask by ask
abbrev pub answers_to : PlanPort → List (List ℕ) → List Answer
answers_to port bytes = answers_next port.loaded bytes
