-- What a sink answers to the bytes that it is asked, ask by ask: this project's own.
use Rattle.std.specs.Prelude.{ℕ, ◌+◌, ◌%◌, Bool, nat_lt, if◌then◌else◌, List, [], ◌∷◌, ◌++◌, length, map, take}
use Rattle.std.specs.Prelude.{replicate, Result, Ok, Err}
use Rattle.std.specs.List.{scan}
use Rattle.dpx_base.specs.declared.aux_port.Answer.{Answer}
use Rattle.dpx_base.specs.declared.aux_port.Answer.TheVariants.{Silent, Bytes}
use Rattle.dpx_aux.specs.declared.request.AuxBad.{AuxBad}
use Rattle.dpx_aux.specs.declared.request.Request.{Request}
use Rattle.dpx_aux.specs.Request.{read_request}
use Rattle.dpx_dpcd.specs.declared.plan.SinkPlan.{SinkPlan}
use Rattle.dpx_dpcd.specs.declared.plan.SinkPlan.TheVariants.{Script, Model}
use Rattle.dpx_dpcd.specs.RegFile.{SinkFacts, brought, registers_after}

-- a modelled sink between two asks: how many requests it has got, and what was written to it
pub record SinkState : Type 0 where
  pub requests : ℕ
  pub registers : ℕ → ℕ

-- a sink that was not asked yet: its registers are 00
abbrev pub new_sink : SinkState
new_sink = record { requests = 0; registers = λ address. 0 }

-- Of defers + 1 requests the last is answered, those before are deferred. Requests are counted from 0.
abbrev pub is_deferred : ℕ → ℕ → Bool
is_deferred defers count = nat_lt (count % (defers + 1)) defers

-- 20 defers; 00 acknowledges, with what a read brings; bytes that are no request get no answer
unfoldable pub sink_answer : SinkFacts → ℕ → SinkState → Result Request AuxBad → Answer
sink_answer sink defers state (Err bad) = Silent
sink_answer sink defers state (Ok request) =
    if is_deferred defers state.requests then Bytes (0x20 ∷ [])
    else Bytes (0x00 ∷ brought sink state.registers request)

-- A request that is deferred is counted and changes no register; bytes that are no request change nothing.
unfoldable pub after_request : ℕ → SinkState → Result Request AuxBad → SinkState
after_request defers state (Err bad) = state
after_request defers state (Ok request) = record {
  requests = state.requests + 1;
  registers = if is_deferred defers state.requests then state.registers else registers_after request state.registers;
}

-- what a modelled sink that stands so answers to these bytes, ask by ask
abbrev pub sink_answers : SinkFacts → ℕ → SinkState → List (List ℕ) → List Answer
sink_answers sink defers state requests =
    scan (after_request defers) (sink_answer sink defers) state (map read_request requests)

-- a script's answers, and silence behind them
abbrev pub script_answers : List Answer → List (List ℕ) → List Answer
script_answers answers requests = take (length requests) (answers ++ replicate (length requests) Silent)

-- what a plan answers to these bytes, ask by ask
abbrev pub planned : SinkPlan → List (List ℕ) → List Answer
planned (Script answers) requests = script_answers answers requests
planned (Model caps extended defers channel) requests =
    sink_answers (record { caps = caps; extended = extended; channel = channel }) defers new_sink requests
