-- The lines of a supervisor's report: this project's own. Each ends with one line feed.
use Rattle.std.specs.Prelude.{ℕ, ◌+◌, Bool, if◌then◌else◌, List, [], ◌∷◌, ◌++◌, codes}
use Rattle.std.specs.Fmt.{decimal}
use Rattle.dpx_base.specs.declared.link.Link.{Link}
use Rattle.dpx_base.specs.declared.port_event.PortEvent.{PortEvent}
use Rattle.dpx_base.specs.declared.port_event.PortEvent.TheVariants.{Plug, Interrupt, Loss, Resume}
use Rattle.dpx_base.specs.Lanes.{lanes_count}
use Rattle.dpx_base.specs.Port.{asks}
use Rattle.dpx_base.specs.Rate.{rate_name}
use Rattle.dpx_watch.specs.declared.outcome.Outcome.{Outcome}
use Rattle.dpx_watch.specs.declared.outcome.Outcome.TheVariants as outcome
use Rattle.dpx_watch.specs.declared.state.WatchState.{WatchState}
use Rattle.dpx_watch.specs.Laws.{Taken}
use Rattle.dpx_watch.specs.State.{state_after, is_up}
use Rattle.dpx_cli.specs.SendLines.{named}

abbrev pub event_word : PortEvent → List ℕ
event_word Plug = codes "plug"
event_word Interrupt = codes "interrupt"
event_word Loss = codes "loss"
event_word Resume = codes "resume"

unfoldable pub trained_text : Link → List ℕ
trained_text link = codes "trained " ++ rate_name link.rate ++ codes " " ++ decimal (lanes_count link.lanes)

abbrev pub outcome_text : Outcome → List ℕ
outcome_text outcome.Nothing = codes "nothing"
outcome_text (outcome.Kept last) = codes "kept"
outcome_text (outcome.Trained link drive last) = trained_text link
outcome_text (outcome.NotTrained last) = codes "not trained"
outcome_text (outcome.CapsRefused why) = codes "caps refused"
outcome_text (outcome.AuxEnded why) = codes "aux ended"
outcome_text outcome.Unplugged = codes "unplugged"

abbrev pub frames_text : Bool → List ℕ
frames_text allowed = if allowed then codes " frames yes\n" else codes " frames no\n"

-- the event of this number: what it came to, how many requests were asked, and whether frames are allowed behind it
unfoldable pub event_line : ℕ → PortEvent → Outcome → ℕ → Bool → List ℕ
event_line number event outcome requests allowed =
    named (codes "event ") number ++ codes " " ++ event_word event ++ codes " " ++ outcome_text outcome
    ++ named (codes " requests ") requests ++ frames_text allowed

-- a line for each event, from this number and this state on
unfoldable pub watch_lines : ℕ → WatchState → List Taken → List ℕ
watch_lines number state [] = []
watch_lines number state (taken ∷ rest) =
    event_line number taken.event taken.outcome (asks taken.history) (is_up (state_after state taken.outcome))
    ++ watch_lines (number + 1) (state_after state taken.outcome) rest
