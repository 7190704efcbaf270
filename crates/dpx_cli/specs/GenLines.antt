-- The lines of a report on generated frames: this project's own. Each ends with one line feed.
use Rattle.std.specs.Prelude.{ℕ, ◌+◌, ◌/◌, ◌%◌, List, ◌++◌, codes}
use Rattle.dpx_base.specs.Plan.{PlanFacts}
use Rattle.dpx_sink.specs.declared.finish_end.Received.{Received}
use Rattle.dpx_source.specs.Drive.{pixel_count}
use Rattle.dpx_cli.specs.Lines.{line_feed}
use Rattle.dpx_cli.specs.RecvLines.{received_line}
use Rattle.dpx_cli.specs.SendLines.{named, plan_line, sent_line}

-- the number, which of the four shapes it gives, and in how many frames
unfoldable pub gen_line : ℕ → List ℕ
gen_line seed =
    named (codes "gen seed ") seed ++ named (codes " mode ") (seed % 4) ++ named (codes " frames ") (1 + seed / 4 % 2)
    ++ line_feed

-- how many pixels there are, and how many of them came back as they were
unfoldable pub equal_line : (count equal : ℕ) → List ℕ
equal_line count equal = named (codes "pixels ") count ++ named (codes " equal ") equal ++ line_feed

-- what is reported of a number's frames: their plan, what was sent, what was received, and how much of it is equal
unfoldable pub gen_lines : (seed : ℕ) → PlanFacts → Received → (equal : ℕ) → List ℕ
gen_lines seed p received equal =
    gen_line seed ++ plan_line p ++ sent_line p ++ received_line received ++ equal_line (pixel_count p) equal
