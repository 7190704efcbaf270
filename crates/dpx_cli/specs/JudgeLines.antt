-- The line of a judge's report: this project's own.
use Rattle.std.specs.Prelude.{ℕ, List, ◌++◌, codes}
use Rattle.dpx_judge.specs.declared.verdict.Ending.{Ending}
use Rattle.dpx_judge.specs.declared.verdict.Ending.TheVariants.{Trained, NotTrained, CapsRefused, AuxEnded}
use Rattle.dpx_judge.specs.declared.verdict.Verdict.{Verdict}
use Rattle.dpx_judge.specs.declared.verdict.Verdict.TheVariants as verdict
use Rattle.dpx_cli.specs.declared.stop.NotWhole.{NotWhole}
use Rattle.dpx_cli.specs.declared.stop.NotWhole.TheVariants.{Short, Differs}
use Rattle.dpx_cli.specs.Lines.{line_feed}
use Rattle.dpx_cli.specs.SendLines.{named}
use Rattle.dpx_cli.specs.WatchLines.{trained_text}

abbrev pub ending_text : Ending → List ℕ
ending_text (Trained link) = trained_text link
ending_text NotTrained = codes "not trained"
ending_text CapsRefused = codes "caps refused"
ending_text AuxEnded = codes "aux ended"

-- the history of a training
unfoldable pub yes_line : Ending → List ℕ
yes_line ending = codes "judge yes " ++ ending_text ending ++ line_feed

-- it breaks off; it differs
unfoldable pub short_line : ℕ → List ℕ
short_line count = named (codes "judge short after ") count ++ line_feed

unfoldable pub differs_line : ℕ → List ℕ
differs_line place = named (codes "judge differs at ") place ++ line_feed

abbrev pub not_whole_line : NotWhole → List ℕ
not_whole_line (Short count) = short_line count
not_whole_line (Differs place) = differs_line place

-- a verdict on so many entries
abbrev pub verdict_line : ℕ → Verdict → List ℕ
verdict_line count (verdict.Yes ending) = yes_line ending
verdict_line count verdict.Short = short_line count
verdict_line count (verdict.Differs place) = differs_line place
