-- The command `judge`: this project's own. `src` is the source of the job, `out` the sink of the report. It touches no
-- other object.
use Rattle.std.specs.Prelude.{◌≡◌, ℕ, List, length, Option, Some, None, Result, Ok, Err, ⊤}
use Rattle.dpx_base.specs.declared.aux_port.Entry.{Entry}
use Rattle.dpx_base.specs.declared.link.Link.{Link}
use Rattle.dpx_base.specs.Seen.{SourceSeen, SinkSeen}
use Rattle.dpx_files.specs.declared.job.Job.{Job}
use Rattle.dpx_files.specs.declared.job.Job.TheVariants as job
use Rattle.dpx_files.specs.declared.job.Need.TheVariants as need
use Rattle.dpx_files.specs.Job.{link_asked}
use Rattle.dpx_judge.specs.declared.verdict.Verdict.{Verdict}
use Rattle.dpx_judge.specs.declared.verdict.Verdict.TheVariants.{Yes, Short, Differs}
use Rattle.dpx_judge.specs.Transcript.{IsVerdict}
use Rattle.dpx_cli.specs.declared.stop.Stop.{Stop}
use Rattle.dpx_cli.specs.declared.stop.Stop.TheVariants as stop
use Rattle.dpx_cli.specs.Jobs.{HasJob}
use Rattle.dpx_cli.specs.JudgeLines.{not_whole_line, verdict_line}
use Rattle.dpx_cli.specs.Reporting.{ReportCauses, ReportDoes}
use Rattle.dpx_cli.specs.Step.{Step}
use Rattle.dpx_cli.specs.Transfer.{Prints, PrintsFront}

-- the history that is to be judged, where there is one
abbrev pub entries_asked : Job → Option (List Entry)
entries_asked (job.Train link sink) = None
entries_asked (job.Send link shape) = None
entries_asked (job.Run link shape sink) = None
entries_asked (job.Edid sink) = None
entries_asked (job.Watch link sink events) = None
entries_asked (job.Judge link entries) = Some entries

-- 0 where the history is that of a training, else 14
abbrev pub verdict_status : Verdict → ℕ
verdict_status (Yes ending) = 0
verdict_status Short = 14
verdict_status (Differs place) = 14

-- the verdict on so many entries is printed, or stops the command
module _ (count : ℕ) (verdict : Verdict) (out : Step SinkSeen) where
  abbrev pub SaysVerdict : Result ⊤ Stop → Type 0
  SaysVerdict (Ok done) = (verdict_status verdict ≡ 0) × Prints out (verdict_line count verdict)
  SaysVerdict (Err (stop.NotWhole why)) =
      (verdict_status verdict ≡ 14) × (not_whole_line why ≡ verdict_line count verdict) × (out.now ≡ out.before)
  SaysVerdict (Err stop.OutFault) = (verdict_status verdict ≡ 0) × PrintsFront out (verdict_line count verdict)
  SaysVerdict (Err stop.NoMemory) = out.now ≡ out.before
  SaysVerdict (Err other) = ⊥

module _ (src : Step SourceSeen) where
  -- the history of the job that the source had was judged so, for trainings of its link
  pub record JobJudged (entries : List Entry) (verdict : Verdict) : Type 0 where
    pub asked : Job
    pub has : HasJob need.Judge src asked
    pub link : Link
    pub over : link_asked asked ≡ Some link
    pub told : entries_asked asked ≡ Some entries
    pub judged : IsVerdict link entries verdict

  -- the report tells the verdict, and the status is the verdict's
  pub record VerdictReported (status : ℕ) (text : List ℕ) : Type 0 where
    pub entries : List Entry
    pub verdict : Verdict
    pub judged : JobJudged entries verdict
    pub status_is : status ≡ verdict_status verdict
    pub said : text ≡ verdict_line (length entries) verdict

  -- No other object can change, so nothing is said of them.
  abbrev pub JudgeCauses : Result ⊤ Stop → List ℕ → Type 0
  JudgeCauses = ReportCauses need.Judge src ⊤ ⊤ VerdictReported

  -- What the command does, status by status.
  abbrev pub JudgeDoes : (out : Step SinkSeen) (status : ℕ) → Type 0
  JudgeDoes = ReportDoes need.Judge src ⊤ ⊤ VerdictReported
