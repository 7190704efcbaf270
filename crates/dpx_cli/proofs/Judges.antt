-- The command `judge` from its steps to its contract.
use Rattle.std.proofs.Common.{◌≡◌, ℕ, List, [], length, refl, sym, ap, ◌∙◌, subst, arith, inl, Option, Some, None, Result}
use Rattle.std.proofs.Common.{Ok, Err}
use Rattle.std.specs.Prelude.{⊤}
use Rattle.dpx_base.specs.declared.aux_port.Entry.{Entry}
use Rattle.dpx_base.specs.declared.link.Link.{Link}
use Rattle.dpx_base.specs.Seen.{SourceSeen, SinkSeen}
use Rattle.dpx_files.specs.declared.job.Job.{Job as AskedJob}
use Rattle.dpx_files.specs.declared.job.Job.TheVariants.{Judge as AskedOf}
use Rattle.dpx_files.specs.declared.job.Need.TheVariants as need
use Rattle.dpx_files.specs.Job.{link_asked}
use Rattle.dpx_judge.specs.declared.verdict.Verdict.{Verdict}
use Rattle.dpx_judge.specs.declared.verdict.Verdict.TheVariants.{Yes, Short, Differs}
use Rattle.dpx_judge.specs.Transcript.{IsVerdict}
use Rattle.dpx_cli.specs.declared.stop.Stop.{Stop}
use Rattle.dpx_cli.specs.declared.stop.Stop.TheVariants.{NotWhole, NoMemory, OutFault}
use Rattle.dpx_cli.specs.Jobs.{HasJob}
use Rattle.dpx_cli.specs.Judge.{JobJudged, JudgeCauses, SaysVerdict, VerdictReported, entries_asked}
use Rattle.dpx_cli.specs.Judge.{verdict_status}
use Rattle.dpx_cli.specs.JudgeLines.{verdict_line}
use Rattle.dpx_cli.specs.Printing.{StepsDo}
use Rattle.dpx_cli.specs.Step.{Step, ◌⇒◌}
use Rattle.dpx_cli.specs.Status.{IsClean}
use Rattle.dpx_cli.proofs.Printings.{prints_nothing}
use Rattle.dpx_cli.proofs.Reportings.{AreReports, not_none}

-- a verdict's status is none of the others
clean_status : (verdict : Verdict) (status : ℕ) → status ≡ verdict_status verdict
    → IsClean status × (status ≡ 3 → ⊥)
clean_status (Yes ending) status is = (
  record {
    read = λ e. omega (arith, e, is);
    written = λ e. omega (arith, e, is);
    shown = λ e. omega (arith, e, is);
    memory = λ e. omega (arith, e, is);
  },
  λ e. omega (arith, e, is),
)
clean_status Short status is = (
  record {
    read = λ e. omega (arith, e, is);
    written = λ e. omega (arith, e, is);
    shown = λ e. omega (arith, e, is);
    memory = λ e. omega (arith, e, is);
  },
  λ e. omega (arith, e, is),
)
clean_status (Differs place) status is = (
  record {
    read = λ e. omega (arith, e, is);
    written = λ e. omega (arith, e, is);
    shown = λ e. omega (arith, e, is);
    memory = λ e. omega (arith, e, is);
  },
  λ e. omega (arith, e, is),
)

pub verdicts_are_reports : (src : Step SourceSeen) → AreReports need.Judge src ⊤ (VerdictReported src)
verdicts_are_reports src = record {
  done = λ status text r. tt;
  clean = λ status text r. clean_status r.verdict status r.status_is;
  calm = λ status text r. r.judged.has.calm;
  reads = λ status text r. not_none need.Judge src.before.left r.judged.asked r.judged.has.reads;
}

-- the verdict was given, and printed or not
module _ (src : Step SourceSeen) (out now : SinkSeen) (asked : AskedJob) (has : HasJob need.Judge src asked)
    (link : Link) (over : link_asked asked ≡ Some link) (entries : List Entry)
    (told : entries_asked asked ≡ Some entries) (verdict : Verdict) (judged : IsVerdict link entries verdict) where
  job_judged : JobJudged src entries verdict
  job_judged = record { asked = asked; has = has; link = link; over = over; told = told; judged = judged }

  reported : (status : ℕ) → status ≡ verdict_status verdict
      → VerdictReported src status (verdict_line (length entries) verdict)
  reported status is = record {
    entries = entries;
    verdict = verdict;
    judged = job_judged;
    status_is = is;
    said = refl;
  }

  verdict_said : (result : Result ⊤ Stop) → SaysVerdict (length entries) verdict (out ⇒ now) result
      → StepsDo (JudgeCauses src) (out ⇒ now) result
  verdict_said (Ok done) s = record {
    said = verdict_line (length entries) verdict;
    caused = reported 0 (sym s.0);
    printed = s.1;
  }
  verdict_said (Err (NotWhole why)) s = record {
    said = [];
    caused = (subst (VerdictReported src 14) (sym s.1) (reported 14 (sym s.0)), refl);
    printed = prints_nothing out now s.2;
  }
  verdict_said (Err OutFault) s = record {
    said = verdict_line (length entries) verdict;
    caused = reported 0 (sym s.0);
    printed = s.1;
  }
  verdict_said (Err NoMemory) s = record {
    said = [];
    caused = (inl tt, has.calm, refl);
    printed = prints_nothing out now s;
  }
  verdict_said (Err stop) s = absurd s

-- the job's own history
pub job_said : (src : Step SourceSeen) (out now : SinkSeen) (asked : AskedJob) (link : Link)
    (list entries : List Entry) (verdict : Verdict) (result : Result ⊤ Stop) → HasJob need.Judge src asked
    → asked ≡ AskedOf link list → entries ≡ list → IsVerdict link entries verdict
    → SaysVerdict (length entries) verdict (out ⇒ now) result → StepsDo (JudgeCauses src) (out ⇒ now) result
job_said src out now asked link list entries verdict result has is same judged says =
    let told : entries_asked asked ≡ Some entries =
    ap entries_asked is ∙ ap (λ (xs : List Entry). Some xs) (sym same) in
    verdict_said src out now asked has link (ap link_asked is) entries told verdict judged result says
