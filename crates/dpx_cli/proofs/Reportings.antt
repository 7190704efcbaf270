-- A command that prints one report, from its steps to its contract.
use Rattle.std.proofs.Common.{◌≡◌, ◌⊎◌, ℕ, List, [], ◌++◌, refl, sym, ap, subst, arith, inl, inr, Result, Ok, Err}
use Rattle.std.proofs.Common.{Option, Some, None}
use Rattle.std.specs.Prelude.{⊤, ◌≢◌, IfSome, IsSomeAnd, IsOk, IsErr}
use Rattle.dpx_base.specs.Faults.{Rose}
use Rattle.dpx_base.specs.Seen.{SourceSeen, SinkSeen}
use Rattle.dpx_files.specs.declared.job.Job.{Job as AskedJob}
use Rattle.dpx_files.specs.declared.job.Need.{Need}
use Rattle.dpx_files.specs.declared.refusal.JobBad.{JobBad}
use Rattle.dpx_files.specs.Job.{reading}
use Rattle.dpx_cli.specs.declared.stop.JobRefusal.{JobRefusal}
use Rattle.dpx_cli.specs.declared.stop.Stop.{Stop}
use Rattle.dpx_cli.specs.declared.stop.Stop.TheVariants.{Job, ReadFault, OutFault, NoMemory}
use Rattle.dpx_cli.specs.Jobs.{JobRefused, ReadsAsJob, ReadsAsNone}
use Rattle.dpx_cli.specs.Printing.{BreaksReport, CommandPrints, IsReport, StopsAtOnce, StopsBehind}
use Rattle.dpx_cli.specs.Reporting.{ReportCauses, ReportStops, ReportDoes}
use Rattle.dpx_cli.specs.Status.{IsClean}
use Rattle.dpx_cli.specs.Step.{Step}
use Rattle.dpx_cli.specs.Stop.{bad_of, job_line, memory_line, read_fault_line, stop_lines, stop_status}
use Rattle.dpx_cli.specs.Transfer.{Prints}

-- What has to hold of the reports: there is one only where the job had a reading and was done, and its status is none of
-- the others.
pub record AreReports (need : Need) (src : Step SourceSeen) (Done : Type 0) (Reports : ℕ → List ℕ → Type 0) : Type 0
  where
    pub done : (status : ℕ) (text : List ℕ) → Reports status text → Done
    pub clean : (status : ℕ) (text : List ℕ) → Reports status text → IsClean status × (status ≢ 3)
    pub calm : (status : ℕ) (text : List ℕ) → Reports status text → src.now.faults ≡ src.before.faults
    pub reads : (status : ℕ) (text : List ℕ) → Reports status text → IsSomeAnd src.before.left (ReadsAsNone need) → ⊥

-- a job that was read is not one that has no reading
pub not_none : (need : Need) (left : Option (List ℕ)) (asked : AskedJob)
    → IfSome left (λ bytes. reading need bytes ≡ Ok asked) → IsSomeAnd left (ReadsAsNone need) → ⊥
not_none need None asked reads none = none
not_none need (Some bytes) asked reads none =
    let clash = subst (λ (read : Result AskedJob JobBad). IsErr read) reads none in absurd cc

not_both : (need : Need) (left : Option (List ℕ)) (why : JobBad)
    → IfSome left (λ bytes. reading need bytes ≡ Err why) → IsSomeAnd left (ReadsAsJob need) → ⊥
not_both need None why reads is = is
not_both need (Some bytes) why reads is =
    let clash = subst (λ (read : Result AskedJob JobBad). IsOk read) reads is in absurd cc

module _ (need : Need) (src : Step SourceSeen) (Kept Done : Type 0) (Reports : ℕ → List ℕ → Type 0)
    (are : AreReports need src Done Reports) (out : Step SinkSeen) (status : ℕ) where
  -- the job was done, and that was printed
  done_does : (text : List ℕ) → Reports status text → Prints out text
      → ReportDoes need src Kept Done Reports out status
  done_does text reports printed =
      let clean = are.clean status text reports in
      record {
        done = λ c not_3. record { text = text; reports = reports; printed = printed };
        refused = λ is. absurd (clean.1 is);
        refuses = λ none c. absurd (are.reads status text reports none);
        works = λ job c. clean.1;
        read_fault = λ is. absurd (clean.0.read is);
        write_fault = λ is. absurd (clean.0.written is);
        no_pipe_fault = clean.0.shown;
        no_memory = λ is. absurd (clean.0.memory is);
        reads_are_calm = λ c. are.calm status text reports;
        writes_are_calm = λ not_8. printed.calm;
        kept_or_done = inr (are.done status text reports);
      }

  -- a write of the report failed
  broken_does : BreaksReport (ReportCauses need src Kept Done Reports) out → status ≡ 8 → Kept ⊎ Done
      → ReportDoes need src Kept Done Reports out status
  broken_does broken is either = record {
    done = λ c not_3. absurd (c.written is);
    refused = λ e. absurd (omega (arith, e, is));
    refuses = λ none c. absurd (c.written is);
    works = λ job c. absurd (c.written is);
    read_fault = λ e. absurd (omega (arith, e, is));
    write_fault = λ e. broken;
    no_pipe_fault = λ e. omega (arith, e, is);
    no_memory = λ e. absurd (omega (arith, e, is));
    reads_are_calm = λ c. absurd (c.written is);
    writes_are_calm = λ not_8. absurd (not_8 is);
    kept_or_done = either;
  }

  -- there was no memory
  memory_does : Prints out memory_line → status ≡ 10 → Kept ⊎ Done → ReportDoes need src Kept Done Reports out status
  memory_does printed is either = record {
    done = λ c not_3. absurd (c.memory is);
    refused = λ e. absurd (omega (arith, e, is));
    refuses = λ none c. absurd (c.memory is);
    works = λ job c. absurd (c.memory is);
    read_fault = λ e. absurd (omega (arith, e, is));
    write_fault = λ e. absurd (omega (arith, e, is));
    no_pipe_fault = λ e. omega (arith, e, is);
    no_memory = λ e. printed;
    reads_are_calm = λ c. absurd (c.memory is);
    writes_are_calm = λ not_8. printed.calm;
    kept_or_done = either;
  }

  refused_does : (why : JobRefusal) → JobRefused need src why → Kept → Prints out (job_line why) → status ≡ 3
      → ReportDoes need src Kept Done Reports out status
  refused_does why refused kept printed is = record {
    done = λ c not_3. absurd (not_3 is);
    refused = λ e. (record { why = why; refused = refused; printed = printed }, kept);
    refuses = λ none c. is;
    works = λ job c. absurd (not_both need src.before.left (bad_of why) refused.reads job);
    read_fault = λ e. absurd (omega (arith, e, is));
    write_fault = λ e. absurd (omega (arith, e, is));
    no_pipe_fault = λ e. omega (arith, e, is);
    no_memory = λ e. absurd (omega (arith, e, is));
    reads_are_calm = λ c. refused.calm;
    writes_are_calm = λ not_8. printed.calm;
    kept_or_done = inl kept;
  }

  read_fault_does : Rose src.before.faults src.now.faults → Kept → Prints out read_fault_line → status ≡ 7
      → ReportDoes need src Kept Done Reports out status
  read_fault_does rose kept printed is = record {
    done = λ c not_3. absurd (c.read is);
    refused = λ e. absurd (omega (arith, e, is));
    refuses = λ none c. absurd (c.read is);
    works = λ job c. absurd (c.read is);
    read_fault = λ e. (rose, printed, kept);
    write_fault = λ e. absurd (omega (arith, e, is));
    no_pipe_fault = λ e. omega (arith, e, is);
    no_memory = λ e. absurd (omega (arith, e, is));
    reads_are_calm = λ c. absurd (c.read is);
    writes_are_calm = λ not_8. printed.calm;
    kept_or_done = inl kept;
  }

  -- the command stopped before it had printed anything, and that was printed whole or not
  stopped_does : (said : List ℕ) (stop : Stop) → ReportStops need src Kept Done Reports stop said
      → ((text : List ℕ) → (text ≡ said ++ stop_lines stop) ⊎ (text ≡ said ++ memory_line)
      → IsReport said (Err stop) text)
      → said ≡ [] → Kept ⊎ Done
      → (Prints out (stop_lines stop) → status ≡ stop_status stop → ReportDoes need src Kept Done Reports out status)
      → StopsBehind out said stop status → ReportDoes need src Kept Done Reports out status
  stopped_does said stop caused report nothing either whole (inl (inl (printed, is))) =
      whole (subst (λ (before : List ℕ). Prints out (before ++ stop_lines stop)) nothing printed) is
  stopped_does said stop caused report nothing either whole (inl (inr (front, is))) =
      let broken : BreaksReport (ReportCauses need src Kept Done Reports) out = record {
        done = Err stop;
        said = said;
        text = said ++ stop_lines stop;
        caused = caused;
        is_report = report _ (inl refl);
        front = front;
      } in
      broken_does broken is either
  stopped_does said stop caused report nothing either whole (inr (inl (printed, is))) =
      memory_does (subst (λ (before : List ℕ). Prints out (before ++ memory_line)) nothing printed) is either
  stopped_does said stop caused report nothing either whole (inr (inr (front, is))) =
      let broken : BreaksReport (ReportCauses need src Kept Done Reports) out = record {
        done = Err stop;
        said = said;
        text = said ++ memory_line;
        caused = caused;
        is_report = report _ (inr refl);
        front = front;
      } in
      broken_does broken is either

  -- a stop that tells how the job was done
  told_does : (said : List ℕ) (stop : Stop) → ReportStops need src Kept Done Reports stop said
      → ((text : List ℕ) → (text ≡ said ++ stop_lines stop) ⊎ (text ≡ said ++ memory_line)
      → IsReport said (Err stop) text)
      → Reports (stop_status stop) (stop_lines stop) → said ≡ [] → StopsBehind out said stop status
      → ReportDoes need src Kept Done Reports out status
  told_does said stop caused report reports nothing p =
      stopped_does said stop caused report nothing (inr (are.done _ _ reports))
      (λ printed is. done_does (stop_lines stop)
      (subst (λ (n : ℕ). Reports n (stop_lines stop)) (sym is) reports) printed) p

  pub report_does : (said : List ℕ) (done : Result ⊤ Stop) → ReportCauses need src Kept Done Reports done said
      → CommandPrints out said done status → ReportDoes need src Kept Done Reports out status
  report_does said (Ok done) r p = done_does said (subst (λ (n : ℕ). Reports n said) (sym p.1) r) p.0
  report_does said (Err OutFault) r p =
      let broken : BreaksReport (ReportCauses need src Kept Done Reports) out = record {
        done = Err OutFault;
        said = said;
        text = said;
        caused = r;
        is_report = refl;
        front = p.0;
      } in
      broken_does broken p.1 (inr (are.done 0 said r))
  report_does said (Err (Job why)) (refused, kept, nothing) p =
      stopped_does said (Job why) (refused, kept, nothing) (λ text e. e) nothing (inl kept)
      (refused_does why refused kept) p
  report_does said (Err ReadFault) (rose, kept, nothing) p =
      stopped_does said ReadFault (rose, kept, nothing) (λ text e. e) nothing (inl kept) (read_fault_does rose kept) p
  report_does said (Err NoMemory) (either, calm, nothing) p =
      stopped_does said NoMemory (either, calm, nothing) (λ text e. e) nothing either
      (λ printed is. memory_does printed is either) p
  report_does said (Err stop) caused p = told_does said stop caused (λ text e. e) caused.0 caused.1 p

  -- there was no memory for the words
  pub unread_words_report : Kept → src.now ≡ src.before → StopsAtOnce out NoMemory status
      → ReportDoes need src Kept Done Reports out status
  unread_words_report kept same p =
      report_does [] (Err NoMemory) (inl kept, ap (λ (seen : SourceSeen). seen.faults) same, refl) p
