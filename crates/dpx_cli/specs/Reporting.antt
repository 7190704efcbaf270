-- A command that reads its job, does it, and prints one report: this project's own. `src` is the source of the job,
-- `out` the sink of the report. `Kept` is the fact that the other objects are as they were, `Done` that the job was done;
-- `Reports` says which reports there are of a job that was done, each with its status.
use Rattle.std.specs.Prelude.{◌≡◌, ◌≢◌, ◌⊎◌, ℕ, List, [], IsSomeAnd, Result, Ok, Err, ⊤}
use Rattle.dpx_base.specs.Faults.{Rose}
use Rattle.dpx_base.specs.Seen.{SourceSeen, SinkSeen}
use Rattle.dpx_files.specs.declared.job.Need.{Need}
use Rattle.dpx_cli.specs.declared.stop.Stop.{Stop}
use Rattle.dpx_cli.specs.declared.stop.Stop.TheVariants as stop
use Rattle.dpx_cli.specs.Jobs.{JobRefused, ReadsAsJob, ReadsAsNone, SaysJobRefused}
use Rattle.dpx_cli.specs.Printing.{BreaksReport}
use Rattle.dpx_cli.specs.Status.{IsClean}
use Rattle.dpx_cli.specs.Step.{Step}
use Rattle.dpx_cli.specs.Stop.{stop_lines, stop_status, read_fault_line, memory_line}
use Rattle.dpx_cli.specs.Transfer.{Prints}

module _ (need : Need) (src : Step SourceSeen) (Kept Done : Type 0) (Reports : ℕ → List ℕ → Type 0) where
  -- Why the steps stopped, and what they printed before: nothing. A stop that tells how the job was done has its lines
  -- as the report.
  abbrev pub ReportStops : Stop → List ℕ → Type 0
  ReportStops (stop.Job why) said = JobRefused need src why × Kept × (said ≡ [])
  ReportStops stop.ReadFault said = Rose src.before.faults src.now.faults × Kept × (said ≡ [])
  ReportStops stop.OutFault said = Reports 0 said
  ReportStops stop.NoMemory said = (Kept ⊎ Done) × (src.now.faults ≡ src.before.faults) × (said ≡ [])
  ReportStops other said = Reports (stop_status other) (stop_lines other) × (said ≡ [])

  -- each end of the command's steps with its cause, with what they printed, and with what became of the objects
  abbrev pub ReportCauses : Result ⊤ Stop → List ℕ → Type 0
  ReportCauses (Ok done) said = Reports 0 said
  ReportCauses (Err stop) said = ReportStops stop said

  -- a report of the job that was done is printed
  pub record SaysDone (out : Step SinkSeen) (status : ℕ) : Type 0 where
    pub text : List ℕ
    pub reports : Reports status text
    pub printed : Prints out text

  -- What the command does, status by status.
  pub record ReportDoes (out : Step SinkSeen) (status : ℕ) : Type 0 where
    -- any status but 3 and those of faults and want of memory: the job was done, and that is printed
    pub done : IsClean status → status ≢ 3 → SaysDone out status
    -- 3: the job has no reading; its first fault is printed, and the other objects are as they were
    pub refused : status ≡ 3 → SaysJobRefused need src out × Kept
    -- a job that has no reading is refused, and one that has a reading is done, but for faults and want of memory
    pub refuses : IsSomeAnd src.before.left (ReadsAsNone need) → IsClean status → status ≡ 3
    pub works : IsSomeAnd src.before.left (ReadsAsJob need) → IsClean status → status ≢ 3
    -- 7: a read failed; that is printed, and the other objects are as they were
    pub read_fault : status ≡ 7 → Rose src.before.faults src.now.faults × Prints out read_fault_line × Kept
    -- 8: a write failed, and nothing was printed but a front of the report
    pub write_fault : status ≡ 8 → BreaksReport ReportCauses out
    -- 9 never comes
    pub no_pipe_fault : status ≢ 9
    -- 10: want of memory is printed, and nothing else
    pub no_memory : status ≡ 10 → Prints out memory_line
    -- a fault that was counted is not passed over
    pub reads_are_calm : IsClean status → src.now.faults ≡ src.before.faults
    pub writes_are_calm : status ≢ 8 → out.now.faults ≡ out.before.faults
    -- whatever the status, the other objects are as they were, or the job was done
    pub kept_or_done : Kept ⊎ Done
