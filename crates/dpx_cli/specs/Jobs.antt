-- The job of a command: this project's own. `src` is its source, `out` the sink of the report.
use Rattle.std.specs.Prelude.{◌≡◌, ◌⊎◌, ℕ, ◌+◌, ◌≤◌, List, length, IfSome, IsOk, IsErr, Result, Ok, Err}
use Rattle.std.specs.Io.KnownBytes.{Consumes, IsAtEnd}
use Rattle.dpx_base.specs.Faults.{Rose}
use Rattle.dpx_base.specs.Seen.{SourceSeen, SinkSeen}
use Rattle.dpx_files.specs.declared.job.Job.{Job}
use Rattle.dpx_files.specs.declared.job.Need.{Need}
use Rattle.dpx_files.specs.Job.{reading, longest_job, need_of, IsJob}
use Rattle.dpx_cli.specs.declared.stop.JobRefusal.{JobRefusal}
use Rattle.dpx_cli.specs.declared.stop.JobRefusal.TheVariants.{TooLong}
use Rattle.dpx_cli.specs.declared.stop.Stop.{Stop}
use Rattle.dpx_cli.specs.declared.stop.Stop.TheVariants as stop
use Rattle.dpx_cli.specs.Step.{Step}
use Rattle.dpx_cli.specs.Stop.{bad_of, job_line}
use Rattle.dpx_cli.specs.Transfer.{Prints}

-- the bytes are those of a job for this need; or they are not
abbrev pub ReadsAsJob : Need → List ℕ → Type 0
ReadsAsJob need bytes = IsOk (reading need bytes)

abbrev pub ReadsAsNone : Need → List ℕ → Type 0
ReadsAsNone need bytes = IsErr (reading need bytes)

-- the source had this job, and was read to its end
pub record HasJob (need : Need) (src : Step SourceSeen) (asked : Job) : Type 0 where
  pub reads : IfSome src.before.left (λ bytes. reading need bytes ≡ Ok asked)
  pub kind : need_of asked ≡ need
  pub good : IsJob asked
  pub read_whole : IsAtEnd src.now.left
  pub calm : src.now.faults ≡ src.before.faults

-- A job is refused for what its bytes are. It was read to its end; or it is too long, and no more was read than shows
-- it.
pub record JobRefused (need : Need) (src : Step SourceSeen) (why : JobRefusal) : Type 0 where
  pub reads : IfSome src.before.left (λ bytes. reading need bytes ≡ Err (bad_of why))
  pub front : List ℕ
  pub consumed : Consumes src.before.left src.now.left front
  pub bounded : length front ≤ longest_job + 1
  pub read_whole : (why ≡ TooLong) ⊎ IsAtEnd src.now.left
  pub calm : src.now.faults ≡ src.before.faults

-- that is printed
pub record SaysJobRefused (need : Need) (src : Step SourceSeen) (out : Step SinkSeen) : Type 0 where
  pub why : JobRefusal
  pub refused : JobRefused need src why
  pub printed : Prints out (job_line why)

-- the job that a source has, or why there is none
abbrev pub ReadsJob : Need → Step SourceSeen → Result Job Stop → Type 0
ReadsJob need src (Ok asked) = HasJob need src asked
ReadsJob need src (Err (stop.Job why)) = JobRefused need src why
ReadsJob need src (Err stop.ReadFault) = Rose src.before.faults src.now.faults
ReadsJob need src (Err stop.NoMemory) = src.now.faults ≡ src.before.faults
ReadsJob need src (Err other) = ⊥
