-- The command `edid`: this project's own. `src` is the source of the job, `port` the AUX port, `out` the sink of the
-- report; `PortKept` is the fact that the port is as it was.
use Rattle.std.specs.Prelude.{◌≡◌, ℕ, List, Result, ⊤}
use Rattle.dpx_base.specs.Port.{PortState}
use Rattle.dpx_base.specs.Seen.{SourceSeen, SinkSeen}
use Rattle.dpx_dpcd.specs.declared.plan.SinkPlan.{SinkPlan}
use Rattle.dpx_edid.specs.declared.fetch.Fetched.{Fetched}
use Rattle.dpx_edid.specs.declared.fetch.FetchEnd.{FetchEnd}
use Rattle.dpx_files.specs.declared.job.Need.TheVariants as need
use Rattle.dpx_cli.specs.declared.stop.Stop.{Stop}
use Rattle.dpx_cli.specs.Fetching.{JobFetched, fetch_status, fetch_report}
use Rattle.dpx_cli.specs.Reporting.{ReportCauses, ReportDoes}
use Rattle.dpx_cli.specs.Step.{Step}

module _ (src : Step SourceSeen) (port : Step (PortState SinkPlan)) where
  -- the job's sink was asked for its block, whatever was printed of it
  pub record FetchEnds : Type 0 where
    pub given : Result Fetched FetchEnd
    pub fetched : JobFetched src port given

  -- 0: a block was fetched that is read; 4: none was fetched; 13: one that is refused; and this is the report
  pub record FetchReported (status : ℕ) (text : List ℕ) : Type 0 where
    pub given : Result Fetched FetchEnd
    pub fetched : JobFetched src port given
    pub status_is : status ≡ fetch_status given
    pub said : text ≡ fetch_report given

  module _ (PortKept : Type 0) where
    abbrev pub EdidCauses : Result ⊤ Stop → List ℕ → Type 0
    EdidCauses = ReportCauses need.Edid src PortKept FetchEnds FetchReported

    -- What the command does, status by status.
    abbrev pub EdidDoes : (out : Step SinkSeen) (status : ℕ) → Type 0
    EdidDoes = ReportDoes need.Edid src PortKept FetchEnds FetchReported
