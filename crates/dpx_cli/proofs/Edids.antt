-- The step that fetches a base block, and the command `edid` from its steps to its contract.
use Rattle.std.proofs.Common.{◌≡◌, ◌⊎◌, ℕ, List, [], refl, sym, ap, subst, arith, inl, inr, Result, Ok, Err, Some}
use Rattle.std.specs.Prelude.{⊤, ◌≢◌}
use Rattle.dpx_base.specs.Port.{PortState}
use Rattle.dpx_base.specs.Seen.{SourceSeen, SinkSeen}
use Rattle.dpx_dpcd.specs.declared.plan.SinkPlan.{SinkPlan}
use Rattle.dpx_edid.specs.declared.edid.Edid.{Edid}
use Rattle.dpx_edid.specs.declared.edid.EdidBad.{EdidBad}
use Rattle.dpx_edid.specs.declared.fetch.Fetched.{Fetched}
use Rattle.dpx_edid.specs.declared.fetch.FetchEnd.{FetchEnd}
use Rattle.dpx_edid.specs.Edid.{read_edid}
use Rattle.dpx_files.specs.declared.job.Job.{Job as AskedJob}
use Rattle.dpx_files.specs.declared.job.Need.TheVariants as need
use Rattle.dpx_files.specs.Job.{plan_asked}
use Rattle.dpx_cli.specs.declared.stop.Stop.{Stop}
use Rattle.dpx_cli.specs.declared.stop.Stop.TheVariants.{Unfetched, BadEdid, OutFault, NoMemory}
use Rattle.dpx_cli.specs.Edid.{FetchEnds, FetchReported, EdidCauses}
use Rattle.dpx_cli.specs.EdidLines.{edid_report}
use Rattle.dpx_cli.specs.Fetching.{FetchedWith, FetchStep, FetchStepEnds, JobFetched, StopsFetch, fetch_status, fetch_report}
use Rattle.dpx_cli.specs.Fetching.{block_status, block_report}
use Rattle.dpx_cli.specs.Jobs.{HasJob}
use Rattle.dpx_cli.specs.Printing.{StepsDo, StepPrints}
use Rattle.dpx_cli.specs.Status.{IsClean}
use Rattle.dpx_cli.specs.Step.{Step, ◌⇒◌}
use Rattle.dpx_cli.specs.Stop.{stop_lines, stop_status}
use Rattle.dpx_cli.specs.Transfer.{Prints, PrintsFront}
use Rattle.dpx_cli.proofs.Printings.{prints_nothing}
use Rattle.dpx_cli.proofs.Reportings.{AreReports, not_none}

-- how the step answers where no block was fetched
pub unfetched_step : (plan : SinkPlan) (port : Step (PortState SinkPlan)) (out : SinkSeen) (end : FetchEnd)
    → FetchedWith plan port (Err end) → FetchStep plan port (out ⇒ out) (Err (Unfetched end))
unfetched_step plan port out end f = record {
  given = Err end;
  fetched = f;
  ends = (record { status = refl; lines = refl }, refl);
}

-- where the block is refused
pub refused_step : (plan : SinkPlan) (port : Step (PortState SinkPlan)) (out : SinkSeen) (fetched : Fetched)
    (why : EdidBad) → FetchedWith plan port (Ok fetched) → Err why ≡ read_edid fetched.block
    → FetchStep plan port (out ⇒ out) (Err (BadEdid why fetched.requests))
refused_step plan port out fetched why f read = record {
  given = Ok fetched;
  fetched = f;
  ends = (
    record { status = ap block_status (sym read); lines = ap (block_report fetched.requests) (sym read) },
    refl,
  );
}

printed_ends : (out : Step SinkSeen) (given : Result Fetched FetchEnd) (text : List ℕ) (result : Result ⊤ Stop)
    → fetch_status given ≡ 0 → fetch_report given ≡ text → StepPrints out text result
    → FetchStepEnds given out result
printed_ends out given text (Ok done) status e p = (status, subst (λ said. Prints out said) (sym e) p)
printed_ends out given text (Err OutFault) status e p = (status, subst (λ said. PrintsFront out said) (sym e) p)
printed_ends out given text (Err NoMemory) status e p = p
printed_ends out given text (Err other) status e p = absurd p

-- where it is read
pub read_step : (plan : SinkPlan) (port : Step (PortState SinkPlan)) (out : Step SinkSeen) (fetched : Fetched)
    (edid : Edid) (result : Result ⊤ Stop) → FetchedWith plan port (Ok fetched) → Ok edid ≡ read_edid fetched.block
    → StepPrints out (edid_report edid fetched.requests) result → FetchStep plan port out result
read_step plan port out fetched edid result f read printed = record {
  given = Ok fetched;
  fetched = f;
  ends = printed_ends out (Ok fetched) (edid_report edid fetched.requests) result (ap block_status (sym read))
      (ap (block_report fetched.requests) (sym read)) printed;
}

-- the job was read, and its sink asked
module _ (src : Step SourceSeen) (port : Step (PortState SinkPlan)) (PortKept : Type 0) (asked : AskedJob)
    (has : HasJob need.Edid src asked) (plan : SinkPlan) (loads : plan_asked asked ≡ Some plan) (out out_now : SinkSeen)
  where
    abbrev job_fetched : {given : Result Fetched FetchEnd} → FetchedWith plan port given → JobFetched src port given
    job_fetched f = record { asked = asked; has = has; plan = plan; loads = loads; fetched = f }

    printed : (given : Result Fetched FetchEnd) → FetchedWith plan port given → fetch_status given ≡ 0
        → FetchReported src port 0 (fetch_report given)
    printed given f is = record { given = given; fetched = job_fetched f; status_is = sym is; said = refl }

    stopped : (given : Result Fetched FetchEnd) (stop : Stop) → FetchedWith plan port given → StopsFetch given stop
        → FetchReported src port (stop_status stop) (stop_lines stop)
    stopped given stop f s =
        record { given = given; fetched = job_fetched f; status_is = sym s.status; said = sym s.lines }

    -- the steps of the command, by the answer of the step that asks
    pub fetch_steps : (done : Result ⊤ Stop) → FetchStep plan port (out ⇒ out_now) done
        → StepsDo (EdidCauses src port PortKept) (out ⇒ out_now) done
    fetch_steps (Ok done) s = record {
      said = fetch_report s.given;
      caused = printed s.given s.fetched s.ends.0;
      printed = s.ends.1;
    }
    fetch_steps (Err (Unfetched end)) s = record {
      said = [];
      caused = (stopped s.given (Unfetched end) s.fetched s.ends.0, refl);
      printed = prints_nothing out out_now s.ends.1;
    }
    fetch_steps (Err (BadEdid why requests)) s = record {
      said = [];
      caused = (stopped s.given (BadEdid why requests) s.fetched s.ends.0, refl);
      printed = prints_nothing out out_now s.ends.1;
    }
    fetch_steps (Err OutFault) s = record {
      said = fetch_report s.given;
      caused = printed s.given s.fetched s.ends.0;
      printed = s.ends.1;
    }
    fetch_steps (Err NoMemory) s = record {
      said = [];
      caused = (inr (record { given = s.given; fetched = job_fetched s.fetched }), has.calm, refl);
      printed = prints_nothing out out_now s.ends;
    }
    fetch_steps (Err other) s = absurd s.ends

block_statuses : (read : Result Edid EdidBad)
    → (block_status read ≡ 0) ⊎ (block_status read ≡ 4) ⊎ (block_status read ≡ 13)
block_statuses (Ok edid) = inl refl
block_statuses (Err why) = inr (inr refl)

fetch_statuses : (given : Result Fetched FetchEnd)
    → (fetch_status given ≡ 0) ⊎ (fetch_status given ≡ 4) ⊎ (fetch_status given ≡ 13)
fetch_statuses (Ok fetched) = block_statuses (read_edid fetched.block)
fetch_statuses (Err end) = inr (inl refl)

-- none of them is that of a refused job, of a fault or of want of memory
clean_statuses : (status : ℕ) → (status ≡ 0) ⊎ (status ≡ 4) ⊎ (status ≡ 13) → IsClean status × (status ≢ 3)
clean_statuses status either = (
  record {
    read = λ e. omega (arith, e, either);
    written = λ e. omega (arith, e, either);
    shown = λ e. omega (arith, e, either);
    memory = λ e. omega (arith, e, either);
  },
  λ e. omega (arith, e, either),
)

pub fetches_are_reports : (src : Step SourceSeen) (port : Step (PortState SinkPlan))
    → AreReports need.Edid src (FetchEnds src port) (FetchReported src port)
fetches_are_reports src port = record {
  done = λ status text r. record { given = r.given; fetched = r.fetched };
  clean = λ status text r. clean_statuses status (subst (λ (n : ℕ). (n ≡ 0) ⊎ (n ≡ 4) ⊎ (n ≡ 13)) (sym r.status_is)
      (fetch_statuses r.given));
  calm = λ status text r. r.fetched.has.calm;
  reads = λ status text r. not_none need.Edid src.before.left r.fetched.asked r.fetched.has.reads;
}
