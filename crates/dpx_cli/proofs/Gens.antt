-- The command `gen`, from its steps to its contract.
use Rattle.std.proofs.Common.{◌≡◌, ◌⊎◌, ℕ, List, [], ◌++◌, refl, sym, ap, ◌∙◌, subst, arith, inl, inr, Result, Ok, Err, Bool, true, false}
use Rattle.std.specs.Prelude.{⊤, is_err, OnErr, OnOk}
use Rattle.std.proofs.lemmas.List.{append-nil}
use Rattle.dpx_base.specs.declared.depth.Depth.{Depth}
use Rattle.dpx_base.specs.Faults.{Rose}
use Rattle.dpx_base.specs.Plan.{PlanFacts}
use Rattle.dpx_base.specs.Seen.{SinkSeen}
use Rattle.dpx_base.specs.Transfer.{AppendsFront}
use Rattle.dpx_files.specs.Generator.{gen_count, gen_pixels, gen_plan}
use Rattle.dpx_reception.specs.Due.{pixel_records}
use Rattle.dpx_sink.specs.declared.finish_end.Received.{Received}
use Rattle.dpx_sink.specs.Laws.{all_of}
use Rattle.dpx_cli.specs.declared.stop.Stop.{Stop}
use Rattle.dpx_cli.specs.declared.stop.Stop.TheVariants as stop
use Rattle.dpx_cli.specs.Gen.{GenCauses, GenDoes, IsGenStatus, TakesCapture, TakesCaptureFront, gen_report}
use Rattle.dpx_cli.specs.Generating.{GoesRound, equal_pixels}
use Rattle.dpx_cli.specs.GenLines.{gen_lines}
use Rattle.dpx_cli.specs.Printing.{CommandPrints, StepPrints, StepsDo, StopsAtOnce}
use Rattle.dpx_cli.specs.Status.{IsClean}
use Rattle.dpx_cli.specs.Step.{Step, ◌⇒◌}
use Rattle.dpx_cli.specs.Transfer.{Prints, PrintsFront}
use Rattle.dpx_cli.proofs.Equals.{all_come_back}
use Rattle.dpx_cli.proofs.Printings.{end_status, end_text, ended_at_8, ended_calm, ended_status, ended_with, prints_nothing}

-- a result that is an error, or none
pub on_err : {T E P : Type 0} (result : Result T E) → is_err result ≡ true → OnErr result P → P
on_err (Ok x) e p = absurd cc
on_err (Err x) e p = p

pub on_ok : {T E P : Type 0} (result : Result T E) → is_err result ≡ false → OnOk result P → P
on_ok (Ok x) e p = p
on_ok (Err x) e p = absurd cc

-- the report of what came back
pub report_is : (seed : ℕ) (plan : PlanFacts) (received : Received) (depth : Depth) (records : List ℕ) (equal : ℕ)
    → plan ≡ gen_plan seed → received ≡ all_of (gen_plan seed) → depth ≡ plan.mode.depth
    → records ≡ pixel_records (gen_pixels seed) → equal ≡ equal_pixels seed depth records
    → gen_lines seed plan received equal ≡ gen_report seed
report_is seed plan received depth records equal plan_is received_is depth_is records_is equal_is =
    let count : equal ≡ gen_count seed = equal_is ∙ rw (records_is, depth_is, plan_is) (all_come_back seed) in
    rw (plan_is, received_is, count) refl

module _ (seed : ℕ) (pix : Step SinkSeen) (PixKept : Type 0) where
  -- what was taken whole was taken in part
  front_of_whole : TakesCapture seed pix → TakesCaptureFront seed pix
  front_of_whole t = record {
    bytes = t.bytes;
    round = t.round;
    taken = record { front = t.bytes; rest = []; divided = sym (append-nil t.bytes); taken = t.taken };
  }

  -- the steps: there was no memory to send; the capture was not taken; there was none to receive; all was reported
  abbrev Steps : Step SinkSeen → Result ⊤ Stop → Type 0
  Steps out done = StepsDo (GenCauses seed pix PixKept) out done

  pub no_memory : (out : SinkSeen) (why : Stop) → why ≡ stop.NoMemory → PixKept ⊎ TakesCapture seed pix
      → Steps (out ⇒ out) (Err why)
  no_memory out why is took =
      rw is (record { said = []; caused = (took, refl); printed = prints_nothing out out refl })

  pub not_taken : (out : SinkSeen) (bytes : List ℕ) → GoesRound seed bytes → PrintsFront pix bytes
      → Steps (out ⇒ out) (Err stop.WriteFault)
  not_taken out bytes round broken = record {
    said = [];
    caused = (
      record {
        bytes = bytes;
        round = round;
        taken = record {
          front = broken.front;
          rest = broken.rest;
          divided = broken.divided;
          taken = broken.taken;
        };
      },
      broken.failed,
      refl,
    );
    printed = prints_nothing out out refl;
  }

  pub reported : (out : Step SinkSeen) (text : List ℕ) (done : Result ⊤ Stop) → TakesCapture seed pix
      → text ≡ gen_report seed → StepPrints out text done → Steps out done
  reported out text (Ok done) took is printed = record { said = text; caused = (took, is); printed = printed }
  reported out text (Err stop.OutFault) took is printed =
      record { said = text; caused = (took, is); printed = printed }
  reported out text (Err stop.NoMemory) took is same =
      record { said = []; caused = (inr took, refl); printed = prints_nothing out.before out.now same }
  reported out text (Err _) took is none = absurd none

  -- the statuses of the command's ends
  statuses_at : (done : Result ⊤ Stop) (said : List ℕ) (status : ℕ) → GenCauses seed pix PixKept done said
      → status ≡ end_status done → IsGenStatus status
  statuses_at (Ok done) said status c is = inl is
  statuses_at (Err stop.WriteFault) said status c is = inr (inl is)
  statuses_at (Err stop.OutFault) said status c is = inr (inl is)
  statuses_at (Err stop.NoMemory) said status c is = inr (inr is)
  statuses_at (Err _) said status c is = absurd c

  gen_status : (status : ℕ) (done : Result ⊤ Stop) (said : List ℕ) → GenCauses seed pix PixKept done said
      → (status ≡ end_status done) ⊎ (status ≡ 8) ⊎ (status ≡ 10) → IsGenStatus status
  gen_status status done said caused (inl is) = statuses_at done said status caused is
  gen_status status done said caused (inr (inl is)) = inr (inl is)
  gen_status status done said caused (inr (inr is)) = inr (inr is)

  clean_status : (status : ℕ) → IsGenStatus status → IsClean status → status ≡ 0
  clean_status status (inl is) clean = is
  clean_status status (inr (inl is)) clean = absurd (clean.written is)
  clean_status status (inr (inr is)) clean = absurd (clean.memory is)

  kept_or_taken_at : (done : Result ⊤ Stop) (said : List ℕ) → GenCauses seed pix PixKept done said
      → PixKept ⊎ TakesCaptureFront seed pix
  kept_or_taken_at (Ok done) said c = inr (front_of_whole c.0)
  kept_or_taken_at (Err stop.WriteFault) said c = inr c.0
  kept_or_taken_at (Err stop.OutFault) said c = inr (front_of_whole c.0)
  kept_or_taken_at (Err stop.NoMemory) said (inl kept, nothing) = inl kept
  kept_or_taken_at (Err stop.NoMemory) said (inr took, nothing) = inr (front_of_whole took)
  kept_or_taken_at (Err _) said c = absurd c

  module _ (out : Step SinkSeen) where
    generated_at : (done : Result ⊤ Stop) (said : List ℕ) → GenCauses seed pix PixKept done said → end_status done ≡ 0
        → Prints out (end_text said done) → TakesCapture seed pix × Prints out (gen_report seed)
    generated_at (Ok done) said c e printed = (c.0, subst (λ (text : List ℕ). Prints out text) c.1 printed)
    generated_at (Err stop.Usage) said c e printed = absurd cc
    generated_at (Err _) said c e printed = absurd cc

    write_fault_at : (done : Result ⊤ Stop) (said : List ℕ) → GenCauses seed pix PixKept done said
        → (◌≡◌ {A = Result ⊤ Stop} done (Err stop.WriteFault)) ⊎ Rose out.before.faults out.now.faults
        → Rose pix.before.faults pix.now.faults ⊎ Rose out.before.faults out.now.faults
    write_fault_at done said c (inr rose) = inr rose
    write_fault_at (Err stop.WriteFault) said c (inl e) = inl c.1
    write_fault_at _ said c (inl e) = absurd cc

  pub gen_does : (out : Step SinkSeen) (status : ℕ) (done : Result ⊤ Stop) (said : List ℕ)
      → GenCauses seed pix PixKept done said → CommandPrints out said done status → GenDoes seed pix PixKept out status
  gen_does out status done said caused printed =
      let generated : status ≡ 0 → TakesCapture seed pix × Prints out (gen_report seed) =
      λ e. let w = ended_with out said status done 0 printed e (λ b. cc) (λ b. cc) in
      generated_at out done said caused w.0 w.1 in
      let statuses = gen_status status done said caused (ended_status out said status done printed) in
      record {
        generated = generated;
        write_fault = λ e. write_fault_at out done said caused (ended_at_8 out said status done printed e);
        statuses = statuses;
        generates = clean_status status statuses;
        kept_or_taken = kept_or_taken_at done said caused;
        pix_is_calm = λ c. (generated (clean_status status statuses c)).0.calm;
        writes_are_calm = λ not_8. ended_calm out said status done printed not_8;
        done = done;
        said = said;
        caused = caused;
        printed = printed;
      }

  -- there was no memory for the words
  pub unread_words_gen : (out : Step SinkSeen) (status : ℕ) → PixKept → StopsAtOnce out stop.NoMemory status
      → GenDoes seed pix PixKept out status
  unread_words_gen out status kept p = gen_does out status (Err stop.NoMemory) [] (inl kept, refl) p
