-- The command `gen`: this project's own. A number gives a plan and its pixels; `pix` is the sink of their capture, `out`
-- that of the report; `PixKept` is the fact that the sink of the capture is as it was.
use Rattle.std.specs.Prelude.{◌≡◌, ◌≢◌, ◌⊎◌, ℕ, List, [], Result, Ok, Err, ⊤}
use Rattle.std.specs.Io.KnownBytes.{Appends}
use Rattle.dpx_base.specs.Faults.{Rose}
use Rattle.dpx_base.specs.Seen.{SinkSeen}
use Rattle.dpx_base.specs.Transfer.{AppendsFront}
use Rattle.dpx_files.specs.Generator.{gen_count, gen_plan}
use Rattle.dpx_sink.specs.Laws.{all_of}
use Rattle.dpx_cli.specs.declared.stop.Stop.{Stop}
use Rattle.dpx_cli.specs.declared.stop.Stop.TheVariants as stop
use Rattle.dpx_cli.specs.Generating.{GoesRound}
use Rattle.dpx_cli.specs.GenLines.{gen_lines}
use Rattle.dpx_cli.specs.Printing.{CommandPrints}
use Rattle.dpx_cli.specs.Status.{IsClean}
use Rattle.dpx_cli.specs.Step.{Step}
use Rattle.dpx_cli.specs.Transfer.{Prints}

-- What is reported of a number: all frames and lines were received, without a tail, and every pixel is equal.
abbrev pub gen_report : (seed : ℕ) → List ℕ
gen_report seed = gen_lines seed (gen_plan seed) (all_of (gen_plan seed)) (gen_count seed)

module _ (seed : ℕ) (pix : Step SinkSeen) where
  -- the capture of the number's frames was taken whole, and they are received of it
  pub record TakesCapture : Type 0 where
    pub bytes : List ℕ
    pub round : GoesRound seed bytes
    pub taken : Appends pix.before.taken pix.now.taken bytes
    pub calm : pix.now.faults ≡ pix.before.faults

  -- a front of it was taken
  pub record TakesCaptureFront : Type 0 where
    pub bytes : List ℕ
    pub round : GoesRound seed bytes
    pub taken : AppendsFront pix.before.taken pix.now.taken bytes

  -- Each end of the command's steps with its cause, with what they printed, and with what became of the capture.
  abbrev pub GenCauses : Type 0 → Result ⊤ Stop → List ℕ → Type 0
  GenCauses PixKept (Ok done) said = TakesCapture × (said ≡ gen_report seed)
  GenCauses PixKept (Err stop.WriteFault) said =
      TakesCaptureFront × Rose pix.before.faults pix.now.faults × (said ≡ [])
  GenCauses PixKept (Err stop.OutFault) said = TakesCapture × (said ≡ gen_report seed)
  GenCauses PixKept (Err stop.NoMemory) said = (PixKept ⊎ TakesCapture) × (said ≡ [])
  GenCauses PixKept (Err other) said = ⊥

-- there is no other
abbrev pub IsGenStatus : ℕ → Type 0
IsGenStatus n = (n ≡ 0) ⊎ (n ≡ 8) ⊎ (n ≡ 10)

module _ (seed : ℕ) (pix : Step SinkSeen) (PixKept : Type 0) where
  -- What the command does, status by status.
  pub record GenDoes (out : Step SinkSeen) (status : ℕ) : Type 0 where
    -- 0: the frames went out whole, they are received of that, and that is printed
    pub generated : status ≡ 0 → TakesCapture seed pix × Prints out (gen_report seed)
    -- 8: a write failed
    pub write_fault : status ≡ 8
        → Rose pix.before.faults pix.now.faults ⊎ Rose out.before.faults out.now.faults
    pub statuses : IsGenStatus status
    -- where no write failed and there was memory, all was done
    pub generates : IsClean status → status ≡ 0
    -- whatever the status, the sink of the capture is as it was, or took a front of it
    pub kept_or_taken : PixKept ⊎ TakesCaptureFront seed pix
    -- no counted fault is passed over
    pub pix_is_calm : IsClean status → pix.now.faults ≡ pix.before.faults
    pub writes_are_calm : status ≢ 8 → out.now.faults ≡ out.before.faults
    -- what was printed, with what cause, whatever the status
    pub done : Result ⊤ Stop
    pub said : List ℕ
    pub caused : GenCauses seed pix PixKept done said
    pub printed : CommandPrints out said done status
