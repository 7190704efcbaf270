-- The whole training: this project's own order and numbers, over the phases of VESA DisplayPort 1.4a.
use Rattle.std.specs.Prelude.{◌≡◌, ℕ, ◌+◌, ◌*◌, zero, suc, List, [], ◌∷◌, Result, Ok, Err, ⊤}
use Rattle.dpx_base.specs.declared.aux_port.Entry.{Entry}
use Rattle.dpx_base.specs.declared.link.Link.{Link}
use Rattle.dpx_base.specs.Port.{asks}
use Rattle.dpx_aux.specs.declared.transaction.AuxEnd.{AuxEnd}
use Rattle.dpx_aux.specs.Conversation.{Ends, ◌>>=◌, Choice, Never}
use Rattle.dpx_aux.specs.Asking.{asks_at_most}
use Rattle.dpx_dpcd.specs.declared.caps.Caps.{Caps}
use Rattle.dpx_dpcd.specs.declared.caps.CapsBad.{CapsBad}
use Rattle.dpx_dpcd.specs.Caps.{has_extended, caps_read, caps_start}
use Rattle.dpx_dpcd.specs.RegisterMap.{dpcd_rev, dp13_dpcd_rev, training_pattern_set, set_power}
use Rattle.dpx_dpcd.specs.Registers.{ReadsBlock, Writes}
use Rattle.dpx_dpcd.specs.Status.{AllLanesDone}
use Rattle.dpx_phase.specs.Endings.{recovery_reads, equalisation_reads}
use Rattle.dpx_link.specs.declared.fallback.Next.{Next}
use Rattle.dpx_link.specs.declared.fallback.Next.TheVariants.{Try, Stop}
use Rattle.dpx_link.specs.declared.train_end.Verdict.{Verdict}
use Rattle.dpx_link.specs.declared.train_end.Verdict.TheVariants as verdict
use Rattle.dpx_link.specs.declared.train_end.TrainEnd.{TrainEnd}
use Rattle.dpx_link.specs.declared.train_end.TrainEnd.TheVariants.{Trained, NotTrained, CapsRefused, AuxEnded}
use Rattle.dpx_link.specs.Attempt.{Attempt, attempt_transactions}
use Rattle.dpx_link.specs.Fallback.{next_of}

-- the capabilities in force: the base block, or the extended field where the block says that there is one
unfoldable pub Capabilities : Result (List ℕ) AuxEnd → List Entry → Type 0
Capabilities = do
  block ← ReadsBlock dpcd_rev
  Choice (has_extended block) (ReadsBlock dp13_dpcd_rev) (Ends (Ok block))

-- behind an attempt: more, from the next configuration on, or the end
abbrev pub AfterAttempt : (Link → Result Verdict AuxEnd → List Entry → Type 0)
    → Next → Result Verdict AuxEnd → List Entry → Type 0
AfterAttempt more (Try next) = more next
AfterAttempt more (Stop verdict) = Ends (Ok verdict)

-- The attempts from a configuration on, at most so many, in a training that began with `first`: each but the last
-- leads to the next.
unfoldable pub Attempts : ℕ → Caps → Link → Link → Result Verdict AuxEnd → List Entry → Type 0
Attempts zero caps first link = Never
Attempts (suc left) caps first link = do
  end ← Attempt caps link
  AfterAttempt (Attempts left caps first) (next_of first link end)

-- lanes from Four to One, and on each the rates from HBR3 to RBR
abbrev pub attempts_at_most : ℕ
attempts_at_most = 12

-- A training reads the capabilities, twice where they have an extended field; it writes power, makes the attempts, and
-- makes the closing write.
abbrev pub training_transactions : ℕ
training_transactions = 4 + attempts_at_most * attempt_transactions

-- how many asks a training makes at most
abbrev pub training_asks : ℕ
training_asks = asks_at_most * training_transactions

-- a wait before each read of a status
abbrev pub training_waits : ℕ
training_waits = attempts_at_most * (recovery_reads + equalisation_reads)

-- how many entries the history of a training has at most
abbrev pub training_entries : ℕ
training_entries = training_asks + training_waits

-- power, the attempts, and the closing write
unfoldable pub TrainsWith : Caps → Link → Result Verdict AuxEnd → List Entry → Type 0
TrainsWith caps first = do
  powered ← Writes set_power (0x01 ∷ [])
  verdict ← Attempts attempts_at_most caps first first
  closed ← Writes training_pattern_set (0x00 ∷ [])
  Ends (Ok verdict)

-- behind the capabilities: a refusal ends the training
abbrev pub Capable : Link → Result Caps CapsBad → Result Verdict AuxEnd → List Entry → Type 0
Capable top (Err why) = Ends (Ok (verdict.CapsRefused why))
Capable top (Ok caps) = TrainsWith caps (caps_start caps top)

-- a training of the top configuration, up to its last transaction
unfoldable pub TrainOutcome : Link → Result Verdict AuxEnd → List Entry → Type 0
TrainOutcome top = do
  block ← Capabilities
  Capable top (caps_read block)

-- how the training ended, after so many asks
abbrev pub end_of : ℕ → Result Verdict AuxEnd → TrainEnd
end_of requests (Ok (verdict.Trained link drive last)) = Trained link drive last requests
end_of requests (Ok (verdict.NotTrained last)) = NotTrained last requests
end_of requests (Ok (verdict.CapsRefused why)) = CapsRefused why requests
end_of requests (Err why) = AuxEnded why requests

-- a history is a training of the top configuration, with this end
pub record Training (top : Link) (end : TrainEnd) (history : List Entry) : Type 0 where
  pub outcome : Result Verdict AuxEnd
  pub trains : TrainOutcome top outcome history
  pub ends : end ≡ end_of (asks history) outcome

-- trained only where the last status shows every lane in use done
abbrev pub VerdictIsDone : Verdict → Type 0
VerdictIsDone (verdict.Trained link drive last) = AllLanesDone link.lanes last
VerdictIsDone (verdict.NotTrained last) = ⊤
VerdictIsDone (verdict.CapsRefused why) = ⊤

abbrev pub TrainedIsDone : TrainEnd → Type 0
TrainedIsDone (Trained link drive last requests) = AllLanesDone link.lanes last
TrainedIsDone (NotTrained last requests) = ⊤
TrainedIsDone (CapsRefused why requests) = ⊤
TrainedIsDone (AuxEnded why requests) = ⊤

-- the number of asks that an end tells
abbrev pub requests_told : TrainEnd → ℕ
requests_told (Trained link drive last requests) = requests
requests_told (NotTrained last requests) = requests
requests_told (CapsRefused why requests) = requests
requests_told (AuxEnded why requests) = requests
