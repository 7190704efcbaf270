-- How many answers suffice for a phase: whatever they are, it ends by the last status that may be read.
use Rattle.std.proofs.Common.{◌≡◌, ℕ, zero, suc, ◌+◌, ◌*◌, ◌≤◌, List, [], ◌∷◌, ◌++◌, length, refl, sym, ap, ◌∙◌}
use Rattle.std.proofs.Common.{subst}
use Rattle.std.proofs.Common.{arith, append_assoc, length-append, Option, Some, None, Result, Ok, Err}
use Rattle.std.specs.Prelude.{⊤}
use Rattle.std.proofs.lemmas.List.{append-nil}
use Rattle.dpx_base.specs.declared.aux_port.Entry.{Entry}
use Rattle.dpx_base.specs.declared.link.Link.{Link}
use Rattle.dpx_aux.specs.declared.transaction.AuxEnd.{AuxEnd}
use Rattle.dpx_aux.specs.Conversation.{HasFront, Suffices}
use Rattle.dpx_aux.specs.Asking.{asks_at_most}
use Rattle.dpx_aux.proofs.Suffices.{waits_suffice, then_suffices, left_behind, begins_joined, few_joined}
use Rattle.dpx_dpcd.specs.declared.pattern.Pattern.{Pattern}
use Rattle.dpx_dpcd.specs.declared.status.Drive.{Drive}
use Rattle.dpx_dpcd.specs.declared.status.Status6.{Status6}
use Rattle.dpx_dpcd.specs.Status.{status_level}
use Rattle.dpx_dpcd.proofs.Suffices.{writes_suffice, status_suffices}
use Rattle.dpx_phase.specs.declared.phase_end.PhaseEnd.{PhaseEnd}
use Rattle.dpx_phase.specs.Endings.{recovery_reads, equalisation_reads}
use Rattle.dpx_phase.specs.Phase.{Phase, ReadsLater, Adjusts, Follows, Runs, Takes}
use Rattle.dpx_phase.specs.Phase.{as_end}
use Rattle.dpx_phase.specs.Equalisation.{Equalisation, equalisation, equalisation_asks, pause_of}
use Rattle.dpx_phase.specs.Recovery.{Recovery, recovery, recovery_asks}
use Rattle.dpx_phase.proofs.Endings.{recovery_looks_back, equalisation_looks_back}
use Rattle.dpx_phase.proofs.FirstEnd.{tenth_ends, fifth_ends}
use Rattle.dpx_phase.proofs.SoFar.{Limited, SoFar, ends_at, ends_here, none_so_far, round_more, unread, unwritten}

reads_suffice : (pause : ℕ) → Suffices asks_at_most (ReadsLater pause)
reads_suffice pause = then_suffices 0 asks_at_most (waits_suffice pause) (λ waited. status_suffices)

-- the rest of a phase, behind rounds whose statuses ended nothing
abbrev FollowsFrom : Phase → List Entry → Result PhaseEnd AuxEnd → List Entry → Type 0
FollowsFrom phase before given history = Follows phase given (before ++ history)

-- enough for so many more reads, with a write behind each but the last
abbrev enough_for : ℕ → ℕ
enough_for zero = 0
enough_for (suc more) = asks_at_most + more * (asks_at_most + asks_at_most)

-- behind the write of the next drive
written_suffices : (phase : Phase) (limit more : ℕ) (statuses : List Status6) (status : Status6)
    (before read : List Entry) → Limited phase limit → SoFar phase statuses before
    → ReadsLater phase.pause (Ok status) read
    → phase.ending (statuses ++ status ∷ []) (length statuses + 1) ≡ None
    → ((now : List Status6) (entries : List Entry) → length now ≡ length statuses + 1 → SoFar phase now entries
    → Suffices (enough_for more) (FollowsFrom phase entries))
    → (middle : Result ⊤ AuxEnd) (write : List Entry)
    → Adjusts phase.lanes (status_level phase.lanes status.bytes) middle write
    → Suffices (enough_for more) (λ given history. FollowsFrom phase before given (read ++ (write ++ history)))
written_suffices phase limit more statuses status before read limited so_far r e rest (Err why) write w answers enough =
    record {
      given = Err why;
      history = [];
      rest = answers;
      done = subst (λ (entries : List Entry). FollowsFrom phase before (Err why) (read ++ entries))
          (sym (append-nil write))
          (ends_here phase statuses before (read ++ write) (Err why) so_far
          (unwritten phase statuses status why read write r e w));
      begins = refl;
      few = omega arith;
    }
written_suffices phase limit more statuses status before read limited so_far r e rest
    (Ok written) write w answers enough =
    let now = statuses ++ status ∷ [] in
    let entries = before ++ (read ++ write) in
    let f = rest now entries (omega (arith, length-append statuses (status ∷ [])))
    (round_more phase statuses status before read write limited.looks so_far r e w) answers enough in
    let joined : entries ++ f.history ≡ before ++ (read ++ (write ++ f.history)) =
    append_assoc before (read ++ write) f.history
    ∙ ap (λ (xs : List Entry). before ++ xs) (append_assoc read write f.history) in
    record {
      given = f.given;
      history = f.history;
      rest = f.rest;
      done = subst (Follows phase f.given) joined f.done;
      begins = f.begins;
      few = f.few;
    }

-- what follows from here, for each list of statuses and entries with so many reads left
abbrev GoesOn : Phase → ℕ → ℕ → Type 0
GoesOn phase limit more =
    (statuses : List Status6) (before : List Entry) → length statuses + more ≡ limit → SoFar phase statuses before
    → Suffices (enough_for more) (FollowsFrom phase before)

-- behind a status
found_suffices : (phase : Phase) (limit more : ℕ) (statuses : List Status6) (status : Status6)
    (before read : List Entry) → Limited phase limit → GoesOn phase limit more → length statuses + suc more ≡ limit
    → SoFar phase statuses before → ReadsLater phase.pause (Ok status) read → (found : Option PhaseEnd)
    → phase.ending (statuses ++ status ∷ []) (length statuses + 1) ≡ found
    → Suffices (more * (asks_at_most + asks_at_most))
    (λ given history. FollowsFrom phase before given (read ++ history))
found_suffices phase limit more statuses status before read limited rest left so_far r (Some end) e answers enough =
    record {
      given = Ok end;
      history = [];
      rest = answers;
      done = subst (FollowsFrom phase before (Ok end)) (sym (append-nil read))
          (ends_here phase statuses before read (Ok end) so_far (ends_at phase statuses status end read r e));
      begins = refl;
      few = omega arith;
    }
found_suffices phase limit zero statuses status before read limited rest left so_far r None e answers enough =
    let last : length statuses + 1 ≡ limit = omega (arith, left) in
    absurd (limited.always (statuses ++ status ∷ [])
    (subst (λ (n : ℕ). phase.ending (statuses ++ status ∷ []) n ≡ None) last e))
found_suffices phase limit (suc more) statuses status before read limited rest left so_far r None e answers enough =
    let next = status_level phase.lanes status.bytes in
    let room : asks_at_most ≤ length answers = omega arith in
    let w : HasFront asks_at_most (Adjusts phase.lanes next) answers = writes_suffice _ _ answers room in
    let later : (now : List Status6) (entries : List Entry) → length now ≡ length statuses + 1
    → SoFar phase now entries → Suffices (enough_for (suc more)) (FollowsFrom phase entries) =
    λ now entries size s. rest now entries (omega (arith, size, left)) s in
    let v = written_suffices phase limit (suc more) statuses status before read limited so_far r e
    later w.given w.history
    w.done w.rest (left_behind w (enough_for (suc more)) (omega arith)) in
    record {
      given = v.given;
      history = w.history ++ v.history;
      rest = v.rest;
      done = v.done;
      begins = begins_joined answers w.rest v.rest w.history v.history w.begins v.begins;
      few = omega (arith, few_joined asks_at_most (enough_for (suc more)) w.history v.history w.few v.few);
    }

read_suffices : (phase : Phase) (limit more : ℕ) (statuses : List Status6) (before : List Entry)
    → Limited phase limit → GoesOn phase limit more → length statuses + suc more ≡ limit → SoFar phase statuses before
    → (middle : Result Status6 AuxEnd) (read : List Entry) → ReadsLater phase.pause middle read
    → Suffices (more * (asks_at_most + asks_at_most))
    (λ given history. FollowsFrom phase before given (read ++ history))
read_suffices phase limit more statuses before limited rest left so_far (Err why) read r answers enough = record {
  given = Err why;
  history = [];
  rest = answers;
  done = subst (FollowsFrom phase before (Err why)) (sym (append-nil read))
      (ends_here phase statuses before read (Err why) so_far (unread phase statuses read why r));
  begins = refl;
  few = omega arith;
}
read_suffices phase limit more statuses before limited rest left so_far (Ok status) read r answers enough =
    found_suffices phase limit more statuses status before read limited rest left so_far r _ refl answers enough

from_here : (phase : Phase) (limit : ℕ) → Limited phase limit → (more : ℕ) → GoesOn phase limit more
from_here phase limit limited zero statuses before left so_far answers enough =
    absurd (limited.always statuses (so_far.unended limit limited.some (omega (arith, left))))
from_here phase limit limited (suc more) statuses before left so_far answers enough =
    let r = reads_suffice phase.pause answers (omega arith) in
    let v = read_suffices phase limit more statuses before limited (from_here phase limit limited more) left so_far
    r.given r.history r.done r.rest (left_behind r (more * (asks_at_most + asks_at_most)) (omega arith)) in
    record {
      given = v.given;
      history = r.history ++ v.history;
      rest = v.rest;
      done = v.done;
      begins = begins_joined answers r.rest v.rest r.history v.history r.begins v.begins;
      few = few_joined asks_at_most (more * (asks_at_most + asks_at_most)) r.history v.history r.few v.few;
    }

follows_suffice : (phase : Phase) (limit : ℕ) → Limited phase limit → Suffices (enough_for limit) (Follows phase)
follows_suffice phase limit limited answers enough =
    from_here phase limit limited limit [] [] (omega arith) (none_so_far phase) answers enough

takes_suffice : (phase : Phase) (chosen : Pattern) (drive : List ℕ) (limit : ℕ) → Limited phase limit
    → Suffices (asks_at_most + enough_for limit) (Takes phase chosen drive)
takes_suffice phase chosen drive limit limited answers enough =
    let runs : Suffices (asks_at_most + enough_for limit) (Runs phase chosen drive) =
    then_suffices asks_at_most (enough_for limit) (writes_suffice _ _) (λ started.
    follows_suffice phase limit limited) in
    let f = runs answers enough in
    record {
      given = as_end f.given;
      history = f.history;
      rest = f.rest;
      done = record { result = f.given; same = refl; done = f.done };
      begins = f.begins;
      few = f.few;
    }

pub recovery_suffices : (link : Link) → Suffices recovery_asks (Recovery link)
unfolding Recovery
recovery_suffices link =
    takes_suffice (recovery link.lanes) _ _ recovery_reads
    (record { looks = recovery_looks_back link.lanes; some = omega arith; always = tenth_ends link.lanes })

pub equalisation_suffices : (link : Link) (chosen : Pattern) (drive : Drive) (interval : ℕ)
    → Suffices equalisation_asks (Equalisation link chosen drive interval)
unfolding Equalisation
equalisation_suffices link chosen drive interval =
    takes_suffice (equalisation link.lanes drive.registers (pause_of interval)) _ _ equalisation_reads (record {
      looks = equalisation_looks_back link.lanes drive.registers;
      some = omega arith;
      always = fifth_ends link.lanes drive.registers;
    })
