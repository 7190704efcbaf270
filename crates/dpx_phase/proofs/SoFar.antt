-- A phase behind some rounds: what they leave, and how it goes on.
use Rattle.std.proofs.Common.{◌≡◌, ℕ, ◌+◌, ◌≤◌, List, [], ◌∷◌, ◌++◌, length, refl, sym}
use Rattle.std.proofs.Common.{subst}
use Rattle.std.proofs.Common.{arith, Option, Some, None, Result, Ok, Err}
use Rattle.std.proofs.lemmas.List.{append-nil}
use Rattle.dpx_base.specs.declared.aux_port.Entry.{Entry}
use Rattle.dpx_aux.specs.declared.transaction.AuxEnd.{AuxEnd}
use Rattle.dpx_dpcd.specs.declared.status.Status6.{Status6}
use Rattle.dpx_dpcd.specs.Status.{status_level}
use Rattle.dpx_phase.specs.declared.phase_end.PhaseEnd.{PhaseEnd}
use Rattle.dpx_phase.specs.Endings.{EndsNothing}
use Rattle.dpx_phase.specs.Phase.{Phase, ReadsLater, Adjusts, Round, Rounds, Concludes, LastRound, Follows}
use Rattle.dpx_phase.proofs.Endings.{LooksBack}
use Rattle.dpx_phase.proofs.Rounds.{Rounds-push, EndsNothing-push}

-- the rounds so far
pub record SoFar (phase : Phase) (statuses : List Status6) (before : List Entry) : Type 0 where
  pub unended : EndsNothing phase.ending statuses
  pub rounds : Rounds phase statuses before

-- none as yet
pub none_so_far : (phase : Phase) → SoFar phase [] []
none_so_far phase = record { unended = λ n some few. absurd (omega arith); rounds = refl }

-- the last round is here
pub ends_here : (phase : Phase) (statuses : List Status6) (before last : List Entry) (given : Result PhaseEnd AuxEnd)
    → SoFar phase statuses before → LastRound phase statuses given last → Follows phase given (before ++ last)
ends_here phase statuses before last given so_far l = record {
  statuses = statuses;
  unended = so_far.unended;
  before = before;
  last = last;
  joined = refl;
  rounds = so_far.rounds;
  ends = l;
}

-- a status that could not be read
pub unread : (phase : Phase) (statuses : List Status6) (read : List Entry) (why : AuxEnd)
    → ReadsLater phase.pause (Err why) read → LastRound phase statuses (Err why) read
unread phase statuses read why r = record {
  middle = Err why;
  front = read;
  back = [];
  joined = sym (append-nil read);
  begins = r;
  goes_on = (refl, refl);
}

-- a status that ends the phase
pub ends_at : (phase : Phase) (statuses : List Status6) (status : Status6) (end : PhaseEnd) (read : List Entry)
    → ReadsLater phase.pause (Ok status) read
    → phase.ending (statuses ++ status ∷ []) (length statuses + 1) ≡ Some end → LastRound phase statuses (Ok end) read
ends_at phase statuses status end read r e = record {
  middle = Ok status;
  front = read;
  back = [];
  joined = sym (append-nil read);
  begins = r;
  goes_on = subst (λ (found : Option PhaseEnd). Concludes phase status found (Ok end) []) (sym e)
      (record { same = refl; nothing = refl });
}

-- a status that ends nothing, and a drive that could not be written
pub unwritten : (phase : Phase) (statuses : List Status6) (status : Status6) (why : AuxEnd) (read write : List Entry)
    → ReadsLater phase.pause (Ok status) read
    → phase.ending (statuses ++ status ∷ []) (length statuses + 1) ≡ None
    → Adjusts phase.lanes (status_level phase.lanes status.bytes) (Err why) write
    → LastRound phase statuses (Err why) (read ++ write)
unwritten phase statuses status why read write r e w = record {
  middle = Ok status;
  front = read;
  back = write;
  joined = refl;
  begins = r;
  goes_on = subst (λ (found : Option PhaseEnd). Concludes phase status found (Err why) write) (sym e)
      (record { why = why; same = refl; failed = w });
}

-- a whole round
pub whole_round : (phase : Phase) (status : Status6) (read write : List Entry) → ReadsLater phase.pause (Ok status) read
    → Adjusts phase.lanes (status_level phase.lanes status.bytes) (Ok tt) write
    → Round phase (Ok status) (read ++ write)
whole_round phase status read write r w = record {
  middle = Ok status;
  front = read;
  back = write;
  joined = refl;
  begins = r;
  goes_on = record {
    middle = Ok tt;
    front = write;
    back = [];
    joined = sym (append-nil write);
    begins = w;
    goes_on = record { same = refl; nothing = refl };
  };
}

pub round_more : (phase : Phase) (statuses : List Status6) (status : Status6) (before read write : List Entry)
    → LooksBack phase.ending → SoFar phase statuses before → ReadsLater phase.pause (Ok status) read
    → phase.ending (statuses ++ status ∷ []) (length statuses + 1) ≡ None
    → Adjusts phase.lanes (status_level phase.lanes status.bytes) (Ok tt) write
    → SoFar phase (statuses ++ status ∷ []) (before ++ (read ++ write))
round_more phase statuses status before read write looks so_far r e w = record {
  unended = EndsNothing-push phase.ending statuses status looks so_far.unended e;
  rounds = Rounds-push phase statuses status before (read ++ write) so_far.rounds
      (whole_round phase status read write r w);
}

-- a phase that the status of this number always ends
pub record Limited (phase : Phase) (limit : ℕ) : Type 0 where
  pub looks : LooksBack phase.ending
  pub some : 1 ≤ limit
  pub always : (all : List Status6) → phase.ending all limit ≡ None → ⊥
