-- A phase, round by round: what its statuses lead to is all that the rest of it depends on.
use Rattle.std.proofs.Common.{◌≡◌, ℕ, zero, suc, ◌+◌, ◌-◌, ◌<◌, ◌≤◌, List, [], ◌∷◌, ◌++◌, length, refl, sym, ap, ◌∙◌}
use Rattle.std.proofs.Common.{subst, arith, append_assoc, length-append, ◌⊎◌, inl, inr, Option, Some, None, Result, Ok, Err}
use Rattle.std.proofs.Common.{MatchResult}
use Rattle.std.specs.Prelude.{⊤}
use Rattle.std.proofs.lemmas.Bool.{cases_lt}
use Rattle.std.proofs.lemmas.List.{append-nil}
use Rattle.dpx_base.specs.declared.aux_port.Entry.{Entry}
use Rattle.dpx_base.specs.declared.lanes.Lanes.{Lanes}
use Rattle.dpx_aux.specs.declared.transaction.AuxEnd.{AuxEnd}
use Rattle.dpx_aux.specs.Conversation.{Ends, ◌>>=◌}
use Rattle.dpx_dpcd.specs.declared.status.Drive.{Drive}
use Rattle.dpx_dpcd.specs.declared.status.Status6.{Status6}
use Rattle.dpx_dpcd.specs.Status.{status_level}
use Rattle.dpx_phase.specs.declared.phase_end.PhaseEnd.{PhaseEnd}
use Rattle.dpx_phase.specs.declared.recovery.Level.{Level}
use Rattle.dpx_phase.specs.Drives.{no_drive, drive_after}
use Rattle.dpx_phase.specs.Endings.{EndsNothing, alike_after}
use Rattle.dpx_phase.specs.Equalisation.{equalisation}
use Rattle.dpx_phase.specs.Phase.{Phase, ReadsLater, Adjusts, Concludes, Follows}
use Rattle.dpx_phase.specs.Recovery.{recovery}
use Rattle.dpx_phase.proofs.Decided.{Turn, Turns, follows_turns}
use Rattle.dpx_phase.proofs.Endings.{LooksBack, recovery_looks_back, recovery_at, equalisation_looks_back, equalisation_at}
use Rattle.dpx_phase.proofs.FirstEnd.{tenth_ends, fifth_ends}
use Rattle.dpx_phase.proofs.RecoveryRounds.{runs_on}
use Rattle.dpx_phase.proofs.Statuses.{drive_after_end}
use Rattle.dpx_phase.proofs.SwingsAlike.{run, run-zero}
use Rattle.dpx_phase.proofs.SoFar.{Limited, SoFar, ends_here, none_so_far, round_more}
use Rattle.dpx_judge.specs.Machine.{first_level, next_drive, next_level}
use Rattle.dpx_judge.specs.Remainder.{Same, AfterStatus, Onward, RecoversOn, EqualisesOn, recovery_ending}
use Rattle.dpx_judge.specs.Remainder.{equalisation_ending}
use Rattle.dpx_judge.proofs.Same.{same, same_through, then_next}

-- the rest of a phase, from these statuses on
abbrev FollowsOn : Phase → ℕ → Type 0
FollowsOn phase more =
    (statuses : List Status6) (before : List Entry) (given : Result PhaseEnd AuxEnd) (rest : List Entry)
    → SoFar phase statuses before → Turns phase more statuses given rest → Follows phase given (before ++ rest)

-- behind a status, where the write of its drive gave this
written_on : (phase : Phase) → LooksBack phase.ending → (more : ℕ) → FollowsOn phase more
    → (statuses : List Status6) (status : Status6) (middle : Result ⊤ AuxEnd) (given : Result PhaseEnd AuxEnd)
    (before read write back rest : List Entry) → rest ≡ read ++ (write ++ back) → SoFar phase statuses before
    → ReadsLater phase.pause (Ok status) read
    → phase.ending (statuses ++ status ∷ []) (length statuses + 1) ≡ None
    → Adjusts phase.lanes (status_level phase.lanes status.bytes) middle write
    → MatchResult middle (λ written. Turns phase more (statuses ++ status ∷ []) given back)
    (λ error. (given ≡ Err error) × (back ≡ [])) → Follows phase given (before ++ rest)
written_on phase looks more on statuses status (Ok written) given before read write back rest joined so_far r none w t =
    let f = on (statuses ++ status ∷ []) (before ++ (read ++ write)) given back
    (round_more phase statuses status before read write looks so_far r none w) t in
    let e : (before ++ (read ++ write)) ++ back ≡ before ++ rest =
    append_assoc before (read ++ write) back
    ∙ ap (λ (xs : List Entry). before ++ xs) (append_assoc read write back ∙ sym joined) in
    subst (Follows phase given) e f
written_on phase looks more on statuses status (Err why) given before read write back rest joined so_far r none w t =
    let e : rest ≡ read ++ write = joined
    ∙ ap (λ (xs : List Entry). read ++ xs) (ap (λ (xs : List Entry). write ++ xs) t.1 ∙ append-nil write) in
    subst (λ (xs : List Entry). Follows phase given (before ++ xs)) (sym e)
    (ends_here phase statuses before (read ++ write) given so_far (record {
      middle = Ok status;
      front = read;
      back = write;
      joined = refl;
      begins = r;
      goes_on = subst (λ (found : Option PhaseEnd). Concludes phase status found given write) (sym none)
          (record { why = why; same = t.0; failed = w });
    }))

-- behind a status
found_on : (phase : Phase) → LooksBack phase.ending → (more : ℕ) → FollowsOn phase more
    → (statuses : List Status6) (status : Status6) (found : Option PhaseEnd) (given : Result PhaseEnd AuxEnd)
    (before read back rest : List Entry) → rest ≡ read ++ back → SoFar phase statuses before
    → ReadsLater phase.pause (Ok status) read
    → phase.ending (statuses ++ status ∷ []) (length statuses + 1) ≡ found
    → Turn phase status found (Turns phase more (statuses ++ status ∷ [])) given back
    → Follows phase given (before ++ rest)
unfolding Turn
found_on phase looks more on statuses status (Some end) given before read back rest joined so_far r e t =
    ends_here phase statuses before rest given so_far (record {
      middle = Ok status;
      front = read;
      back = back;
      joined = joined;
      begins = r;
      goes_on = subst (λ (found : Option PhaseEnd). Concludes phase status found given back) (sym e) t;
    })
found_on phase looks more on statuses status None given before read back rest joined so_far r e t =
    written_on phase looks more on statuses status t.middle given before read t.front t.back rest
    (joined ∙ ap (λ (xs : List Entry). read ++ xs) t.joined) so_far r e t.begins t.goes_on

read_on : (phase : Phase) → LooksBack phase.ending → (more : ℕ) → FollowsOn phase more
    → (statuses : List Status6) (middle : Result Status6 AuxEnd) (given : Result PhaseEnd AuxEnd)
    (before read back rest : List Entry) → rest ≡ read ++ back → SoFar phase statuses before
    → ReadsLater phase.pause middle read
    → MatchResult middle (λ status. Turn phase status
    (phase.ending (statuses ++ status ∷ []) (length statuses + 1)) (Turns phase more (statuses ++ status ∷ [])) given back)
    (λ error. (given ≡ Err error) × (back ≡ [])) → Follows phase given (before ++ rest)
read_on phase looks more on statuses (Ok status) given before read back rest joined so_far r t =
    found_on phase looks more on statuses status _ given before read back rest joined so_far r refl t
read_on phase looks more on statuses (Err why) given before read back rest joined so_far r t =
    ends_here phase statuses before rest given so_far (record {
      middle = Err why;
      front = read;
      back = back;
      joined = joined;
      begins = r;
      goes_on = t;
    })

follows_on : (phase : Phase) → LooksBack phase.ending → (more : ℕ) → FollowsOn phase more
unfolding Turns
follows_on phase looks zero statuses before given rest so_far t = absurd t
follows_on phase looks (suc more) statuses before given rest so_far t =
    read_on phase looks more (follows_on phase looks more) statuses t.middle given before t.front t.back rest t.joined
    so_far t.begins t.goes_on

few_statuses : (phase : Phase) (limit : ℕ) → Limited phase limit → (statuses : List Status6)
    → EndsNothing phase.ending statuses → (length statuses < limit) ⊎ (limit ≤ length statuses)
    → length statuses < limit
few_statuses phase limit limited statuses unended (inl few) = few
few_statuses phase limit limited statuses unended (inr many) =
    absurd (limited.always statuses (unended limit limited.some many))

follows_same : (phase : Phase) (limit : ℕ) → Limited phase limit
    → Same (Follows phase) (Turns phase limit [])
follows_same phase limit limited = record {
  to = λ given history f.
      follows_turns phase limited.looks limit given history f
      (few_statuses phase limit limited f.statuses f.unended (cases_lt (length f.statuses) limit));
  from = λ given history t.
      follows_on phase limited.looks limit [] [] given history (none_so_far phase) t;
}

-- a turn by what is found of its status
turn_same : (phase : Phase) (status : Status6) (found other : Option PhaseEnd)
    (rest more : Result PhaseEnd AuxEnd → List Entry → Type 0) → found ≡ other → Same rest more
    → Same (Turn phase status found rest) (AfterStatus phase.lanes status other more)
unfolding Turn
turn_same phase status found (Some end) rest more e s =
    subst (λ (f : Option PhaseEnd). Same (Turn phase status f rest) (Ends (Ok end))) (sym e) (same _)
turn_same phase status found None rest more e s =
    subst (λ (f : Option PhaseEnd). Same (Turn phase status f rest)
    (Adjusts phase.lanes (status_level phase.lanes status.bytes) >>= λ written. more)) (sym e)
    (then_next _ (λ written. s))

-- what a list of statuses leads to, and what it says of the next one
record Leads {L : Type 0} (phase : Phase) (limit : ℕ) (ends : ℕ → L → Status6 → Option PhaseEnd)
    (next : L → Status6 → L) (level_of : List Status6 → L) : Type 0 where
  pub found : (xs : List Status6) (x : Status6) (left : ℕ) → length xs + 1 + left ≡ limit
      → phase.ending (xs ++ x ∷ []) (length xs + 1) ≡ ends left (level_of xs) x
  pub step : (xs : List Status6) (x : Status6) → level_of (xs ++ x ∷ []) ≡ next (level_of xs) x

onward_same : {L : Type 0} (phase : Phase) (limit : ℕ) (ends : ℕ → L → Status6 → Option PhaseEnd)
    (next : L → Status6 → L) (level_of : List Status6 → L) → Leads phase limit ends next level_of
    → (left : ℕ) (xs : List Status6) → length xs + left ≡ limit
    → Same (Turns phase left xs) (Onward phase.lanes phase.pause ends next left (level_of xs))
unfolding Turns Onward
onward_same phase limit ends next level_of leads zero xs e =
    record { to = λ given history t. absurd t; from = λ given history t. absurd t.never }
onward_same phase limit ends next level_of leads (suc left) xs e =
    then_next (ReadsLater phase.pause) (λ status.
    turn_same phase status _ _ _ _ (leads.found xs status left (omega arith))
    (subst (λ (level : _). Same (Turns phase left (xs ++ status ∷ []))
    (Onward phase.lanes phase.pause ends next left level)) (leads.step xs status)
    (onward_same phase limit ends next level_of leads left (xs ++ status ∷ [])
    (omega (arith, length-append xs (status ∷ []))))))

-- clock recovery: the drive in force, and how many up to it are alike
abbrev level_of : Lanes → List Status6 → Level
level_of lanes xs = record {
  drive = record { registers = drive_after lanes no_drive xs (length xs) };
  alike = run (alike_after lanes no_drive xs) (length xs);
}

recovery_leads : (lanes : Lanes) → Leads (recovery lanes) 10 (recovery_ending lanes) (next_level lanes) (level_of lanes)
recovery_leads lanes = record {
  found = λ xs x left e.
      recovery_at lanes xs x (10 - left) _ _ (omega arith) refl refl;
  step = λ xs x.
      let drive = ap (λ (n : ℕ). drive_after lanes no_drive (xs ++ x ∷ []) n) (length-append xs (x ∷ []))
      ∙ drive_after_end lanes no_drive xs x in
      let alike = runs_on lanes xs x _ _ refl refl in
      cc;
}

pub recovers_same : (lanes : Lanes) → Same (Follows (recovery lanes)) (RecoversOn lanes 10 first_level)
recovers_same lanes =
    let first : level_of lanes [] ≡ first_level = (let e = run-zero (alike_after lanes no_drive []) in cc) in
    same_through (follows_same (recovery lanes) 10 (record {
      looks = recovery_looks_back lanes;
      some = omega arith;
      always = tenth_ends lanes;
    })) (subst (λ (level : Level). Same (Turns (recovery lanes) 10 []) (RecoversOn lanes 10 level)) first
    (onward_same (recovery lanes) 10 _ _ (level_of lanes) (recovery_leads lanes) 10 [] (omega arith)))

-- equalisation: the drive in force
abbrev drive_of : Lanes → Drive → List Status6 → Drive
drive_of lanes first xs = record { registers = drive_after lanes first.registers xs (length xs) }

equalisation_leads : (lanes : Lanes) (first : Drive) (pause : ℕ)
    → Leads (equalisation lanes first.registers pause) 5 (equalisation_ending lanes) (next_drive lanes)
    (drive_of lanes first)
equalisation_leads lanes first pause = record {
  found = λ xs x left e. equalisation_at lanes first.registers xs x (5 - left) _ (omega arith) refl;
  step = λ xs x.
      let drive = ap (λ (n : ℕ). drive_after lanes first.registers (xs ++ x ∷ []) n) (length-append xs (x ∷ []))
      ∙ drive_after_end lanes first.registers xs x in
      cc;
}

pub equalises_same : (lanes : Lanes) (first : Drive) (pause : ℕ)
    → Same (Follows (equalisation lanes first.registers pause)) (EqualisesOn lanes pause 5 first)
equalises_same lanes first pause =
    same_through (follows_same (equalisation lanes first.registers pause) 5 (record {
      looks = equalisation_looks_back lanes first.registers;
      some = omega arith;
      always = fifth_ends lanes first.registers;
    })) (onward_same (equalisation lanes first.registers pause) 5 _ _ (drive_of lanes first)
    (equalisation_leads lanes first pause) 5 [] (omega arith))
