-- Clock recovery as it goes on.
use Rattle.std.proofs.Common.{◌≡◌, ℕ, ◌+◌, ◌*◌, ◌<◌, ◌≤◌, nat_le, if◌then◌else◌, List, [], ◌∷◌, ◌++◌, length, refl, sym}
use Rattle.std.proofs.Common.{ap, ◌∙◌, arith, length-append, Option, Some, None, Ok, Err}
use Rattle.dpx_base.specs.declared.lanes.Lanes.{Lanes}
use Rattle.dpx_base.specs.Port.{PortState}
use Rattle.dpx_aux.specs.declared.transaction.AuxEnd.{AuxEnd}
use Rattle.dpx_aux.specs.Conversation.{Converses}
use Rattle.dpx_dpcd.specs.declared.status.Status6.{Status6}
use Rattle.dpx_dpcd.specs.Status.{status_level}
use Rattle.dpx_phase.specs.declared.phase_end.PhaseEnd.{PhaseEnd}
use Rattle.dpx_phase.specs.Drives.{no_drive, drive_after, same_swings}
use Rattle.dpx_phase.specs.Endings.{alike_after, recovery_end, recovery_ends}
use Rattle.dpx_phase.specs.Phase.{ReadsLater, Adjusts, Follows}
use Rattle.dpx_phase.specs.Recovery.{recovery}
use Rattle.dpx_phase.proofs.Statuses.{drive_after-append, drive_after_end}
use Rattle.dpx_phase.proofs.SwingsAlike.{run, run-zero, run-more, run-same, run-few, alike_after-append}
use Rattle.dpx_phase.proofs.Endings.{recovery_at, recovery_looks_back}
use Rattle.dpx_phase.proofs.Rounds.{Goes, goes_not_yet, goes_on, ends_at, unread, unwritten}

-- so many statuses ended nothing; the drive in force, and how many drives up to it are alike
pub record RecoveryGoes {Plan : Type 0} (lanes : Lanes) (count : ℕ) (drive : List ℕ) (alike : ℕ)
    (before now : PortState Plan) : Type 0 where
  pub statuses : List Status6
  pub counted : length statuses ≡ count
  pub goes : Goes (recovery lanes) no_drive statuses drive before now
  pub runs : alike ≡ run (alike_after lanes no_drive statuses) (length statuses)
  pub few : now.asked ≤ before.asked + 16 * count
  pub within : count < 10

pub recovers_not_yet : {Plan : Type 0} (lanes : Lanes) (state : PortState Plan)
    → RecoveryGoes lanes 0 no_drive 1 state state
recovers_not_yet lanes state = record {
  statuses = [];
  counted = refl;
  goes = goes_not_yet (recovery lanes) no_drive state;
  runs = sym (run-zero _);
  few = omega arith;
  within = omega arith;
}

pub alike_few : {Plan : Type 0} {lanes : Lanes} {count alike : ℕ} {drive : List ℕ} {before now : PortState Plan}
    → RecoveryGoes lanes count drive alike before now → alike ≤ 10
alike_few {lanes = lanes} r =
    let e = run-few (alike_after lanes no_drive r.statuses) (length r.statuses) in
    omega (arith, e, r.runs, r.counted, r.within)

-- what the code finds of the next status is what its place in the list gives
pub found : {Plan : Type 0} {lanes : Lanes} {count alike : ℕ} {drive : List ℕ} {before now : PortState Plan} (n : ℕ)
    (status : Status6) (end : Option PhaseEnd) (r : RecoveryGoes lanes count drive alike before now) → n ≡ count + 1
    → end ≡ recovery_end lanes (nat_le 5 alike) n drive status
    → recovery_ends lanes (r.statuses ++ status ∷ []) (length r.statuses + 1) ≡ end
found {lanes = lanes} {alike = alike} {drive = drive} n status end r counted given =
    recovery_at lanes r.statuses status n drive alike (omega (arith, counted, r.counted)) r.goes.tracks r.runs
    ∙ sym given

-- one more status, and the count of drives alike
pub runs_on : (lanes : Lanes) (xs : List Status6) (x : Status6) (drive : List ℕ) (alike : ℕ)
    → drive ≡ drive_after lanes no_drive xs (length xs) → alike ≡ run (alike_after lanes no_drive xs) (length xs)
    → (if same_swings lanes drive (status_level lanes x.bytes) then alike + 1 else 1)
    ≡ run (alike_after lanes no_drive (xs ++ x ∷ [])) (length (xs ++ x ∷ []))
runs_on lanes xs x drive alike tracks runs =
    let more = xs ++ x ∷ [] in
    let same : run (alike_after lanes no_drive more) (length xs) ≡ run (alike_after lanes no_drive xs) (length xs) =
    run-same _ _ (length xs) (λ k l. alike_after-append lanes no_drive xs (x ∷ []) k (omega arith)) in
    let now : drive_after lanes no_drive more (length xs) ≡ drive =
    drive_after-append lanes no_drive xs (x ∷ []) (length xs) (omega arith) ∙ sym tracks in
    let next : drive_after lanes no_drive more (length xs + 1) ≡ status_level lanes x.bytes =
    drive_after_end lanes no_drive xs x in
    sym (
    ap (run (alike_after lanes no_drive more)) (length-append xs (x ∷ []))
    ∙ run-more (alike_after lanes no_drive more) (length xs)
    ∙ ap (λ (n : ℕ). if same_swings lanes (drive_after lanes no_drive more (length xs))
    (drive_after lanes no_drive more (length xs + 1)) then n + 1 else 1) (same ∙ sym runs)
    ∙ ap (λ (v : List ℕ). if same_swings lanes v
    (drive_after lanes no_drive more (length xs + 1)) then alike + 1 else 1) now
    ∙ ap (λ (v : List ℕ). if same_swings lanes drive v then alike + 1 else 1) next)

-- a round that ended nothing, from the port's state before it to the one after
pub record RoundOf {Plan : Type 0} (lanes : Lanes) (n : ℕ) (drive : List ℕ) (alike : ℕ) (status : Status6)
    (before later now : PortState Plan) : Type 0 where
  pub reads : Converses (ReadsLater 100) before later (Ok status)
  pub ends_nothing : None ≡ recovery_end lanes (nat_le 5 alike) n drive status
  pub writes : Converses (Adjusts lanes (status_level lanes status.bytes)) later now (Ok tt)
  pub few : n < 10
  pub read_few : later.asked ≤ before.asked + 8
  pub write_few : now.asked ≤ later.asked + 8

pub recovers_on : {Plan : Type 0} {lanes : Lanes} {count alike n : ℕ} {drive : List ℕ}
    {before middle later now : PortState Plan} {status : Status6} → RecoveryGoes lanes count drive alike before middle
    → RoundOf lanes n drive alike status middle later now → n ≡ count + 1
    → RecoveryGoes lanes n (status_level lanes status.bytes) (if same_swings lanes drive (status_level lanes status.bytes) then alike + 1 else 1) before now
recovers_on {lanes = lanes} {alike = alike} {n = n} {drive = drive} {status = status} r round counted = record {
  statuses = r.statuses ++ status ∷ [];
  counted = omega (arith, length-append r.statuses (status ∷ []), r.counted, counted);
  goes = goes_on r.goes (recovery_looks_back lanes) round.reads
      (found n status None r counted round.ends_nothing) round.writes;
  runs = runs_on lanes r.statuses status drive alike r.goes.tracks r.runs;
  few = omega (arith, r.few, round.read_few, round.write_few, counted);
  within = round.few;
}

pub recovered : {Plan : Type 0} {lanes : Lanes} {count alike : ℕ} {drive : List ℕ} {before middle now : PortState Plan}
    {status : Status6} {end : PhaseEnd} → RecoveryGoes lanes count drive alike before middle → (n : ℕ) → n ≡ count + 1
    → Converses (ReadsLater 100) middle now (Ok status) → Some end ≡ recovery_end lanes (nat_le 5 alike) n drive status
    → Converses (Follows (recovery lanes)) before now (Ok end)
recovered {status = status} {end = end} r n counted reads given =
    ends_at r.goes reads (found n status (Some end) r counted given)

pub unread_recovery : {Plan : Type 0} {lanes : Lanes} {count alike : ℕ} {drive : List ℕ}
    {before middle now : PortState Plan} {why : AuxEnd} → RecoveryGoes lanes count drive alike before middle → Converses
    (ReadsLater 100) middle now (Err why) → Converses (Follows (recovery lanes)) before now (Err why)
unread_recovery r reads = unread r.goes reads

pub unwritten_recovery : {Plan : Type 0} {lanes : Lanes} {count alike : ℕ} {drive : List ℕ}
    {before middle later now : PortState Plan} {status : Status6} {why : AuxEnd}
    → RecoveryGoes lanes count drive alike before middle → (n : ℕ) → n ≡ count + 1 → Converses
    (ReadsLater 100) middle later (Ok status) → None ≡ recovery_end lanes (nat_le 5 alike) n drive status
    → Converses (Adjusts lanes (status_level lanes status.bytes)) later now (Err why)
    → Converses (Follows (recovery lanes)) before now (Err why)
unwritten_recovery {status = status} r n counted reads given writes =
    unwritten r.goes reads (found n status None r counted given) writes
