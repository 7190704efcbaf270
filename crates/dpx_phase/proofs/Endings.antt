-- Where the phases end, at the last of a list of statuses, and that more statuses behind change nothing.
use Rattle.std.proofs.Common.{◌≡◌, ℕ, ◌+◌, ◌-◌, ◌≤◌, Bool, nat_le, List, [], ◌∷◌, ◌++◌, length, sym, ap, ◌∙◌, arith}
use Rattle.std.proofs.Common.{Option}
use Rattle.dpx_base.specs.declared.lanes.Lanes.{Lanes}
use Rattle.dpx_dpcd.specs.declared.status.Status6.{Status6}
use Rattle.dpx_phase.specs.declared.phase_end.PhaseEnd.{PhaseEnd}
use Rattle.dpx_phase.specs.Drives.{no_drive, drive_after}
use Rattle.dpx_phase.specs.Endings.{alike_after, recovery_end, recovery_ends, equalisation_end, equalisation_ends}
use Rattle.dpx_phase.proofs.Statuses.{status_at-append, status_at_end, drive_after-append}
use Rattle.dpx_phase.proofs.SwingsAlike.{run, five_alike-append, five_alike-run}

-- whether a phase ends at a status depends on it and on those before it
pub record LooksBack (ending : List Status6 → ℕ → Option PhaseEnd) : Type 0 where
  pub same : (xs ys : List Status6) (n : ℕ) → 1 ≤ n → n ≤ length xs → ending (xs ++ ys) n ≡ ending xs n

recovery_end-same : (lanes : Lanes) (s t : Status6) (v w : List ℕ) (a b : Bool) (n : ℕ) → s ≡ t → v ≡ w → a ≡ b
    → recovery_end lanes a n v s ≡ recovery_end lanes b n w t
recovery_end-same lanes s t v w a b n p q r =
    ap (λ (x : Status6). recovery_end lanes a n v x) p
    ∙ ap (λ (x : List ℕ). recovery_end lanes a n x t) q
    ∙ ap (λ (x : Bool). recovery_end lanes x n w t) r

pub recovery_looks_back : (lanes : Lanes) → LooksBack (recovery_ends lanes)
unfolding recovery_ends
recovery_looks_back lanes = record {
  same = λ xs ys n some within.
      recovery_end-same lanes _ _ _ _ _ _ n
      (status_at-append xs ys n some within)
      (drive_after-append lanes no_drive xs ys (n - 1) (omega arith))
      (five_alike-append lanes no_drive xs ys n (omega arith));
}

-- by the drive in force and the count of drives alike
pub recovery_at : (lanes : Lanes) (xs : List Status6) (x : Status6) (n : ℕ) (drive : List ℕ) (alike : ℕ)
    → n ≡ length xs + 1 → drive ≡ drive_after lanes no_drive xs (length xs)
    → alike ≡ run (alike_after lanes no_drive xs) (length xs)
    → recovery_ends lanes (xs ++ x ∷ []) (length xs + 1) ≡ recovery_end lanes (nat_le 5 alike) n drive x
unfolding recovery_ends
recovery_at lanes xs x n drive alike counted tracks runs =
    recovery_end-same lanes _ _ _ _ _ _ (length xs + 1)
    (status_at_end xs x)
    (ap (λ (k : ℕ). drive_after lanes no_drive (xs ++ x ∷ []) k)
    (let e : length xs + 1 - 1 ≡ length xs = omega arith in e)
    ∙ drive_after-append lanes no_drive xs (x ∷ []) (length xs) (omega arith) ∙ sym tracks)
    (five_alike-append lanes no_drive xs (x ∷ []) (length xs + 1) (omega arith)
    ∙ five_alike-run lanes no_drive xs (length xs) ∙ ap (nat_le 5) (sym runs))
    ∙ ap (λ (k : ℕ). recovery_end lanes (nat_le 5 alike) k drive x) (sym counted)

equalisation_end-same : (lanes : Lanes) (s t : Status6) (v w : List ℕ) (n : ℕ) → s ≡ t → v ≡ w
    → equalisation_end lanes n v s ≡ equalisation_end lanes n w t
equalisation_end-same lanes s t v w n p q =
    ap (λ (x : Status6). equalisation_end lanes n v x) p
    ∙ ap (λ (x : List ℕ). equalisation_end lanes n x t) q

pub equalisation_looks_back : (lanes : Lanes) (first : List ℕ) → LooksBack (equalisation_ends lanes first)
unfolding equalisation_ends
equalisation_looks_back lanes first = record {
  same = λ xs ys n some within.
      equalisation_end-same lanes _ _ _ _ n
      (status_at-append xs ys n some within)
      (drive_after-append lanes first xs ys (n - 1) (omega arith));
}

-- by the drive in force
pub equalisation_at : (lanes : Lanes) (first : List ℕ) (xs : List Status6) (x : Status6) (n : ℕ) (drive : List ℕ)
    → n ≡ length xs + 1 → drive ≡ drive_after lanes first xs (length xs)
    → equalisation_ends lanes first (xs ++ x ∷ []) (length xs + 1) ≡ equalisation_end lanes n drive x
unfolding equalisation_ends
equalisation_at lanes first xs x n drive counted tracks =
    equalisation_end-same lanes _ _ _ _ (length xs + 1)
    (status_at_end xs x)
    (ap (λ (k : ℕ). drive_after lanes first (xs ++ x ∷ []) k) (let e : length xs + 1 - 1 ≡ length xs = omega arith in e)
    ∙ drive_after-append lanes first xs (x ∷ []) (length xs) (omega arith) ∙ sym tracks)
    ∙ ap (λ (k : ℕ). equalisation_end lanes k drive x) (sym counted)
