-- Exit statuses: this project's own.
use Rattle.std.specs.Prelude.{◌≡◌, ◌≢◌, ◌⊎◌, ℕ}

-- there is no other
abbrev pub IsExitStatus : ℕ → Type 0
IsExitStatus n =
    (n ≡ 0) ⊎ (n ≡ 2) ⊎ (n ≡ 3) ⊎ (n ≡ 4) ⊎ (n ≡ 5) ⊎ (n ≡ 6) ⊎ (n ≡ 7) ⊎ (n ≡ 8) ⊎ (n ≡ 9) ⊎ (n ≡ 10)
    ⊎ (n ≡ 13) ⊎ (n ≡ 14)

-- no fault was met, and there was memory
pub record IsClean (status : ℕ) : Type 0 where
  pub read : status ≢ 7
  pub written : status ≢ 8
  pub shown : status ≢ 9
  pub memory : status ≢ 10

-- the status comes only with its cause, and always with it where no fault was met and there was memory
pub record Means (status : ℕ) (Cause : Type 0) (result : ℕ) : Type 0 where
  pub only : result ≡ status → Cause
  pub always : Cause → IsClean result → result ≡ status
