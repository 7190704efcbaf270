-- Rows, as far as there is room.
use Rattle.std.proofs.Common.{ℕ, ◌≡◌, ◌<◌, ◌≤◌, List, [], ◌∷◌, ◌++◌, length, take, sym, ap, ◌∙◌, arith}
use Rattle.std.proofs.Common.{length-append}
use Rattle.std.proofs.lemmas.List.{take_all, take-append-le, length-take}

-- there is room for one more
pub stored : (rows held more : List (List ℕ)) (row : List ℕ) (room : ℕ) → more ≡ held ++ row ∷ []
    → held ≡ take room rows → length held < room → more ≡ take room (rows ++ row ∷ [])
stored rows held more row room m h l =
    let short : length rows ≤ room = omega (arith, ap length h, length-take room rows) in
    let fits : length (rows ++ row ∷ []) ≤ room =
    omega (arith, ap length h, length-take room rows, length-append rows (row ∷ [])) in
    m ∙ (ap (λ xs. xs ++ row ∷ []) (h ∙ take_all room rows short) ∙ sym (take_all room (rows ++ row ∷ []) fits))

-- there is none
pub full : (rows held : List (List ℕ)) (row : List ℕ) (room : ℕ) → held ≡ take room rows → room ≤ length held
    → held ≡ take room (rows ++ row ∷ [])
full rows held row room h l =
    h ∙ sym (take-append-le room rows (row ∷ []) (omega (arith, ap length h, length-take room rows)))
