-- A row that is worked on place by place.
use Rattle.std.proofs.Common.{◌≡◌, ℕ, ◌<◌, ◌+◌, List, [], ◌∷◌, ◌++◌, length, take, drop, set, get_or, refl, sym, ap}
use Rattle.std.proofs.Common.{subst, ◌∙◌}
use Rattle.std.proofs.Common.{arith, append_assoc, add-zero}
use Rattle.std.proofs.lemmas.List.{get_or-drop, take_more, take_more_set, drop-set-lt, drop-drop}

-- an entry that was not worked on yet
pub entry_left : (before row : List ℕ) (i : ℕ) → drop i row ≡ drop i before → get_or row i 0 ≡ get_or before i 0
entry_left before row i same =
    ap (λ (k : ℕ). get_or row k 0) (sym (add-zero i))
    ∙ (sym (get_or-drop i row 0 0)
    ∙ (ap (λ (xs : List ℕ). get_or xs 0 0) same
    ∙ (get_or-drop i before 0 0 ∙ ap (λ (k : ℕ). get_or before k 0) (add-zero i))))

-- What holds of the entries so far and of those left in their places holds of one more.
pub row_more : (old now new : List ℕ → List ℕ → Type 0) (before row : List ℕ) (i out : ℕ) → i < length before
    → length row ≡ length before
    → ((taken left : List ℕ) → old taken left → now (taken ++ take i before) (left ++ take i row))
    → drop i row ≡ drop i before
    → ((taken left : List ℕ) → now taken left → new (taken ++ get_or row i 0 ∷ []) (left ++ out ∷ []))
    → (taken left : List ℕ) → old taken left → new (taken ++ take (i + 1) before) (left ++ take (i + 1) (set row i out))
row_more old now new before row i out l long so_far same after taken left h =
    let here = entry_left before row i same in
    let a : taken ++ take (i + 1) before ≡ (taken ++ take i before) ++ get_or row i 0 ∷ [] =
    ap (λ (xs : List ℕ). taken ++ xs)
    (take_more before i 0 l ∙ ap (λ (k : ℕ). take i before ++ k ∷ []) (sym here))
    ∙ sym (append_assoc taken (take i before) (get_or row i 0 ∷ [])) in
    let b : left ++ take (i + 1) (set row i out) ≡ (left ++ take i row) ++ out ∷ [] =
    ap (λ (xs : List ℕ). left ++ xs) (take_more_set row i out (omega (arith, l, long)))
    ∙ sym (append_assoc left (take i row) (out ∷ [])) in
    let r = after (taken ++ take i before) (left ++ take i row) (so_far taken left h) in
    subst (λ (xs : List ℕ). new xs (left ++ take (i + 1) (set row i out))) (sym a)
    (subst (λ (xs : List ℕ). new ((taken ++ take i before) ++ get_or row i 0 ∷ []) xs) (sym b) r)

-- the entries behind are as they were
pub rest_more : (before row : List ℕ) (i out : ℕ) → drop i row ≡ drop i before
    → drop (i + 1) (set row i out) ≡ drop (i + 1) before
rest_more before row i out same =
    drop-set-lt (i + 1) row i out (omega arith)
    ∙ (sym (drop-drop 1 i row) ∙ (ap (drop 1) same ∙ drop-drop 1 i before))
