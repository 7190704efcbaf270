-- The least status at which a phase ends.
use Rattle.std.proofs.Common.{◌≡◌, ℕ, zero, suc, ◌<◌, ◌≤◌, ◌⊎◌, inl, inr, Bool, true, false, List, [], ◌∷◌, ◌++◌}
use Rattle.std.proofs.Common.{length, take, drop, refl, sym, ap, ◌∙◌, subst, arith, length-append, length-take-le}
use Rattle.std.proofs.Common.{Option, Some, None}
use Rattle.std.proofs.lemmas.Bool.{cases_eq}
use Rattle.std.proofs.lemmas.List.{take-append-drop}
use Rattle.dpx_base.specs.declared.lanes.Lanes.{Lanes}
use Rattle.dpx_dpcd.specs.declared.status.Status6.{Status6}
use Rattle.dpx_phase.specs.declared.phase_end.PhaseEnd.{PhaseEnd}
use Rattle.dpx_phase.specs.Endings.{first_of_four, recovery_ends, first_of_three, equalisation_ends, EndsAt}
use Rattle.dpx_phase.specs.Laws.{EndsOnce, EndsWithin}
use Rattle.dpx_phase.proofs.Endings.{LooksBack}

-- statuses that end a phase leave no end to those behind
pub ends_once : (ending : List Status6 → ℕ → Option PhaseEnd) → LooksBack ending → EndsOnce ending
ends_once ending looks xs [] a b first second =
    let same : ending (xs ++ []) (length xs) ≡ ending xs (length xs) =
    looks.same xs [] (length xs) first.some (omega arith) in
    let e : length (xs ++ []) ≡ length xs = omega (arith, length-append xs []) in
    let last : ending (xs ++ []) (length xs) ≡ Some b = subst (λ (n : ℕ). ending (xs ++ []) n ≡ Some b) e second.last in
    let f = first.last in
    (refl, cc)
ends_once ending looks xs (y ∷ ys) a b first second =
    let same : ending (xs ++ y ∷ ys) (length xs) ≡ ending xs (length xs) =
    looks.same xs (y ∷ ys) (length xs) first.some (omega arith) in
    let none : ending (xs ++ y ∷ ys) (length xs) ≡ None =
    second.earlier (length xs) first.some (omega (arith, length-append xs (y ∷ ys))) in
    let f = first.last in
    absurd (cc)

-- one of the first statuses ends the phase, and none before it
record Least (ending : List Status6 → ℕ → Option PhaseEnd) (statuses : List Status6) (count : ℕ) : Type 0 where
  pub place : ℕ
  pub end : PhaseEnd
  pub some : 1 ≤ place
  pub few : place ≤ count
  pub ends : ending statuses place ≡ Some end
  pub earlier : (n : ℕ) → 1 ≤ n → n < place → ending statuses n ≡ None

none_more : (ending : List Status6 → ℕ → Option PhaseEnd) (xs : List Status6) (m : ℕ)
    → ((n : ℕ) → 1 ≤ n → n ≤ m → ending xs n ≡ None) → ending xs (suc m) ≡ None → (n : ℕ) → 1 ≤ n → n ≤ suc m
    → ending xs n ≡ None
none_more ending xs m before here n some few =
    elim (cases_eq n (suc m)) [
      | inl e ↦ subst (λ (k : ℕ). ending xs k ≡ None) (sym e) here
      | inr d ↦ before n some (omega arith)
    ]

here_or_not : (ending : List Status6 → ℕ → Option PhaseEnd) (xs : List Status6) (m : ℕ) (given : Option PhaseEnd)
    → ending xs (suc m) ≡ given → ((n : ℕ) → 1 ≤ n → n ≤ m → ending xs n ≡ None)
    → ((n : ℕ) → 1 ≤ n → n ≤ suc m → ending xs n ≡ None) ⊎ Least ending xs (suc m)
here_or_not ending xs m None e before = inl (none_more ending xs m before e)
here_or_not ending xs m (Some end) e before = inr (record {
  place = suc m;
  end = end;
  some = omega arith;
  few = omega arith;
  ends = e;
  earlier = λ n some few. before n some (omega arith);
})

more_of : (ending : List Status6 → ℕ → Option PhaseEnd) (xs : List Status6) (m : ℕ)
    → ((n : ℕ) → 1 ≤ n → n ≤ m → ending xs n ≡ None) ⊎ Least ending xs m
    → ((n : ℕ) → 1 ≤ n → n ≤ suc m → ending xs n ≡ None) ⊎ Least ending xs (suc m)
more_of ending xs m (inl before) = here_or_not ending xs m (ending xs (suc m)) refl before
more_of ending xs m (inr l) = inr (record {
  place = l.place;
  end = l.end;
  some = l.some;
  few = omega (arith, l.few);
  ends = l.ends;
  earlier = l.earlier;
})

least_of : (ending : List Status6 → ℕ → Option PhaseEnd) (xs : List Status6) (m : ℕ)
    → ((n : ℕ) → 1 ≤ n → n ≤ m → ending xs n ≡ None) ⊎ Least ending xs m
least_of ending xs zero = inl (λ n some few. absurd (omega arith))
least_of ending xs (suc m) = more_of ending xs m (least_of ending xs m)

ends_at_least : (ending : List Status6 → ℕ → Option PhaseEnd) → LooksBack ending → (xs : List Status6) (count : ℕ)
    → length xs ≡ count → (l : Least ending xs count) → EndsAt ending (take l.place xs) l.end
ends_at_least ending looks xs count e l =
    let within : l.place ≤ length xs = omega (arith, l.few) in
    let size : length (take l.place xs) ≡ l.place = length-take-le l.place xs within in
    let whole : take l.place xs ++ drop l.place xs ≡ xs = take-append-drop l.place xs in
    let at : (n : ℕ) → 1 ≤ n → n ≤ l.place → ending (take l.place xs) n ≡ ending xs n =
    λ n some few. sym (looks.same (take l.place xs) (drop l.place xs) n some (omega arith))
    ∙ ap (λ (ys : List Status6). ending ys n) whole in
    record {
      some = omega (arith, l.some);
      last = ap (ending (take l.place xs)) size ∙ at l.place l.some (omega arith) ∙ l.ends;
      earlier = λ n some few. at n some (omega arith) ∙ l.earlier n some (omega arith);
    }

pub ends_within : (ending : List Status6 → ℕ → Option PhaseEnd) (count : ℕ) → LooksBack ending
    → ((statuses : List Status6) → ending statuses count ≡ None → ⊥) → 1 ≤ count → EndsWithin count ending
ends_within ending count looks always some xs e =
    elim (least_of ending xs count) [
      | inl none ↦ absurd (always xs (none count some (omega arith)))
      | inr l ↦ (l.place, l.end, l.few, ends_at_least ending looks xs count e l)
    ]

tenth_of_four : (recovered full alike : Bool) (drive : List ℕ) (last : Status6)
    → first_of_four recovered full alike true drive last ≡ None → ⊥
tenth_of_four true full alike drive last e = cc
tenth_of_four false true alike drive last e = cc
tenth_of_four false false true drive last e = cc
tenth_of_four false false false drive last e = cc

pub tenth_ends : (lanes : Lanes) (statuses : List Status6) → recovery_ends lanes statuses 10 ≡ None → ⊥
unfolding recovery_ends
tenth_ends lanes statuses e = tenth_of_four _ _ _ _ _ e

fifth_of_three : (recovered equalised : Bool) (drive : List ℕ) (last : Status6)
    → first_of_three recovered equalised true drive last ≡ None → ⊥
fifth_of_three false equalised drive last e = cc
fifth_of_three true true drive last e = cc
fifth_of_three true false drive last e = cc

pub fifth_ends : (lanes : Lanes) (first : List ℕ) (statuses : List Status6)
    → equalisation_ends lanes first statuses 5 ≡ None → ⊥
unfolding equalisation_ends
fifth_ends lanes first statuses e = fifth_of_three _ _ _ _ e
