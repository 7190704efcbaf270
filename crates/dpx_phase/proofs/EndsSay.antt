-- What an end says of the last status, whatever the history was.
use Rattle.std.proofs.Common.{◌≡◌, ℕ, Bool, true, false, List, [], ◌∷◌, ◌++◌, length, ◌+◌, refl, sym, subst, Option, Some, None, Result, Ok}
use Rattle.std.proofs.Common.{Err, MatchResult}
use Rattle.std.specs.Prelude.{⊤}
use Rattle.dpx_base.specs.declared.aux_port.Entry.{Entry}
use Rattle.dpx_base.specs.declared.lanes.Lanes.{Lanes}
use Rattle.dpx_aux.specs.declared.transaction.AuxEnd.{AuxEnd}
use Rattle.dpx_aux.specs.Conversation.{ResultsAre}
use Rattle.dpx_dpcd.specs.declared.pattern.Pattern.{Pattern}
use Rattle.dpx_dpcd.specs.declared.status.Status6.{Status6}
use Rattle.dpx_dpcd.specs.Status.{cr_done, eq_done}
use Rattle.dpx_phase.specs.declared.phase_end.PhaseEnd.{PhaseEnd}
use Rattle.dpx_phase.specs.declared.phase_end.PhaseEnd.TheVariants.{Done, Failed, Lost, Aux}
use Rattle.dpx_phase.specs.declared.phase_end.FailCause.TheVariants.{MaxSwing, SameSwing, Reads}
use Rattle.dpx_phase.specs.Endings.{first_of_four, recovery_ends, first_of_three, equalisation_ends}
use Rattle.dpx_phase.specs.Equalisation.{EndsEqualisation}
use Rattle.dpx_phase.specs.Phase.{Phase, Concludes, Follows, Takes, as_end}
use Rattle.dpx_phase.specs.Recovery.{EndsRecovery}

four_say : (lanes : Lanes) (recovered full alike tenth : Bool) (drive : List ℕ) (last : Status6) (end : PhaseEnd)
    → cr_done lanes last.bytes ≡ recovered → Some end ≡ first_of_four recovered full alike tenth drive last
    → EndsRecovery lanes end
four_say lanes true full alike tenth drive last end r e = let same : Done (record { registers = drive }) last ≡ end =
    cc in subst (EndsRecovery lanes) same r
four_say lanes false true alike tenth drive last end r e = let same : Failed last MaxSwing ≡ end = cc in
    subst (EndsRecovery lanes) same r
four_say lanes false false true tenth drive last end r e = let same : Failed last SameSwing ≡ end = cc in
    subst (EndsRecovery lanes) same r
four_say lanes false false false true drive last end r e = let same : Failed last Reads ≡ end = cc in
    subst (EndsRecovery lanes) same r
four_say lanes false false false false drive last end r e = absurd (cc)

pub recovery_honest : (lanes : Lanes) (statuses : List Status6) (n : ℕ) (end : PhaseEnd)
    → recovery_ends lanes statuses n ≡ Some end → EndsRecovery lanes end
unfolding recovery_ends
recovery_honest lanes statuses n end e = four_say lanes _ _ _ _ _ _ end refl (sym e)

three_say : (lanes : Lanes) (recovered equalised fifth : Bool) (drive : List ℕ) (last : Status6) (end : PhaseEnd)
    → cr_done lanes last.bytes ≡ recovered → eq_done lanes last.bytes ≡ equalised
    → Some end ≡ first_of_three recovered equalised fifth drive last → EndsEqualisation lanes end
three_say lanes false equalised fifth drive last end r q e = let same : Lost last ≡ end = cc in
    subst (EndsEqualisation lanes) same r
three_say lanes true true fifth drive last end r q e = let same : Done (record { registers = drive }) last ≡ end =
    cc in subst (EndsEqualisation lanes) same (record { recovered = r; equalised = q })
three_say lanes true false true drive last end r q e = let same : Failed last Reads ≡ end = cc in
    subst (EndsEqualisation lanes) same (refl, r, q)
three_say lanes true false false drive last end r q e = absurd (cc)

pub equalisation_honest : (lanes : Lanes) (first : List ℕ) (statuses : List Status6) (n : ℕ) (end : PhaseEnd)
    → equalisation_ends lanes first statuses n ≡ Some end → EndsEqualisation lanes end
unfolding equalisation_ends
equalisation_honest lanes first statuses n end e = three_say lanes _ _ _ _ _ end refl refl (sym e)

-- A fact of every end that the statuses give, and of a failed transaction, is one of every end.
module _ (Is : PhaseEnd → Type 0) (phase : Phase)
    (ended : (statuses : List Status6) (n : ℕ) (end : PhaseEnd) → phase.ending statuses n ≡ Some end → Is end)
    (failed : (why : AuxEnd) → Is (Aux why)) where
  conclusion_says : (status : Status6) (statuses : List Status6) (n : ℕ) (found : Option PhaseEnd)
      (given : Result PhaseEnd AuxEnd) (history : List Entry) → phase.ending statuses n ≡ found
      → Concludes phase status found given history → Is (as_end given)
  conclusion_says status statuses n (Some end) given history e c =
      subst (λ (r : Result PhaseEnd AuxEnd). Is (as_end r)) (sym c.same) (ended statuses n end e)
  conclusion_says status statuses n None given history e c =
      subst (λ (r : Result PhaseEnd AuxEnd). Is (as_end r)) (sym c.same) (failed c.why)

  last_read_says : (statuses : List Status6) (middle : Result Status6 AuxEnd) (given : Result PhaseEnd AuxEnd)
      (back : List Entry)
      → MatchResult middle
      (λ status. Concludes phase status (phase.ending (statuses ++ status ∷ []) (length statuses + 1)) given back)
      (λ error. (given ≡ Err error) × (back ≡ []))
      → Is (as_end given)
  last_read_says statuses (Ok status) given back on =
      conclusion_says status (statuses ++ status ∷ []) (length statuses + 1) _ given back refl on
  last_read_says statuses (Err error) given back on =
      subst (λ (r : Result PhaseEnd AuxEnd). Is (as_end r)) (sym on.0) (failed error)

  rounds_say : (given : Result PhaseEnd AuxEnd) (history : List Entry) → Follows phase given history → Is (as_end given)
  rounds_say given history f = last_read_says f.statuses f.ends.middle given f.ends.back f.ends.goes_on

  start_says : (middle : Result ⊤ AuxEnd) (given : Result PhaseEnd AuxEnd) (back : List Entry)
      → MatchResult middle (λ written. Follows phase given back) (λ error. (given ≡ Err error) × (back ≡ []))
      → Is (as_end given)
  start_says (Ok written) given back on = rounds_say given back on
  start_says (Err error) given back on =
      subst (λ (r : Result PhaseEnd AuxEnd). Is (as_end r)) (sym on.0) (failed error)

  pub takes_always : (chosen : Pattern) (drive : List ℕ) → ResultsAre (Takes phase chosen drive) Is
  takes_always chosen drive given history t =
      subst Is (sym t.same) (start_says t.done.middle t.result t.done.back t.done.goes_on)
