-- The two phases of an attempt, as one part behind the other.
use Rattle.std.proofs.Common.{◌≡◌, List, [], ◌++◌, refl, sym, ap, ◌∙◌, subst, Result, Ok, Err, MatchResult}
use Rattle.std.proofs.lemmas.List.{append-nil}
use Rattle.dpx_base.specs.declared.aux_port.Entry.{Entry}
use Rattle.dpx_base.specs.declared.link.Link.{Link}
use Rattle.dpx_aux.specs.declared.transaction.AuxEnd.{AuxEnd}
use Rattle.dpx_aux.specs.Conversation.{Ends, ◌>>=◌}
use Rattle.dpx_dpcd.specs.declared.caps.Caps.{Caps}
use Rattle.dpx_dpcd.specs.declared.pattern.Pattern.TheVariants.{Tps1}
use Rattle.dpx_dpcd.specs.declared.status.Drive.{Drive}
use Rattle.dpx_dpcd.specs.Caps.{caps_pattern}
use Rattle.dpx_phase.specs.declared.phase_end.PhaseEnd.{PhaseEnd}
use Rattle.dpx_phase.specs.Drives.{no_drive}
use Rattle.dpx_phase.specs.Equalisation.{Equalisation, equalisation, pause_of}
use Rattle.dpx_phase.specs.Phase.{Runs, as_end}
use Rattle.dpx_phase.specs.Recovery.{Recovery, recovery}
use Rattle.dpx_link.specs.Attempt.{AfterRecovery, Equalises, PhasesInTurn, equalised}
use Rattle.dpx_link.specs.Inner.{AttemptGives}
use Rattle.dpx_judge.specs.Remainder.{Same}

recovery_to : (caps : Caps) (link : Link) (result : Result PhaseEnd AuxEnd) (end : PhaseEnd) (given : AttemptGives)
    (back : List Entry) → end ≡ as_end result → AfterRecovery caps link end given back
    → MatchResult result (λ end. AfterRecovery caps link end given back) (λ error. (given ≡ Err error) × (back ≡ []))
recovery_to caps link (Ok e) end given back ends on =
    subst (λ (x : PhaseEnd). AfterRecovery caps link x given back) ends on
recovery_to caps link (Err why) end given back ends on =
    let on' = subst (λ (x : PhaseEnd). AfterRecovery caps link x given back) ends on in (on'.same, on'.nothing)

recovery_from : (caps : Caps) (link : Link) (result : Result PhaseEnd AuxEnd) (given : AttemptGives) (back : List Entry)
    → MatchResult result (λ end. AfterRecovery caps link end given back) (λ error. (given ≡ Err error) × (back ≡ []))
    → AfterRecovery caps link (as_end result) given back
recovery_from caps link (Ok e) given back on = on
recovery_from caps link (Err why) given back on = record { same = on.0; nothing = on.1 }

pub phases_same : (caps : Caps) (link : Link)
    → Same (PhasesInTurn caps link) (Runs (recovery link.lanes) Tps1 no_drive >>= AfterRecovery caps link)
unfolding Recovery
phases_same caps link = record {
  to = λ given history p. record {
    middle = p.recovery.result;
    front = p.front;
    back = p.back;
    joined = p.joined;
    begins = p.recovery.done;
    goes_on = recovery_to caps link p.recovery.result p.end given p.back p.recovery.same p.goes_on;
  };
  from = λ given history t. record {
    end = as_end t.middle;
    front = t.front;
    back = t.back;
    joined = t.joined;
    recovery = record { result = t.middle; same = refl; done = t.begins };
    goes_on = recovery_from caps link t.middle given t.back t.goes_on;
  };
}

equalisation_to : (result : Result PhaseEnd AuxEnd) (end : PhaseEnd) (given : AttemptGives) (back : List Entry)
    → back ≡ [] → end ≡ as_end result → given ≡ equalised end
    → MatchResult result (λ end. Ends {R = AttemptGives} (equalised end) given back)
    (λ error. (given ≡ Err error) × (back ≡ []))
equalisation_to (Ok e) end given back none ends means =
    record { same = means ∙ ap equalised ends; nothing = none }
equalisation_to (Err why) end given back none ends means = (means ∙ ap equalised ends, none)

equalisation_from : (result : Result PhaseEnd AuxEnd) (given : AttemptGives) (history front back : List Entry)
    → history ≡ front ++ back
    → MatchResult result (λ end. Ends {R = AttemptGives} (equalised end) given back)
    (λ error. (given ≡ Err error) × (back ≡ [])) → (given ≡ equalised (as_end result)) × (front ≡ history)
equalisation_from (Ok e) given history front back joined on =
    (on.same, sym (joined ∙ ap (λ xs. front ++ xs) on.nothing ∙ append-nil front))
equalisation_from (Err why) given history front back joined on =
    (on.0, sym (joined ∙ ap (λ xs. front ++ xs) on.1 ∙ append-nil front))

pub equalises_as : (caps : Caps) (link : Link) (drive : Drive)
    → Same (Equalises caps link drive)
    (Runs (equalisation link.lanes drive.registers (pause_of caps.interval)) (caps_pattern caps) drive.registers
    >>= λ end. Ends (equalised end))
unfolding Equalisation
equalises_as caps link drive = record {
  to = λ given history e. record {
    middle = e.phase.result;
    front = history;
    back = [];
    joined = sym (append-nil history);
    begins = e.phase.done;
    goes_on = equalisation_to e.phase.result e.end given [] refl e.phase.same e.means;
  };
  from = λ given history t.
      let back = equalisation_from t.middle given history t.front t.back t.joined t.goes_on in
      record {
        end = as_end t.middle;
        phase = record {
          result = t.middle;
          same = refl;
          done = subst (Runs (equalisation link.lanes drive.registers (pause_of caps.interval)) (caps_pattern caps)
              drive.registers t.middle) back.1 t.begins;
        };
        means = back.0;
      };
}
