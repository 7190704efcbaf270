-- Fronts and whole histories of trainings.
use Rattle.std.proofs.Common.{◌≡◌, ℕ, ◌+◌, ◌<◌, ◌≤◌, ◌⊎◌, inl, inr, List, [], ◌++◌, take, drop, refl, sym, ap}
use Rattle.std.proofs.Common.{◌∙◌, subst, arith, append_assoc, Ok, Err}
use Rattle.std.proofs.lemmas.Bool.{cases_lt}
use Rattle.std.proofs.lemmas.List.{append-nil, append_cancel_left, take-append-drop}
use Rattle.dpx_base.specs.declared.aux_port.Entry.{Entry}
use Rattle.dpx_base.specs.declared.link.Link.{Link}
use Rattle.dpx_base.specs.Port.{answers_in, asks}
use Rattle.dpx_base.proofs.Port.{answers_in-append}
use Rattle.dpx_dpcd.specs.Status.{AllLanesDone}
use Rattle.dpx_phase.proofs.LastStatus.{forget_drive}
use Rattle.dpx_link.specs.declared.train_end.TrainEnd.{TrainEnd}
use Rattle.dpx_link.specs.declared.train_end.TrainEnd.TheVariants as train
use Rattle.dpx_link.specs.declared.train_end.Verdict.TheVariants as outcome
use Rattle.dpx_link.specs.Inner.{TrainingGives}
use Rattle.dpx_link.specs.LastStatus.{TrainingIsRead}
use Rattle.dpx_link.specs.Training.{TrainOutcome, TrainedIsDone, end_of}
use Rattle.dpx_link.proofs.Decided.{training_decided}
use Rattle.dpx_link.proofs.LastStatus.{training_read}
use Rattle.dpx_link.proofs.TrainedIsDone.{training_good}
use Rattle.dpx_judge.specs.declared.verdict.Ending.{Ending}
use Rattle.dpx_judge.specs.declared.verdict.Ending.TheVariants.{Trained}
use Rattle.dpx_judge.specs.declared.verdict.Verdict.{Verdict}
use Rattle.dpx_judge.specs.declared.verdict.Verdict.TheVariants.{Differs, Short, Yes}
use Rattle.dpx_judge.specs.Transcript.{DiffersAt, IsFront, IsVerdict, IsWhole, ShowsGood, ending_at, ending_of}

-- an outcome and its end show the same ending
ending_same : (asked : ℕ) (given : TrainingGives) → ending_at given ≡ ending_of (end_of asked given)
ending_same asked (Ok (outcome.Trained link drive last)) = refl
ending_same asked (Ok (outcome.NotTrained last)) = refl
ending_same asked (Ok (outcome.CapsRefused why)) = refl
ending_same asked (Err why) = refl

-- a conversation of a training is a whole history
pub whole_of : (top : Link) (given : TrainingGives) (entries : List Entry) → TrainOutcome top given entries
    → IsWhole top (ending_at given) entries
whole_of top given entries t = record {
  end = end_of (asks entries) given;
  training = record { outcome = given; trains = t; ends = refl };
  ends = ending_same (asks entries) given;
}

pub whole_front : (top : Link) (ending : Ending) (entries : List Entry) → IsWhole top ending entries
    → IsFront top entries
whole_front top ending entries w = record {
  rest = [];
  ending = ending;
  whole = subst (IsWhole top ending) (sym (append-nil entries)) w;
}

pub front_of : (top : Link) (front back : List Entry) → IsFront top (front ++ back) → IsFront top front
front_of top front back f = record {
  rest = back ++ f.rest;
  ending = f.ending;
  whole = subst (IsWhole top f.ending) (append_assoc front back f.rest) f.whole;
}

pub front_take : (top : Link) (entries : List Entry) (count : ℕ) → IsFront top entries → IsFront top (take count entries)
front_take top entries count f =
    front_of top (take count entries) (drop count entries)
    (subst (IsFront top) (sym (take-append-drop count entries)) f)

pub ends_once : (top : Link) (a b : Ending) (front back : List Entry) → IsWhole top a front
    → IsWhole top b (front ++ back) → (back ≡ []) × (a ≡ b)
ends_once top a b front back v w =
    let answers = sym (answers_in-append front back) ∙ sym (append-nil (answers_in (front ++ back))) in
    let same = training_decided top v.end w.end front (front ++ back) (answers_in back) [] v.training w.training answers in (
      append_cancel_left front back [] (sym same.0 ∙ sym (append-nil front)),
      v.ends ∙ ap ending_of same.1 ∙ sym w.ends,
    )

pub one_end : (top : Link) (a b : Ending) (entries : List Entry) → IsWhole top a entries → IsWhole top b entries → a ≡ b
one_end top a b entries v w =
    (ends_once top a b entries [] v (subst (IsWhole top b) (sym (append-nil entries)) w)).1

-- a front differs at no place
no_difference : {C : Type 0} (top : Link) (entries : List Entry) (place : ℕ) → IsFront top entries
    → DiffersAt top entries place → C
no_difference top entries place f d = absurd (d.here (front_take top entries (place + 1) f))

no_later : (top : Link) (entries : List Entry) (i j : ℕ) → DiffersAt top entries i → DiffersAt top entries j → i < j → ⊥
no_later top entries i j a b later = a.here (b.before (i + 1) (omega arith))

same_place : (top : Link) (entries : List Entry) (i j : ℕ) → DiffersAt top entries i → DiffersAt top entries j
    → (i < j) ⊎ (j ≤ i) → (j < i) ⊎ (i ≤ j) → i ≡ j
same_place top entries i j a b (inl less) q = absurd (no_later top entries i j a b less)
same_place top entries i j a b (inr p) (inl less) = absurd (no_later top entries j i b a less)
same_place top entries i j a b (inr p) (inr q) = omega arith

pub verdicts_same : (top : Link) (entries : List Entry) (a b : Verdict) → IsVerdict top entries a
    → IsVerdict top entries b → a ≡ b
verdicts_same top entries (Yes a) (Yes b) v w = ap (λ ending. Yes ending) (one_end top a b entries v w)
verdicts_same top entries (Yes a) Short v w = absurd (w.unended a v)
verdicts_same top entries (Yes a) (Differs j) v w = no_difference top entries j (whole_front top a entries v) w
verdicts_same top entries Short (Yes b) v w = absurd (v.unended b w)
verdicts_same top entries Short Short v w = refl
verdicts_same top entries Short (Differs j) v w = no_difference top entries j v.front w
verdicts_same top entries (Differs i) (Yes b) v w = no_difference top entries i (whole_front top b entries w) v
verdicts_same top entries (Differs i) Short v w = no_difference top entries i w.front v
verdicts_same top entries (Differs i) (Differs j) v w =
    ap (λ place. Differs place) (same_place top entries i j v w (cases_lt i j) (cases_lt j i))

-- trained only with a good last status
good_of : (link : Link) (end : TrainEnd) (entries : List Entry) → Trained link ≡ ending_of end → TrainedIsDone end
    → TrainingIsRead end entries → ShowsGood link entries
good_of link (train.Trained other drive last requests) entries e good read =
    let same : other ≡ link = cc in
    record {
      last = last;
      read = forget_drive other.lanes drive last entries read;
      good = subst (λ (l : Link). AllLanesDone l.lanes last) same good;
    }
good_of link (train.NotTrained last requests) entries e good read = absurd (cc)
good_of link (train.CapsRefused why requests) entries e good read = absurd (cc)
good_of link (train.AuxEnded why requests) entries e good read = absurd (cc)

pub trained_good : (top : Link) (link : Link) (entries : List Entry) → IsWhole top (Trained link) entries
    → ShowsGood link entries
trained_good top link entries w =
    good_of link w.end entries w.ends (training_good top w.end entries w.training)
    (training_read top w.end entries w.training)
