-- The verdict on a list, entry by entry.
use Rattle.std.proofs.Common.{◌≡◌, ℕ, ◌+◌, ◌<◌, ◌≤◌, List, [], ◌∷◌, ◌++◌, length, take, get_or, sym, ap, ◌∙◌, subst}
use Rattle.std.proofs.Common.{append_assoc}
use Rattle.std.proofs.lemmas.List.{take_all, take_more, take-take}
use Rattle.dpx_base.specs.declared.aux_port.Entry.{Entry}
use Rattle.dpx_base.specs.declared.link.Link.{Link}
use Rattle.dpx_judge.specs.declared.judge.Judge.{Judge}
use Rattle.dpx_judge.specs.declared.judge.JudgeStep.{JudgeStep}
use Rattle.dpx_judge.specs.declared.judge.JudgeStep.TheVariants as step
use Rattle.dpx_judge.specs.declared.verdict.Ending.{Ending}
use Rattle.dpx_judge.specs.declared.verdict.Verdict.{Verdict}
use Rattle.dpx_judge.specs.declared.verdict.Verdict.TheVariants.{Differs, Short, Yes}
use Rattle.dpx_judge.specs.Judge.{GoesOn, IsJudged, IsJudgedSoFar, IsOver, StandsFor}
use Rattle.dpx_judge.specs.Transcript.{DiffersAt, IsFront, IsVerdict, IsWhole}
use Rattle.dpx_judge.proofs.Judgings.{stands_short}
use Rattle.dpx_judge.proofs.Transcripts.{ends_once, front_take, whole_front}

-- a judge that has taken nothing
pub judged_first : (top : Link) (judge : Judge) → StandsFor top [] judge → GoesOn top [] judge
judged_first top judge s = record { short = stands_short top [] judge s; stands = s }

-- what a judge does at an entry, whatever it stands for
pub record Feeds (entry : Entry) (before now : Judge) (given : JudgeStep) : Type 0 where
  pub judged : (top : Link) (entries : List Entry) → StandsFor top entries before
      → IsJudged top (entries ++ entry ∷ []) given now
  pub again : IsOver before → (given ≡ step.Differs) × IsOver now

-- no history of a training goes on behind a whole one
none_behind : (top : Link) (ending : Ending) (front : List Entry) (entry : Entry) → IsWhole top ending front
    → IsFront top (front ++ entry ∷ []) → ⊥
none_behind top ending front entry w f =
    let again : IsWhole top f.ending (front ++ (entry ∷ f.rest)) =
    subst (IsWhole top f.ending) (append_assoc front (entry ∷ []) f.rest) f.whole in
    let more = (ends_once top ending f.ending front (entry ∷ f.rest) w again).0 in
    absurd (cc)

judged_next : (top : Link) (front : List Entry) (entry : Entry) (before now : Judge) (verdict : Verdict)
    (given : JudgeStep) → Feeds entry before now given → IsJudgedSoFar top front verdict before
    → IsJudged top (front ++ entry ∷ []) given now
judged_next top front entry before now Short given feeds j = feeds.judged top front j.stands
judged_next top front entry before now (Yes ending) given feeds j =
    let over = feeds.again j.over in
    subst (λ (g : JudgeStep). IsJudged top (front ++ entry ∷ []) g now) (sym over.0)
    (record { none = none_behind top ending front entry j.whole; over = over.1 })
judged_next top front entry before now (Differs place) given feeds j = absurd j

judged_at : (top : Link) (entries : List Entry) (place : ℕ) (entry : Entry) (before now : Judge)
    (verdict : Verdict) (given : JudgeStep) → place < length entries → entry ≡ get_or entries place entry
    → Feeds entry before now given → IsJudgedSoFar top (take place entries) verdict before
    → IsJudged top (take (place + 1) entries) given now
judged_at top entries place entry before now verdict given within is feeds j =
    let more : take place entries ++ entry ∷ [] ≡ take (place + 1) entries =
    ap (λ e. take place entries ++ e ∷ []) is ∙ sym (take_more entries place entry within) in
    subst (λ (es : List Entry). IsJudged top es given now) more
    (judged_next top (take place entries) entry before now verdict given feeds j)

-- the verdict so far, where they go on or end
pub more_at : (top : Link) (entries : List Entry) (place : ℕ) (entry : Entry) (before now : Judge)
    (verdict next : Verdict) (given : JudgeStep) → place < length entries → entry ≡ get_or entries place entry
    → Feeds entry before now given → given ≡ step.More → next ≡ Short
    → IsJudgedSoFar top (take place entries) verdict before → IsJudgedSoFar top (take (place + 1) entries) next now
more_at top entries place entry before now verdict next given within is feeds more short j =
    subst (λ (v : Verdict). IsJudgedSoFar top (take (place + 1) entries) v now) (sym short)
    (subst (λ (g : JudgeStep). IsJudged top (take (place + 1) entries) g now) more
    (judged_at top entries place entry before now verdict given within is feeds j))

pub ended_at : (top : Link) (entries : List Entry) (place : ℕ) (entry : Entry) (before now : Judge)
    (verdict next : Verdict) (given : JudgeStep) (ending : Ending) → place < length entries
    → entry ≡ get_or entries place entry
    → Feeds entry before now given → given ≡ step.Ended ending → next ≡ Yes ending
    → IsJudgedSoFar top (take place entries) verdict before → IsJudgedSoFar top (take (place + 1) entries) next now
ended_at top entries place entry before now verdict next given ending within is feeds ended says j =
    subst (λ (v : Verdict). IsJudgedSoFar top (take (place + 1) entries) v now) (sym says)
    (subst (λ (g : JudgeStep). IsJudged top (take (place + 1) entries) g now) ended
    (judged_at top entries place entry before now verdict given within is feeds j))

-- the entries so far are a front
front_so_far : (top : Link) (entries : List Entry) (verdict : Verdict) (judge : Judge)
    → IsJudgedSoFar top entries verdict judge → IsFront top entries
front_so_far top entries Short judge j = j.short.front
front_so_far top entries (Yes ending) judge j = whole_front top ending entries j.whole
front_so_far top entries (Differs place) judge j = absurd j

pub differs_at : (top : Link) (entries : List Entry) (place : ℕ) (entry : Entry) (before now : Judge)
    (verdict : Verdict) (given : JudgeStep) → place < length entries → entry ≡ get_or entries place entry
    → Feeds entry before now given → given ≡ step.Differs → IsJudgedSoFar top (take place entries) verdict before
    → DiffersAt top entries place
differs_at top entries place entry before now verdict given within is feeds differs j =
    let d = subst (λ (g : JudgeStep). IsJudged top (take (place + 1) entries) g now) differs
    (judged_at top entries place entry before now verdict given within is feeds j) in
    record {
      within = within;
      before = λ count few.
          subst (IsFront top) (take-take count place entries few)
          (front_take top (take place entries) count (front_so_far top (take place entries) verdict before j));
      here = d.none;
    }

-- all entries were taken
verdict_of : (top : Link) (entries : List Entry) (verdict : Verdict) (judge : Judge)
    → IsJudgedSoFar top entries verdict judge → IsVerdict top entries verdict
verdict_of top entries Short judge j = j.short
verdict_of top entries (Yes ending) judge j = j.whole
verdict_of top entries (Differs place) judge j = absurd j

pub verdict_at_end : (top : Link) (entries : List Entry) (place : ℕ) (verdict : Verdict) (judge : Judge)
    → length entries ≤ place → IsJudgedSoFar top (take place entries) verdict judge → IsVerdict top entries verdict
verdict_at_end top entries place verdict judge all j =
    subst (λ (es : List Entry). IsVerdict top es verdict) (take_all place entries all)
    (verdict_of top (take place entries) verdict judge j)
