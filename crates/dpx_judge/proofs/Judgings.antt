-- What a judge says of the entries that it has taken.
use Rattle.std.proofs.Common.{◌≡◌, ℕ, ◌<◌, List, [], ◌∷◌, ◌++◌, refl, sym, ◌∙◌, subst}
use Rattle.std.proofs.Common.{append_assoc, Some}
use Rattle.std.proofs.lemmas.List.{append-nil}
use Rattle.dpx_base.specs.declared.aux_port.Entry.{Entry}
use Rattle.dpx_base.specs.declared.link.Link.{Link}
use Rattle.dpx_aux.specs.Asking.{asks_at_most}
use Rattle.dpx_aux.specs.Conversation.{Ends}
use Rattle.dpx_link.specs.Inner.{TrainingGives}
use Rattle.dpx_link.specs.Training.{TrainOutcome}
use Rattle.dpx_judge.specs.declared.judge.Judge.{Judge}
use Rattle.dpx_judge.specs.declared.step.Step.{Step}
use Rattle.dpx_judge.specs.declared.step.Step.TheVariants.{BaseBlock}
use Rattle.dpx_judge.specs.declared.turn.Turn.{Turn}
use Rattle.dpx_judge.specs.Judge.{GoesOn, StandsFor}
use Rattle.dpx_judge.specs.Remainder.{Left, Rest, Same}
use Rattle.dpx_judge.specs.Transcript.{IsFront, IsShort, IsWhole, ending_at}
use Rattle.dpx_judge.proofs.Live.{rest_lives, rest_some}
use Rattle.dpx_judge.proofs.Steps.{starts_left}
use Rattle.dpx_judge.proofs.Transcripts.{whole_of}

-- the part that is left of a training behind these entries
abbrev Remains : Link → List Entry → (TrainingGives → List Entry → Type 0) → Type 0
Remains top entries part = Same (λ given rest. TrainOutcome top given (entries ++ rest)) part

-- one entry more
remains_on : (top : Link) (entries : List Entry) (entry : Entry) (step : Step) (in_vain : ℕ)
    (part : TrainingGives → List Entry → Type 0) → Remains top entries (Rest top step in_vain)
    → Same (Left top step in_vain entry) part → Remains top (entries ++ entry ∷ []) part
remains_on top entries entry step in_vain part r s = record {
  to = λ given rest t.
      s.to given rest (r.to given (entry ∷ rest)
      (subst (TrainOutcome top given) (append_assoc entries (entry ∷ []) rest) t));
  from = λ given rest p.
      subst (TrainOutcome top given) (sym (append_assoc entries (entry ∷ []) rest))
      (r.from given (entry ∷ rest) (s.from given rest p));
}

-- what is left of a training makes the entries a front of one, and not the whole
short_of : (top : Link) (entries : List Entry) (step : Step) (in_vain : ℕ) → in_vain < asks_at_most
    → Remains top entries (Rest top step in_vain) → IsShort top entries
short_of top entries step in_vain few r =
    let l = rest_lives top step in_vain few in
    record {
      front = record {
        rest = l.history;
        ending = ending_at l.given;
        whole = whole_of top l.given (entries ++ l.history) (r.from l.given l.history l.done);
      };
      unended = λ ending w.
          rest_some top step in_vain w.training.outcome (r.to w.training.outcome []
          (subst (TrainOutcome top w.training.outcome) (sym (append-nil entries)) w.training.trains));
    }

-- where a judge stands that stands for these entries
remains_at : (top : Link) (entries : List Entry) (judge : Judge) (turn : Turn) → judge.turn ≡ Some turn
    → StandsFor top entries judge → Remains top entries (Rest top turn.step turn.in_vain)
remains_at top entries judge turn e s =
    let same : s.turn ≡ turn = (let f = s.stands in cc) in
    subst (λ (t : Turn). Remains top entries (Rest top t.step t.in_vain)) same s.remains

left_of_top : (top : Link) (entries : List Entry) (judge : Judge) (turn : Turn) (entry : Entry)
    (part : Link → TrainingGives → List Entry → Type 0) → StandsFor top entries judge
    → Same (Left judge.top turn.step turn.in_vain entry) (part judge.top)
    → Same (Left top turn.step turn.in_vain entry) (part top)
left_of_top top entries judge turn entry part s l =
    subst (λ (t : Link). Same (Left t turn.step turn.in_vain entry) (part t)) s.of_top l

-- it goes on
pub stands_on : (top : Link) (entries : List Entry) (entry : Entry) (judge now : Judge) (turn next : Turn)
    → judge.turn ≡ Some turn → now.top ≡ judge.top → now.turn ≡ Some next
    → Same (Left judge.top turn.step turn.in_vain entry) (Rest judge.top next.step next.in_vain)
    → StandsFor top entries judge → GoesOn top (entries ++ entry ∷ []) now
stands_on top entries entry judge now turn next e kept stands l s =
    let part : Link → TrainingGives → List Entry → Type 0 = λ t. Rest t next.step next.in_vain in
    let r = remains_on top entries entry turn.step turn.in_vain (part top) (remains_at top entries judge turn e s)
    (left_of_top top entries judge turn entry part s l) in
    record {
      short = short_of top (entries ++ entry ∷ []) next.step next.in_vain next.few r;
      stands = record { of_top = kept ∙ s.of_top; turn = next; stands = stands; remains = r };
    }

-- it ends
pub stands_ended : (top : Link) (entries : List Entry) (entry : Entry) (judge : Judge) (turn : Turn)
    (outcome : TrainingGives) → judge.turn ≡ Some turn
    → Same (Left judge.top turn.step turn.in_vain entry) (Ends outcome) → StandsFor top entries judge
    → IsWhole top (ending_at outcome) (entries ++ entry ∷ [])
stands_ended top entries entry judge turn outcome e l s =
    let r = remains_on top entries entry turn.step turn.in_vain (Ends outcome) (remains_at top entries judge turn e s)
    (left_of_top top entries judge turn entry (λ t. Ends outcome) s l) in
    let whole = entries ++ entry ∷ [] in
    whole_of top outcome whole (subst (TrainOutcome top outcome) (append-nil whole)
    (r.from outcome [] (record { same = refl; nothing = refl })))

-- it differs
pub stands_differed : (top : Link) (entries : List Entry) (entry : Entry) (judge : Judge) (turn : Turn)
    → judge.turn ≡ Some turn
    → ((given : TrainingGives) (rest : List Entry) → Left judge.top turn.step turn.in_vain entry given rest → ⊥)
    → StandsFor top entries judge → IsFront top (entries ++ entry ∷ []) → ⊥
stands_differed top entries entry judge turn e none s f =
    let r = remains_at top entries judge turn e s in
    let none' : (given : TrainingGives) (rest : List Entry) → Left top turn.step turn.in_vain entry given rest → ⊥ =
    subst (λ (t : Link). (given : TrainingGives) (rest : List Entry)
    → Left t turn.step turn.in_vain entry given rest → ⊥) s.of_top none in
    let t = f.whole.training in
    none' t.outcome f.rest (r.to t.outcome (entry ∷ f.rest)
    (subst (TrainOutcome top t.outcome) (append_assoc entries (entry ∷ []) f.rest) t.trains))

-- a judge that has taken nothing
pub stands_first : (top : Link) (judge : Judge) (turn : Turn) → judge.top ≡ top → judge.turn ≡ Some turn
    → turn.step ≡ BaseBlock → turn.in_vain ≡ 0 → StandsFor top [] judge
stands_first top judge turn of_top stands first none = record {
  of_top = of_top;
  turn = turn;
  stands = stands;
  remains = subst (λ (step : Step). Same (TrainOutcome top) (Rest top step turn.in_vain)) (sym first)
      (subst (λ (n : ℕ). Same (TrainOutcome top) (Rest top BaseBlock n)) (sym none) (starts_left top));
}

pub stands_short : (top : Link) (entries : List Entry) (judge : Judge) → StandsFor top entries judge
    → IsShort top entries
stands_short top entries judge s = short_of top entries s.turn.step s.turn.in_vain s.turn.few s.remains
