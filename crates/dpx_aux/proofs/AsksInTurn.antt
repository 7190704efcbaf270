-- A request that is asked in turn, ask by ask.
use Rattle.std.proofs.Common.{◌≡◌, ℕ, ◌+◌, ◌<◌, List, [], ◌∷◌, ◌++◌, length, refl, sym, subst, arith, length-append}
use Rattle.std.proofs.Common.{Result}
use Rattle.std.proofs.lemmas.List.{map-append}
use Rattle.std.specs.List.{AllByRecursion}
use Rattle.dpx_base.specs.declared.aux_port.Answer.{Answer}
use Rattle.dpx_base.specs.declared.aux_port.Entry.{Entry}
use Rattle.dpx_base.specs.declared.aux_port.Entry.TheVariants.{Asked}
use Rattle.dpx_base.specs.Port.{PortState, Added}
use Rattle.dpx_base.proofs.Port.{Added-append, Added-nothing}
use Rattle.dpx_aux.specs.declared.asking.Heard.{Heard}
use Rattle.dpx_aux.specs.declared.asking.Heard.TheVariants.{InVain}
use Rattle.dpx_aux.specs.declared.asking.LastAnswer.{LastAnswer}
use Rattle.dpx_aux.specs.Asking.{AsksInTurn, Hears, IsInVain, EndsAs, asks_at_most, asked_with}
use Rattle.dpx_aux.specs.Conversation.{Converses}

-- count answers were in vain
pub record AskedInVain {E Plan : Type 0} (bytes : List ℕ) (heard_from : Answer → Heard E) (count : ℕ)
    (before now : PortState Plan) : Type 0 where
  pub tried : List Answer
  pub counted : length tried ≡ count
  pub in_vain : AllByRecursion (λ answer. IsInVain (heard_from answer)) tried
  pub added : Added (asked_with bytes tried) before now
  pub asked : now.asked ≡ before.asked + count

pub not_asked_yet : {E Plan : Type 0} (bytes : List ℕ) (heard_from : Answer → Heard E) (state : PortState Plan)
    → AskedInVain bytes heard_from 0 state state
not_asked_yet bytes heard_from state = record {
  tried = [];
  counted = refl;
  in_vain = tt;
  added = Added-nothing state;
  asked = omega arith;
}

AllByRecursion-push : {X : Type 0} (P : X → Type 0) (xs : List X) (y : X) → AllByRecursion P xs → P y
    → AllByRecursion P (xs ++ y ∷ [])
AllByRecursion-push P [] y all p = (p, tt)
AllByRecursion-push P (x ∷ xs) y all p = (all.0, AllByRecursion-push P xs y all.1 p)

asked_with-push : (bytes : List ℕ) (xs : List Answer) (y : Answer)
    → asked_with bytes (xs ++ y ∷ []) ≡ asked_with bytes xs ++ asked_with bytes (y ∷ [])
asked_with-push bytes xs y = map-append (λ answer. Asked bytes answer) xs (y ∷ [])

-- one more ask, and what it added in all
added_with : {E Plan : Type 0} {bytes : List ℕ} {heard_from : Answer → Heard E} {count : ℕ}
    {before middle now : PortState Plan} {heard : Heard E}
    (t : AskedInVain bytes heard_from count before middle) (h : Hears bytes heard_from middle now heard)
    → Added (asked_with bytes (t.tried ++ h.answer ∷ [])) before now
added_with {bytes = bytes} {before = before} {now = now} t h =
    subst (λ (entries : List Entry). Added entries before now) (sym (asked_with-push bytes t.tried h.answer))
    (Added-append t.added h.added)

-- one more ask in vain
pub asked_more : {E Plan : Type 0} {bytes : List ℕ} {heard_from : Answer → Heard E} {count next : ℕ}
    {before middle now : PortState Plan} {last : LastAnswer} → AskedInVain bytes heard_from count before middle
    → Hears bytes heard_from middle now (InVain last) → next ≡ count + 1
    → AskedInVain bytes heard_from next before now
asked_more t h more = record {
  tried = t.tried ++ h.answer ∷ [];
  counted = omega (arith, length-append t.tried (h.answer ∷ []), t.counted);
  in_vain = AllByRecursion-push _ t.tried h.answer t.in_vain (subst IsInVain h.meant tt);
  added = added_with t h;
  asked = omega (arith, t.asked, h.added.asked);
}

-- the ask that ends it
pub ends_as : {E Plan : Type 0} {bytes : List ℕ} {heard_from : Answer → Heard E} (spent : LastAnswer → E) {count : ℕ}
    {before middle now : PortState Plan} {heard : Heard E} {given : Result (List ℕ) E}
    → AskedInVain bytes heard_from count before middle → Hears bytes heard_from middle now heard
    → count < asks_at_most → EndsAs spent (count + 1) heard given
    → Converses (AsksInTurn bytes heard_from spent) before now given
ends_as {bytes = bytes} {heard_from = heard_from} spent {count = count} {heard = heard} {given = given} t h few ends =
    record {
      entries = asked_with bytes (t.tried ++ h.answer ∷ []);
      added = added_with t h;
      done = record {
        tried = t.tried;
        last = h.answer;
        few = omega (arith, t.counted);
        in_vain = t.in_vain;
        asked = refl;
        ends = subst (λ (n : ℕ). EndsAs spent (n + 1) (heard_from h.answer) given) (sym t.counted)
            (subst (λ (means : Heard _). EndsAs spent (count + 1) means given) h.meant ends);
      };
    }
