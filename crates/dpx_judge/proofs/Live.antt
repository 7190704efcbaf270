-- What is left of a training has a history, whatever came before: the sink may stay silent. And it is not over.
use Rattle.std.proofs.Common.{◌≡◌, ℕ, zero, suc, ◌-◌, ◌<◌, List, [], ◌∷◌, ◌++◌, length, replicate, refl, sym}
use Rattle.std.proofs.Common.{arith, Result, Err}
use Rattle.std.proofs.lemmas.List.{append-nil, length-replicate}
use Rattle.std.specs.List.{AllByRecursion}
use Rattle.dpx_base.specs.declared.aux_port.Answer.{Answer}
use Rattle.dpx_base.specs.declared.aux_port.Answer.TheVariants.{Silent}
use Rattle.dpx_base.specs.declared.aux_port.Entry.{Entry}
use Rattle.dpx_base.specs.declared.aux_port.Entry.TheVariants.{Waited}
use Rattle.dpx_base.specs.declared.link.Link.{Link}
use Rattle.dpx_aux.specs.declared.asking.LastAnswer.TheVariants as last
use Rattle.dpx_aux.specs.declared.request.Request.{Request}
use Rattle.dpx_aux.specs.declared.request.Request.TheVariants.{Read}
use Rattle.dpx_aux.specs.declared.transaction.AuxEnd.{AuxEnd}
use Rattle.dpx_aux.specs.Asking.{IsInVain, asked_with, asks_at_most}
use Rattle.dpx_aux.specs.Conversation.{◌>>=◌}
use Rattle.dpx_aux.specs.Request.{address_of, encode_request}
use Rattle.dpx_aux.specs.Transaction.{heard_from, spent}
use Rattle.dpx_dpcd.specs.RegisterMap.{lane0_1_status}
use Rattle.dpx_dpcd.specs.Registers.{ReadsStatus}
use Rattle.dpx_dpcd.specs.declared.status.Status6.{Status6}
use Rattle.dpx_link.specs.Inner.{TrainingGives}
use Rattle.dpx_judge.specs.declared.awaited.Awaited.{Awaited}
use Rattle.dpx_judge.specs.declared.awaited.Awaited.TheVariants.{Ask, Wait}
use Rattle.dpx_judge.specs.declared.step.Act.TheVariants as act
use Rattle.dpx_judge.specs.declared.step.Step.{Step}
use Rattle.dpx_judge.specs.declared.step.Step.TheVariants.{BaseBlock, ExtendedField, Power, Configuration, Coding}
use Rattle.dpx_judge.specs.declared.step.Step.TheVariants.{Recovery, Equalisation, Close}
use Rattle.dpx_judge.specs.Machine.{awaits}
use Rattle.dpx_judge.specs.Remainder.{After, Awaits, EqualisationTurn, RecoveryTurn, Rest}
use Rattle.dpx_judge.proofs.Hearing.{asks_first, waited_on, waits_first}
use Rattle.dpx_judge.proofs.Steps.{status_next, wait_next}

-- a part has a history
pub record Lives {R : Type 0} (part : R → List Entry → Type 0) : Type 0 where
  pub given : R
  pub history : List Entry
  pub done : part given history

silence_in_vain : (request : Request) (n : ℕ)
    → AllByRecursion (λ answer. IsInVain (heard_from request answer)) (replicate n Silent)
silence_in_vain request zero = tt
silence_in_vain request (suc n) = (tt, silence_in_vain request n)

ask_lives : {B : Type 0} (request : Request) (in_vain : ℕ) (f : List ℕ → Result B AuxEnd → List Entry → Type 0)
    → in_vain < asks_at_most → Lives (Awaits (Ask request) in_vain >>= f)
ask_lives request in_vain f few =
    let tried : List Answer = replicate (7 - in_vain) Silent in
    let size : length tried ≡ 7 - in_vain = length-replicate (7 - in_vain) Silent in
    let history : List Entry = asked_with (encode_request request) (tried ++ Silent ∷ []) in
    let why : AuxEnd = spent (address_of request) last.Silent in
    record {
      given = Err why;
      history = history;
      done = record {
        middle = Err why;
        front = history;
        back = [];
        joined = sym (append-nil history);
        begins = record {
          tried = tried;
          last = Silent;
          few = omega arith;
          in_vain = silence_in_vain request (7 - in_vain);
          asked = refl;
          ends = (omega arith, refl);
        };
        goes_on = (refl, refl);
      };
    }

wait_lives : {B : Type 0} (micros : ℕ) (f : List ℕ → Result B AuxEnd → List Entry → Type 0) → Lives (f [])
    → Lives (Awaits (Wait micros) 0 >>= f)
wait_lives micros f l = record {
  given = l.given;
  history = Waited micros ∷ l.history;
  done = (wait_next micros f).from l.given (Waited micros ∷ l.history)
      ((waited_on (λ waited. f []) micros).from l.given l.history l.done);
}

status_lives : {B : Type 0} (f : Status6 → Result B AuxEnd → List Entry → Type 0) → Lives (ReadsStatus >>= f)
status_lives f =
    let l = ask_lives (Read lane0_1_status 6) 0 (λ bytes. f (record { bytes = bytes })) (omega arith) in
    record { given = l.given; history = l.history; done = (status_next f).from l.given l.history l.done }

-- where a wait comes next, what follows it
wait_lives_at : (top : Link) (step : Step) (micros : ℕ) → awaits step ≡ Wait micros → Lives (After top step [])
wait_lives_at top BaseBlock micros e = absurd (cc)
wait_lives_at top ExtendedField micros e = absurd (cc)
wait_lives_at top (Power caps) micros e = absurd (cc)
wait_lives_at top (Configuration attempt) micros e = absurd (cc)
wait_lives_at top (Coding attempt) micros e = absurd (cc)
wait_lives_at top (Recovery attempt act.Start level number) micros e = absurd (cc)
wait_lives_at top (Recovery attempt act.Wait level number) micros e = status_lives (RecoveryTurn attempt level number)
wait_lives_at top (Recovery attempt act.Read level number) micros e = absurd (cc)
wait_lives_at top (Recovery attempt act.Adjust level number) micros e = absurd (cc)
wait_lives_at top (Equalisation attempt act.Start drive number) micros e = absurd (cc)
wait_lives_at top (Equalisation attempt act.Wait drive number) micros e =
    status_lives (EqualisationTurn attempt drive number)
wait_lives_at top (Equalisation attempt act.Read drive number) micros e = absurd (cc)
wait_lives_at top (Equalisation attempt act.Adjust drive number) micros e = absurd (cc)
wait_lives_at top (Close verdict) micros e = absurd (cc)

awaited_lives : {B : Type 0} (awaited : Awaited) (in_vain : ℕ) (f : List ℕ → Result B AuxEnd → List Entry → Type 0)
    → in_vain < asks_at_most → ((micros : ℕ) → awaited ≡ Wait micros → Lives (f []))
    → Lives (Awaits awaited in_vain >>= f)
awaited_lives (Wait micros) in_vain f few l = wait_lives micros f (l micros refl)
awaited_lives (Ask request) in_vain f few l = ask_lives request in_vain f few

pub rest_lives : (top : Link) (step : Step) (in_vain : ℕ) → in_vain < asks_at_most → Lives (Rest top step in_vain)
rest_lives top step in_vain few = awaited_lives (awaits step) in_vain (After top step) few (wait_lives_at top step)

-- it has at least one entry
awaits_some : {B : Type 0} (awaited : Awaited) (in_vain : ℕ) (f : List ℕ → Result B AuxEnd → List Entry → Type 0)
    (given : Result B AuxEnd) (history : List Entry) → (Awaits awaited in_vain >>= f) given history → history ≡ [] → ⊥
awaits_some (Wait micros) in_vain f given history t none =
    let first = waits_first given history ((wait_next micros f).to given history t) in
    let e = first.1 in
    absurd (cc)
awaits_some (Ask request) in_vain f given history t none =
    let first = asks_first given history t in
    let e = first.2 in
    absurd (cc)

pub rest_some : (top : Link) (step : Step) (in_vain : ℕ) (given : TrainingGives)
    → Rest top step in_vain given [] → ⊥
rest_some top step in_vain given t = awaits_some (awaits step) in_vain _ given [] t refl
